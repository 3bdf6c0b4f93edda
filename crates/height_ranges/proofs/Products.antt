-- Where the span of a grid's cells is finite, so is every vertex's place along the axis. Assumes nothing.
use Prim.Native.Nat.{ℕ, ◌*◌, ◌^◌, ◌≤◌, ◌<◌}
use mathlib.Core.Path.{◌≡◌, refl, sym, ap, ◌∙◌}
use mathlib.Core.Bool.{Bool, true, false, false≢true}
use native.Mathlib.Nat.{mul-le-mul_right, mul-pos, mul_comm}
use native.Mathlib.Omega.{arith}
use lib.Dec.{T}
use lib.IntN.{ℤ, pos}
use lib.Ieee.{Float, nan, inf, fin, binary64, up, down, unlike, round, mul, le, of_int}
use lib.Ieee.Fits.{down_pos}
use lib.Ieee.Exact.{HasValue}
use lib.Ieee.Scale.{round_same}
use lib.Ieee.Order.{round_mono}
use Rattle.arithmetic.specs.Basic.{is_finite, absolute}
use Rattle.arithmetic.proofs.Exactness.{of_int_value}
use Rattle.arithmetic.proofs.RoundedSigns.{absolute_round}
use Rattle.arithmetic.proofs.Patterns.{absolute_finite}
use Rattle.vectors.specs.Numbers.{◌*ᶠ◌}
use Rattle.height_field.specs.Grid.{float_of}

-- ---- finite by order

-- at most a finite number and not below 0
below_finite : (x y : Float) → le (absolute x) y ≡ true → is_finite y ≡ true → is_finite (absolute x) ≡ true
unfolding le absolute is_finite
below_finite nan y h k = absurd (false≢true h)
below_finite (inf s) nan h k = absurd (false≢true k)
below_finite (inf s) (inf t) h k = absurd (false≢true k)
below_finite (inf s) (fin t n d) h k = absurd (false≢true h)
below_finite (fin s m e) y h k = refl

true_of : (b : Bool) → T b → b ≡ true
true_of true t = refl
true_of false t = elim t [ ]

rounded_finite : (a b c d : ℕ) → 0 < b → 0 < d → a * d ≤ c * b → is_finite (round binary64 false c d) ≡ true
    → is_finite (round binary64 false a b) ≡ true
rounded_finite a b c d p q h k =
    let e = absolute_round binary64 false a b in
    let order : le (absolute (round binary64 false a b)) (round binary64 false c d) ≡ true = ap
    (λ (x : Float). le x (round binary64 false c d)) e ∙ true_of _ (round_mono binary64 a b c d p q h) in
    ap is_finite (sym e) ∙ below_finite (round binary64 false a b) (round binary64 false c d) order k

-- ---- a whole number times a spacing, from either side

-- the sign has no say
either_sign : (s : Bool) (a b : ℕ) → is_finite (round binary64 s a b) ≡ is_finite (round binary64 false a b)
either_sign s a b = sym (absolute_finite (round binary64 s a b)) ∙ ap is_finite (absolute_round binary64 s a b)

-- k / d is n, so that k M / (d c) is n M / c
moved : (k d n M c : ℕ) → k * 1 ≡ n * d → k * M * c ≡ n * M * (d * c)
moved k d n M c h =
    let e : k ≡ n * d = omega arith in
    ap (λ (x : ℕ). x * M * c) e ∙ omega arith

module _ (s : Bool) (m : ℕ) (e : ℤ) where
  before_spacing : (x : Float) (n : ℕ) → HasValue x false n 1
      → is_finite (mul binary64 x (fin s m e)) ≡ is_finite (round binary64 false (n * (m * up e)) (down e))
  unfolding mul
  before_spacing nan n h = absurd h
  before_spacing (inf t) n h = absurd h
  before_spacing (fin t k d) n h =
      either_sign (unlike t s) (k * up d * (m * up e)) (down d * down e)
      ∙ ap is_finite (round_same binary64 false (k * up d * (m * up e)) (down d * down e) (n * (m * up e)) (down e)
      (mul-pos (down_pos d) (down_pos e)) (down_pos e) (moved (k * up d) (down d) n (m * up e) (down e) h.1))

  after_spacing : (x : Float) (n : ℕ) → HasValue x false n 1 → is_finite (mul binary64 (fin s m e) x) ≡ is_finite
      (round binary64 false (n * (m * up e)) (down e))
  unfolding mul
  after_spacing nan n h = absurd h
  after_spacing (inf t) n h = absurd h
  after_spacing (fin t k d) n h =
      either_sign (unlike s t) (m * up e * (k * up d)) (down e * down d)
      ∙ ap is_finite (round_same binary64 false (m * up e * (k * up d)) (down e * down d) (n * (m * up e)) (down e)
      (mul-pos (down_pos e) (down_pos d)) (down_pos e)
      (ap (λ (x : ℕ). x * down e) (mul_comm (m * up e) (k * up d)) ∙ moved (k * up d) (down d) n (m * up e) (down e) h.1
      ∙ ap (λ (x : ℕ). n * (m * up e) * x) (mul_comm (down d) (down e))))

-- "a vertex's x is at most the span"
pub place_finite : (spacing : Float) (a b : ℕ) → a ≤ b → b ≤ 1024 → is_finite spacing ≡ true → is_finite (spacing *ᶠ float_of b) ≡ true
    → is_finite (float_of a *ᶠ spacing) ≡ true
unfolding is_finite float_of
place_finite nan a b p q h k = absurd (false≢true h)
place_finite (inf s) a b p q h k = absurd (false≢true h)
place_finite (fin s m e) a b p q h k =
    let small : b ≤ 2 ^ 53 = omega arith in
    let smaller : a ≤ 2 ^ 53 = omega arith in
    before_spacing s m e (of_int binary64 (pos a)) a (of_int_value a smaller)
    ∙ rounded_finite (a * (m * up e)) (down e) (b * (m * up e)) (down e) (down_pos e) (down_pos e)
    (mul-le-mul_right (down e) (mul-le-mul_right (m * up e) p))
    (sym (after_spacing s m e (of_int binary64 (pos b)) b (of_int_value b small)) ∙ k)
