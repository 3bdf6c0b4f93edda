-- A whole number times the rounded inverse of another. Assumes nothing.
use mathlib.Core.Path.{◌≡◌, refl, sym, ap, ◌∙◌, subst}
use mathlib.Core.Bool.{Bool, true, false, cond}
use Prim.Native.Nat.{ℕ, zero, suc, ◌+◌, ◌*◌, ◌^◌, ◌≤◌, ◌<◌}
use native.Mathlib.Nat.{mul-one, one-mul, mul_comm, mul-pos, zero-lt-suc, zero-mul}
use native.Mathlib.Nat.{le_of_mul-le-mul_right, mul-le-mul_right, le_trans, le_of_eq}
use native.Mathlib.Omega.{arith}
use lib.Dec.{lit≤, eqb}
use lib.IntN.{ℤ, pos}
use lib.Ieee.{Float, nan, inf, fin, binary64, up, down, round, div, unlike}
use lib.Ieee.Fits.{down_pos}
use lib.Ieee.Exact.{HasValue}
use lib.Ieee.Scale.{round_same}
use borrow.Author.Tests.{ne_eqb}
use Rattle.arithmetic.proofs.ScalingLaws.{unit_pos}
use Rattle.arithmetic.proofs.ValueOrder.{mul_values}
use Rattle.vectors.specs.Numbers.{◌*ᶠ◌, ◌/ᶠ◌, oneᶠ}
use Rattle.arithmetic.specs.Scaling.{unit}
use Rattle.arithmetic.proofs.WholeValues.{exact_size}
use Rattle.arithmetic.proofs.RoundingError.{Rounded, round_near}
use Rattle.vectors.proofs.Constants.{one_is}

-- ---- facts about the unit and the one
pub unit_large : 2 ^ 106 ≤ unit
unfolding unit
unit_large = lit≤ tt

unlike_false : (t : Bool) → unlike false t ≡ t
unlike_false true = refl
unlike_false false = refl

-- ---- the inverse
div-one : (t : Bool) (n : ℕ) (d : ℤ)
    → div binary64 (fin false 1 (pos 0)) (fin t (suc n) d) ≡ round binary64 (unlike false t) (1 * up (pos 0) * down d)
    (suc n * up d * down (pos 0))
unfolding div
div-one t n d =
    ap (λ (b : Bool). cond b (cond (eqb 1 0) nan (inf (unlike false t)))
    (round binary64 (unlike false t) (1 * up (pos 0) * down d) (suc n * up d * down (pos 0)))) (ne_eqb (suc n) 0 (λ e. omega (arith, e)))

inverse_is : (x : Float) (s : Bool) (D : ℕ) → HasValue x s D 1 → 0 < D → oneᶠ /ᶠ x ≡ round binary64 s 1 D
inverse_is nan s D v p = absurd v
inverse_is (inf t) s D v p = absurd v
inverse_is (fin t zero d) s D v p = let q = mul-pos p (down_pos d) in absurd (omega (arith, v.1, q))
inverse_is (fin t (suc n) d) s D v p =
    ap (λ (x : Float). div binary64 x (fin t (suc n) d)) one_is ∙ div-one t n d
    ∙ ap (λ (b : Bool). round binary64 b (1 * 1 * down d) (suc n * up d * 1)) (unlike_false t ∙ v.0)
    ∙ round_same binary64 s (1 * 1 * down d) (suc n * up d * 1) 1 D (omega (arith, v.1, mul-pos p (down_pos d))) p (omega (arith, v.1))

pub inverse_near : (x : Float) (s : Bool) (D : ℕ) → HasValue x s D 1 → 0 < D → D ≤ 2 ^ 53 → Rounded (oneᶠ /ᶠ x) s 1 D
inverse_near x s D v p l =
    subst (λ (z : Float). Rounded z s 1 D) (sym (inverse_is x s D v p))
    (round_near s 1 D p (let u = unit_large in omega arith) (omega arith))

-- ---- the product
product_is : (y x : Float) (t s : Bool) (N r : ℕ) → HasValue y t N 1 → HasValue x s r unit
    → y *ᶠ x ≡ round binary64 (unlike t s) (N * r) unit
product_is y x t s N r v w =
    mul_values y x t s N 1 r unit (zero-lt-suc 0) unit_pos v w ∙ ap (λ (k : ℕ). round binary64 (unlike t s) (N * r) k) (one-mul unit)

-- x is ±N / D, within 2^-51 of it
pub record Quotient (x : Float) (s : Bool) (N D : ℕ) : Type 0 where
  pub units : ℕ
  pub value : HasValue x s units unit
  pub upper : 2 ^ 51 * (units * D) ≤ 2 ^ 51 * (N * unit) + N * unit
  pub lower : 2 ^ 51 * (N * unit) ≤ 2 ^ 51 * (units * D) + N * unit

-- two errors of 2^-53 are one of 2^-51
two_up : (X Y Z : ℕ) → 2 ^ 53 * X ≤ 2 ^ 53 * Y + Y → 2 ^ 53 * Y ≤ 2 ^ 53 * Z + Z → 2 ^ 51 * X ≤ 2 ^ 51 * Z + Z
two_up X Y Z h k = let a : Y ≤ 2 * Z = omega (arith, k) in omega (arith, h, k, a)

fourth : (Y Z : ℕ) → 2 ^ 53 * Y ≤ 2 ^ 53 * Z + Z → Y ≤ 2 * Z
fourth Y Z h = omega arith

-- with a, b, c for the multiples, so that no number grows on the way
second : (a b c Y Z : ℕ) → b ≤ a + Y → c ≤ b + Z → Y ≤ 2 * Z → c ≤ a + 3 * Z
second a b c Y Z h k l = omega arith

third : (X Z : ℕ) → 2 ^ 53 * Z ≤ 2 ^ 53 * X + 3 * Z → 2 ^ 51 * Z ≤ 2 ^ 51 * X + Z
third X Z h = omega arith

two_down : (X Y Z : ℕ) → 2 ^ 53 * Y ≤ 2 ^ 53 * X + Y → 2 ^ 53 * Z ≤ 2 ^ 53 * Y + Z → 2 ^ 53 * Y ≤ 2 ^ 53 * Z + Z
    → 2 ^ 51 * Z ≤ 2 ^ 51 * X + Z
two_down X Y Z h k l = third X Z (second (2 ^ 53 * X) (2 ^ 53 * Y) (2 ^ 53 * Z) Y Z h k (fourth Y Z l))

-- the bounds, over plain numbers
above : (g r N D u : ℕ) → 0 < u → 2 ^ 53 * (g * u) ≤ 2 ^ 53 * (N * r * u) + N * r * u → 2 ^ 53 * (r * D) ≤ 2 ^ 53 * (1 * u) + 1 * u
    → 2 ^ 51 * (g * D) ≤ 2 ^ 51 * (N * u) + N * u
above g r N D u p h k =
    let a : 2 ^ 53 * g ≤ 2 ^ 53 * (N * r) + N * r = le_of_mul-le-mul_right (omega (arith, h)) p in
    let b : 2 ^ 53 * g * D ≤ (2 ^ 53 * (N * r) + N * r) * D = mul-le-mul_right D a in
    let c : 2 ^ 53 * (r * D) * N ≤ (2 ^ 53 * (1 * u) + 1 * u) * N = mul-le-mul_right N k in
    two_up (g * D) (N * r * D) (N * u) (omega (arith, b)) (omega (arith, c))

under : (g r N D u : ℕ) → 0 < u → 2 ^ 53 * (N * r * u) ≤ 2 ^ 53 * (g * u) + N * r * u → 2 ^ 53 * (1 * u) ≤ 2 ^ 53 * (r * D) + 1 * u
    → 2 ^ 53 * (r * D) ≤ 2 ^ 53 * (1 * u) + 1 * u → 2 ^ 51 * (N * u) ≤ 2 ^ 51 * (g * D) + N * u
under g r N D u p h k l =
    let a : 2 ^ 53 * (N * r) ≤ 2 ^ 53 * g + N * r = le_of_mul-le-mul_right (omega (arith, h)) p in
    let b : 2 ^ 53 * (N * r) * D ≤ (2 ^ 53 * g + N * r) * D = mul-le-mul_right D a in
    let c : 2 ^ 53 * (1 * u) * N ≤ (2 ^ 53 * (r * D) + 1 * u) * N = mul-le-mul_right N k in
    let d : 2 ^ 53 * (r * D) * N ≤ (2 ^ 53 * (1 * u) + 1 * u) * N = mul-le-mul_right N l in
    two_down (g * D) (N * r * D) (N * u) (omega (arith, b)) (omega (arith, c)) (omega (arith, d))

enough : (r D N u : ℕ) → 2 ^ 106 ≤ u → D ≤ 2 ^ 53 → 0 < N → 2 ^ 53 * (1 * u) ≤ 2 ^ 53 * (r * D) + 1 * u → 2 ^ 52 * u ≤ N * r * u
enough r D N u l d p h =
    let a : D * r ≤ 2 ^ 53 * r = mul-le-mul_right r d in
    let b : 2 ^ 52 ≤ r = le_of_mul-le-mul_right (le_trans l (last u (r * D) r (D * r) (mul_comm r D) h a)) (lit≤ tt) in
    let c : 1 * r ≤ N * r = mul-le-mul_right r p in
    mul-le-mul_right u (le_trans b (omega (arith, c)))
  where
    last : (u y r z : ℕ) → y ≡ z → 2 ^ 53 * (1 * u) ≤ 2 ^ 53 * y + 1 * u → z ≤ 2 ^ 53 * r → u ≤ r * 2 ^ 54
    last u y r z e h a = let b : u ≤ 2 * y = omega (arith, h) in omega (arith, a, b, e)

not_much : (r D N u : ℕ) → 0 < D → N ≤ 2 ^ 53 → 2 ^ 53 * (r * D) ≤ 2 ^ 53 * (1 * u) + 1 * u → N * r ≤ u * 2 ^ 100
not_much r D N u d l h =
    let a : 1 * r ≤ D * r = mul-le-mul_right r d in
    let b : N * r ≤ 2 ^ 53 * r = mul-le-mul_right r l in
    le_trans (last (r * D) (D * r) r u (N * r) (mul_comm r D) h a b)
    (le_trans (mul-le-mul_right u (lit≤ {m = 2 ^ 54} {n = 2 ^ 100} tt)) (le_of_eq (mul_comm (2 ^ 100) u)))
  where
    last : (y z r u w : ℕ) → y ≡ z → 2 ^ 53 * y ≤ 2 ^ 53 * (1 * u) + 1 * u → 1 * r ≤ z → w ≤ 2 ^ 53 * r → w ≤ 2 ^ 54 * u
    last y z r u w e h a b = let c : y ≤ 2 * u = omega (arith, h) in omega (arith, a, b, c, e)

pub product_near : (y x : Float) (t s : Bool) (N D : ℕ) → HasValue y t N 1 → N ≤ 2 ^ 53 → Rounded x s 1 D → 0 < D → D ≤ 2 ^ 53
    → Quotient (y *ᶠ x) (unlike t s) N D
product_near y x t s zero D v n w p l =
    let r = w.units in
    subst (λ (z : Float). Quotient z (unlike t s) 0 D) (sym (product_is y x t s 0 r v w.value))
    record {
      units = 0;
      value = scaled (round binary64 (unlike t s) (0 * r) unit) (unlike t s)
          (exact_size (unlike t s) (0 * r) unit 0 unit_pos (omega arith) (omega arith));
      upper = omega arith;
      lower = omega arith;
    }
  where
    scaled : (z : Float) (s : Bool) → HasValue z s 0 1 → HasValue z s 0 unit
    scaled nan s h = h
    scaled (inf b) s h = h
    scaled (fin b m e) s h =
        (h.0, ap (λ (k : ℕ). k * unit) (sym (mul-one (m * up e)) ∙ h.1 ∙ zero-mul (down e)) ∙ zero-mul unit ∙ sym (zero-mul (down e)))
product_near y x t s (suc N) D v n w p l =
    let r = w.units in
    let g =
    round_near (unlike t s) (suc N * r) unit unit_pos (enough r D (suc N) unit unit_large l (zero-lt-suc N) w.close.1)
    (not_much r D (suc N) unit p n w.close.0) in
    subst (λ (z : Float). Quotient z (unlike t s) (suc N) D) (sym (product_is y x t s (suc N) r v w.value))
    record {
      units = g.units;
      value = g.value;
      upper = above g.units r (suc N) D unit unit_pos g.close.0 w.close.0;
      lower = under g.units r (suc N) D unit unit_pos g.close.1 w.close.1 w.close.0;
    }
