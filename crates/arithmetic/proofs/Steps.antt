-- The steps that cut, raise and round a number between 0 and 2^52, where every cast is exact. Assumes nothing.
use Rattle.std.proofs.Common.{◌≡◌, ℕ, ◌+◌, ◌-◌, ◌*◌, ◌/◌, ◌%◌, ◌^◌, ◌<◌, ◌≤◌, true, false, T, ltb, ℤ, pos, sym, refl, ap, ◌∙◌, subst}
use Rattle.std.proofs.Common.{true≢false, lt_of_lt_of_le, mul-le-mul_right, mod-lt, mul_comm, div-lt_iff_lt-mul, add-mul, one-mul}
use Rattle.std.proofs.Common.{div-add-mod', mul-one, mul_right_comm, div-mul-le_self, arith, lit≤, ltb-false, ltb-true}
use mathlib.Core.Bool.{false≢true}
use native.Mathlib.Nat.{div-div-eq-div-mul, add-div_right}
use lib.Arith.{digits_div}
use lib.Ieee.{Float, nan, inf, fin, Format, binary64, up, down, round, mul, lt, of_int, fits}
use lib.Ieee.Fits.{down_pos}
use lib.Ieee.Exact.{HasValue}
use lib.Ieee.Positive.{num, den, den_pos}
use Rattle.arithmetic.specs.Rounding.{toward_negative, ties_away, whole_of}
use Rattle.arithmetic.proofs.Exactness.{of_int_value, scaled_exact}
use Rattle.arithmetic.proofs.Casts.{none, in_range_lem, cast_is}
use Rattle.arithmetic.proofs.WholeNumbers.{large}
use Rattle.arithmetic.proofs.ValueOrder.{ltb_scale}

-- ---- the number, its cast and its double
pub own_value : (a : Float) → lt none a ≡ true → lt a large ≡ true → HasValue a false (num a) (den a)
unfolding lt
own_value nan h k = absurd (false≢true h)
own_value (inf true) h k = absurd (false≢true h)
own_value (inf false) h k = absurd (false≢true k)
own_value (fin true m e) h k = absurd (false≢true h)
own_value (fin false m e) h k = (refl, refl)

pub below_large : (a : Float) → lt none a ≡ true → lt a large ≡ true → num a < 2 ^ 52 * den a
unfolding lt
below_large nan h k = absurd (false≢true h)
below_large (inf true) h k = absurd (false≢true h)
below_large (inf false) h k = absurd (false≢true k)
below_large (fin true m e) h k = absurd (false≢true h)
below_large (fin false m e) h k = let g = ltb-true (m * up e * 1) (2 ^ 52 * down e) k in omega arith

mul_two : (f : Format) (m : ℕ) (e : ℤ) → mul f (fin false m e) (fin false 1 (pos 1)) ≡ round f false (m * up e * 2) (down e * 1)
unfolding mul
mul_two f m e = refl

pub doubled_value : (a : Float) → T (fits binary64 a) → lt none a ≡ true → lt a large ≡ true → HasValue
    (mul binary64 a (fin false 1 (pos 1))) false (2 * num a) (den a)
unfolding lt
doubled_value nan f h k = absurd (false≢true h)
doubled_value (inf true) f h k = absurd (false≢true h)
doubled_value (inf false) f h k = absurd (false≢true k)
doubled_value (fin true m e) f h k = absurd (false≢true h)
doubled_value (fin false m e) f h k =
    let g = ltb-true (m * up e * 1) (2 ^ 52 * down e) k in
    let room : m * up e * 2 < 2 ^ 53 * down e = omega arith in
    subst (λ (x : Float). HasValue x false (2 * (m * up e)) (down e))
    (sym (mul_two binary64 m e ∙ ap (λ (z : ℕ). round binary64 false (m * up e * 2) z) (mul-one (down e))))
    (subst (λ (z : ℕ). HasValue (round binary64 false (m * up e * 2) (down e)) false z (down e)) (mul_comm (m * up e) 2)
    (scaled_exact binary64 false m e 1 f (lt_of_lt_of_le room (mul-le-mul_right (down e) (lit≤ tt)))))

-- ---- a whole number below another
pub whole_below_is : (x y : Float) (w : ℕ) → HasValue x false w 1 → HasValue y false (num y) (den y) → lt x y ≡ ltb (w * den y) (num y)
unfolding lt
whole_below_is nan y w v u = absurd v
whole_below_is (inf s) y w v u = absurd v
whole_below_is (fin true m e) y w v u = absurd (true≢false v.0)
whole_below_is (fin false m e) nan w v u = absurd u
whole_below_is (fin false m e) (inf t) w v u = absurd u
whole_below_is (fin false m e) (fin true n d) w v u = absurd (true≢false u.0)
whole_below_is (fin false m e) (fin false n d) w v u =
    let p : m * up e * down d ≡ w * down d * down e = ap (λ (z : ℕ). z * down d) (sym (mul-one (m * up e)) ∙ v.1) ∙ mul_right_comm w
    (down e) (down d) in
    ap (λ (z : ℕ). ltb z (n * up d * down e)) p ∙ ltb_scale (w * down d) (n * up d) (down e) (down_pos e)

-- ---- a fraction rounded up, from its whole part
up_one : (a c : ℕ) → 0 < c → a / c * c < a → (a + (c - 1)) / c ≡ a / c + 1
up_one a c C h =
    let k = a / c in
    let r = a % c in
    let split : k * c + r ≡ a = div-add-mod' a c in
    let less : r < c = mod-lt a C in
    let next : (k + 1) * c ≡ k * c + c = add-mul k 1 c ∙ ap (λ (z : ℕ). k * c + z) (one-mul c) in
    let whole : a + (c - 1) ≡ (k + 1) * c + (r - 1) = omega arith in
    ap (λ (z : ℕ). z / c) whole ∙ digits_div (k + 1) (omega arith)

up_none : (a c : ℕ) → 0 < c → a ≤ a / c * c → (a + (c - 1)) / c ≡ a / c
up_none a c C h =
    let le = div-mul-le_self a c in
    let whole : a + (c - 1) ≡ a / c * c + (c - 1) = omega arith in
    ap (λ (z : ℕ). z / c) whole ∙ digits_div (a / c) (omega arith)

-- (2 a / c + 1) / 2 rounds a / c to the nearest, half way up
halves_is : (a c : ℕ) → 0 < c → (2 * a / c + 1) / 2 ≡ (2 * a + c) / (2 * c)
halves_is a c C = ap (λ (z : ℕ). z / 2) (sym (add-div_right (2 * a) C)) ∙ div-div-eq-div-mul (2 * a + c) c 2 ∙ ap
    (λ (z : ℕ). (2 * a + c) / z) (mul_comm c 2)

-- ---- the steps
module _ (a : Float) (above : lt none a ≡ true) (under : lt a large ≡ true) where
  pub small_in_range : T (lt (fin true 1 (pos 0)) a) × T (lt a (fin false 1 (pos 64)))
  small_in_range = let b = below_large a above under in in_range_lem a (num a) (den a) (den_pos a) (own_value a above under) (omega arith)

  pub cut_is : whole_of a ≡ num a / den a
  cut_is = let b = below_large a above under in cast_is a (num a) (den a) (den_pos a) (own_value a above under) (omega arith)

  pub cut_small : whole_of a < 2 ^ 52
  cut_small = subst (λ (n : ℕ). n < 2 ^ 52) (sym cut_is) ((div-lt_iff_lt-mul (den_pos a)).1 (below_large a above under))

  cut_below_is : lt (of_int binary64 (pos (whole_of a))) a ≡ ltb (num a / den a * den a) (num a)
  cut_below_is =
      let b = cut_small in
      whole_below_is (of_int binary64 (pos (whole_of a))) a (whole_of a) (of_int_value (whole_of a) (omega arith)) (own_value a above under)
      ∙ ap (λ (n : ℕ). ltb (n * den a) (num a)) cut_is

  pub raised_one : lt (of_int binary64 (pos (whole_of a))) a ≡ true → toward_negative true (num a) (den a) ≡ whole_of a + 1
  raised_one h = up_one (num a) (den a) (den_pos a) (ltb-true (num a / den a * den a) (num a) (sym cut_below_is ∙ h)) ∙ ap
      (λ (n : ℕ). n + 1) (sym cut_is)

  pub raised_none : lt (of_int binary64 (pos (whole_of a))) a ≡ false → toward_negative true (num a) (den a) ≡ whole_of a
  raised_none h = up_none (num a) (den a) (den_pos a) (ltb-false (num a / den a * den a) (num a) (sym cut_below_is ∙ h)) ∙ sym cut_is

  module _ (held : T (fits binary64 a)) where
    abbrev pub doubled : Float
    doubled = mul binary64 a (fin false 1 (pos 1))

    pub doubled_in_range : T (lt (fin true 1 (pos 0)) doubled) × T (lt doubled (fin false 1 (pos 64)))
    doubled_in_range = let b = below_large a above under in in_range_lem doubled (2 * num a) (den a) (den_pos a)
        (doubled_value a held above under) (omega arith)

    halves_are : whole_of doubled ≡ 2 * num a / den a
    halves_are = let b = below_large a above under in cast_is doubled (2 * num a) (den a) (den_pos a) (doubled_value a held above under)
        (omega arith)

    pub halves_small : whole_of doubled < 2 ^ 53
    halves_small = let b = below_large a above under in subst (λ (n : ℕ). n < 2 ^ 53) (sym halves_are)
        ((div-lt_iff_lt-mul (den_pos a)).1 (omega arith))

    pub nearest_is : (whole_of doubled + 1) / 2 ≡ ties_away false (num a) (den a)
    nearest_is = ap (λ (n : ℕ). (n + 1) / 2) halves_are ∙ halves_is (num a) (den a) (den_pos a)
