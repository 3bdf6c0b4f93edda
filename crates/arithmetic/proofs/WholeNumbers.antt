-- Rounding to a whole number by a rule that leaves whole numbers alone: what the tests of the code tell of it, that the result is
-- exact, that a cast of the floor is the cast of the number, and that a rounded number above zero is cast to one or more. Assumes nothing.
use Rattle.std.proofs.Common.{◌≡◌, ℕ, zero, suc, ◌+◌, ◌-◌, ◌*◌, ◌/◌, ◌^◌, ◌<◌, ◌≤◌, Bool, true, false, T, ltb, ℤ, pos, negsuc, sym, refl}
use Rattle.std.proofs.Common.{ap, ◌∙◌, subst, zero-le, le_trans, le_of_eq, mul-le-mul_right, zero-lt-suc, div-lt_iff_lt-mul, pow-suc}
use Rattle.std.proofs.Common.{zero-mul, mul-one, mul-div_cancel, mul_left_comm, arith, pow_pos, ltb-false, ltb-true}
use mathlib.Core.Bool.{false≢true}
use native.Mathlib.Nat.{add-div_right, mul-div-mul_left}
use lib.Arith.{digits_div}
use lib.Ieee.{Float, nan, inf, fin, binary64, up, down, round, neg, lt, of_int, fits, to_unsigned}
use lib.Ieee.Fits.{down_pos, round-fits}
use lib.Ieee.Exact.{HasValue}
use lib.Ieee.Back.{round_whole, whole_unique}
use lib.Ieee.Nearest.{div_mono}
use lib.Ieee.Positive.{num, den}
use Rattle.arithmetic.specs.Rounding.{whole_by, toward_negative, ties_away, floor_of, round_of, whole_of}
use Rattle.arithmetic.proofs.Exactness.{of_int_is, neg_round, fits_parts, scaled_exact}
use Rattle.arithmetic.proofs.Casts.{none, cast_of_value}

-- 2^52: from here on every float is whole
abbrev pub large : Float
large = fin false 1 (pos 52)

-- ---- the rules leave whole numbers alone, and give one that is near
abbrev pub Exact : (Bool → ℕ → ℕ → ℕ) → Type 0
Exact rule = (s : Bool) (k c : ℕ) → 0 < c → rule s (k * c) c ≡ k

pub toward_negative_exact : Exact toward_negative
toward_negative_exact false k c C = mul-div_cancel k C
toward_negative_exact true k c C = digits_div k (omega arith)

pub ties_away_exact : Exact ties_away
ties_away_exact s k c C = rw (mul_left_comm 2 k c) (digits_div k (omega arith))

abbrev Near : (Bool → ℕ → ℕ → ℕ) → Type 0
Near rule = (s : Bool) (a c : ℕ) → 0 < c → rule s a c ≤ a / c + 1

div_le : (p q c : ℕ) → 0 < c → p ≤ q → p / c ≤ q / c
div_le p q c C h = div_mono p c q c C C (mul-le-mul_right c h)

toward_negative_near : Near toward_negative
toward_negative_near false a c C = omega arith
toward_negative_near true a c C = le_trans (div_le (a + (c - 1)) (a + c) c C (omega arith)) (le_of_eq (add-div_right a C))

ties_away_near : Near ties_away
ties_away_near s a c C = le_trans (div_le _ (2 * (a + c)) (2 * c) (omega arith) (omega arith))
    (le_of_eq (mul-div-mul_left (a + c) c (zero-lt-suc 1) ∙ add-div_right a C))

-- ---- what is returned as it is: every number from 2^52 on, and zero
large_value : (rule : Bool → ℕ → ℕ → ℕ) → Exact rule → (s : Bool) (m : ℕ) (e : ℤ) → T (fits binary64 (fin s m e)) → 2 ^ 52 * down e ≤ m * up
    e
    → HasValue (round binary64 s (rule s (m * up e) (down e)) 1) s (rule s (m * up e) (down e)) 1 × HasValue (fin s m e) s
    (rule s (m * up e) (down e)) 1
large_value rule exact s m (negsuc k) f h =
    let digits = (fits_parts binary64 s m (negsuc k) f).0 in
    let even : 2 ^ suc k ≡ 2 ^ k * 2 = pow-suc 2 k in
    let some = pow_pos k in
    absurd (omega arith)
large_value rule exact s m (pos k) f h =
    let w : rule s (m * 2 ^ k) 1 ≡ m * 2 ^ k = ap (λ (z : ℕ). rule s z 1) (sym (mul-one (m * 2 ^ k))) ∙ exact s (m * 2 ^ k) 1
    (zero-lt-suc 0) in
    let room = (fits_parts binary64 s m (pos k) f).1.1 in
    let v : HasValue (round binary64 s (m * 2 ^ k * 1) 1) s (m * 2 ^ k * 1) 1 = scaled_exact binary64 s m (pos k) 0 f
    (subst (λ (z : ℕ). z < 2 ^ 1024 * 1) (sym (mul-one (m * 2 ^ k))) room) in (
      subst (λ (z : ℕ). HasValue (round binary64 s z 1) s z 1) (mul-one (m * 2 ^ k) ∙ sym w) v,
      subst (λ (z : ℕ). HasValue (fin s m (pos k)) s z 1) (sym w) (refl, refl),
    )

large_kept : (rule : Bool → ℕ → ℕ → ℕ) → Exact rule → (s : Bool) (m : ℕ) (e : ℤ) → T (fits binary64 (fin s m e)) → 2 ^ 52 * down e ≤ m * up
    e → whole_by rule (fin s m e) ≡ fin s m e
unfolding whole_by
large_kept rule exact s m e f h =
    let v = large_value rule exact s m e f h in
    let w = rule s (m * up e) (down e) in
    whole_unique binary64 (round binary64 s w 1) (fin s m e) s w (round-fits binary64 s w 1) f v.0 v.1

zero_kept : (rule : Bool → ℕ → ℕ → ℕ) → Exact rule → (s : Bool) (m : ℕ) (e : ℤ) → T (fits binary64 (fin s m e)) → m * up e ≡ 0 → whole_by
    rule (fin s m e) ≡ fin s m e
unfolding whole_by
zero_kept rule exact s m e f h =
    let w : rule s (m * up e) (down e) ≡ 0 = ap (λ (z : ℕ). rule s z (down e)) (h ∙ sym (zero-mul (down e))) ∙ exact s 0 (down e)
    (down_pos e) in
    ap (λ (z : ℕ). round binary64 s z 1) w
    ∙ whole_unique binary64 (round binary64 s 0 1) (fin s m e) s 0 (round-fits binary64 s 0 1) f (round_whole binary64 s 0 zero-le)
    (refl, mul-one (m * up e) ∙ h ∙ sym (zero-mul (down e)))

-- ---- the result is an f64, and of a number that fits it is the rule's whole number exactly
whole_by_value : (rule : Bool → ℕ → ℕ → ℕ) → Exact rule → Near rule → (s : Bool) (m : ℕ) (e : ℤ) → T (fits binary64 (fin s m e)) → HasValue
    (whole_by rule (fin s m e)) s (rule s (m * up e) (down e)) 1
unfolding whole_by
whole_by_value rule exact near s m e f = go (ltb (m * up e) (2 ^ 52 * down e)) refl
  where
    go : (b : Bool) → ltb (m * up e) (2 ^ 52 * down e) ≡ b → HasValue (round binary64 s (rule s (m * up e) (down e)) 1) s
        (rule s (m * up e) (down e)) 1
    go true h =
        let small : m * up e / down e < 2 ^ 52 = (div-lt_iff_lt-mul (down_pos e)).1 (ltb-true (m * up e) (2 ^ 52 * down e) h) in
        let n = near s (m * up e) (down e) (down_pos e) in
        round_whole binary64 s (rule s (m * up e) (down e)) (omega arith)
    go false h = (large_value rule exact s m e f (ltb-false (m * up e) (2 ^ 52 * down e) h)).0

-- ---- what the tests of the code tell
module _ (rule : Bool → ℕ → ℕ → ℕ) where
  pub whole_above_zero : (x : Float) → lt none x ≡ true → lt x large ≡ true → whole_by rule x ≡ of_int binary64
      (pos (rule false (num x) (den x)))
  unfolding lt whole_by
  whole_above_zero nan h k = absurd (false≢true h)
  whole_above_zero (inf true) h k = absurd (false≢true h)
  whole_above_zero (inf false) h k = absurd (false≢true k)
  whole_above_zero (fin true m e) h k = absurd (false≢true h)
  whole_above_zero (fin false m e) h k = sym (of_int_is binary64 (rule false (m * up e) (down e)))

  pub whole_below_zero : (x : Float) → lt none (neg x) ≡ true → lt (neg x) large ≡ true → whole_by rule x ≡ neg
      (of_int binary64 (pos (rule true (num (neg x)) (den (neg x)))))
  unfolding lt neg whole_by
  whole_below_zero nan h k = absurd (false≢true h)
  whole_below_zero (inf true) h k = absurd (false≢true k)
  whole_below_zero (inf false) h k = absurd (false≢true h)
  whole_below_zero (fin false m e) h k = absurd (false≢true h)
  whole_below_zero (fin true m e) h k = let w = rule true (m * up e) (down e) in sym
      (ap neg (of_int_is binary64 w) ∙ neg_round binary64 w 1)

module _ (rule : Bool → ℕ → ℕ → ℕ) (exact : Exact rule) where
  pub kept_above_zero : (x : Float) → T (fits binary64 x) → lt none x ≡ true → lt x large ≡ false → whole_by rule x ≡ x
  unfolding lt
  kept_above_zero nan f h k = absurd (false≢true h)
  kept_above_zero (inf s) f h k = unfold whole_by in refl
  kept_above_zero (fin true m e) f h k = absurd (false≢true h)
  kept_above_zero (fin false m e) f h k = let g = ltb-false (m * up e * 1) (2 ^ 52 * down e) k in large_kept rule exact false m e f
      (omega arith)

  pub kept_below_zero : (x : Float) → T (fits binary64 x) → lt none (neg x) ≡ true → lt (neg x) large ≡ false → whole_by rule x ≡ x
  unfolding lt neg
  kept_below_zero nan f h k = absurd (false≢true h)
  kept_below_zero (inf s) f h k = unfold whole_by in refl
  kept_below_zero (fin false m e) f h k = absurd (false≢true h)
  kept_below_zero (fin true m e) f h k = let g = ltb-false (m * up e * 1) (2 ^ 52 * down e) k in large_kept rule exact true m e f
      (omega arith)

  pub kept_off_order : (x : Float) → T (fits binary64 x) → lt none x ≡ false → lt none (neg x) ≡ false → whole_by rule x ≡ x
  unfolding lt neg
  kept_off_order nan f h k = unfold whole_by in refl
  kept_off_order (inf s) f h k = unfold whole_by in refl
  kept_off_order (fin false m e) f h k = let g = ltb-false (0 * down e) (m * up e * 1) h in zero_kept rule exact false m e f (omega arith)
  kept_off_order (fin true m e) f h k = let g = ltb-false (0 * down e) (m * up e * 1) k in zero_kept rule exact true m e f (omega arith)

-- ---- floor and round
pub floor_of_value : (s : Bool) (m : ℕ) (e : ℤ) → T (fits binary64 (fin s m e)) → HasValue (floor_of (fin s m e)) s
    (toward_negative s (m * up e) (down e)) 1
unfolding floor_of
floor_of_value s m e f = whole_by_value toward_negative toward_negative_exact toward_negative_near s m e f

pub round_of_value : (s : Bool) (m : ℕ) (e : ℤ) → T (fits binary64 (fin s m e)) → HasValue (round_of (fin s m e)) s
    (ties_away s (m * up e) (down e)) 1
unfolding round_of
round_of_value s m e f = whole_by_value ties_away ties_away_exact ties_away_near s m e f

pub cast_of_floor : (x : Float) → T (fits binary64 x) → whole_of (floor_of x) ≡ whole_of x
cast_of_floor nan f = unfold floor_of whole_by in refl
cast_of_floor (inf s) f = unfold floor_of whole_by in refl
cast_of_floor (fin false m e) f = cast_of_value (floor_of (fin false m e)) false (m * up e / down e) (floor_of_value false m e f) ∙ unfold
    to_unsigned in refl
cast_of_floor (fin true m e) f = cast_of_value (floor_of (fin true m e)) true ((m * up e + (down e - 1)) / down e)
    (floor_of_value true m e f)
    ∙ unfold to_unsigned in refl

positive_cast : (y : Float) (s : Bool) (n : ℕ) → HasValue y s n 1 → lt none y ≡ true → 0 < whole_of y
unfolding lt
positive_cast nan s n v h = absurd v
positive_cast (inf t) s n v h = absurd v
positive_cast (fin true m e) s n v h = absurd (false≢true h)
positive_cast (fin false m e) true n v h = absurd (false≢true v.0)
positive_cast (fin false m e) false zero v h = let g = ltb-true (0 * down e) (m * up e * 1) h in absurd (omega (arith, v.1))
positive_cast (fin false m e) false (suc n) v h = let q = cast_of_value (fin false m e) false (suc n) v in omega arith

-- rounded above zero is one or more
pub rounded_positive : (x : Float) → T (fits binary64 x) → lt none (round_of x) ≡ true → 0 < whole_of (round_of x)
rounded_positive nan f h = absurd (false≢true (unfold round_of whole_by lt in h))
rounded_positive (inf true) f h = absurd (false≢true (unfold round_of whole_by lt in h))
rounded_positive (inf false) f h = unfold round_of whole_by to_unsigned in omega arith
rounded_positive (fin s m e) f h = positive_cast (round_of (fin s m e)) s (ties_away s (m * up e) (down e)) (round_of_value s m e f) h
