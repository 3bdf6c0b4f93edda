-- The points that the root search asks lie from 0 to 1, so that each value whose sign it asks is no NaN. Assumes nothing.
use mathlib.Core.Path.{◌≡◌, refl, sym, ap, subst, ◌∙◌}
use mathlib.Core.Bool.{Bool, true, false, cond, false≢true, beq}
use Prim.Native.Nat.{ℕ, ◌+◌, ◌*◌, ◌≤◌, ◌<◌}
use native.Mathlib.Nat.{mul-pos, mul-le-mul_right, mul_right_comm, mul_comm}
use native.Mathlib.Omega.{arith}
use lib.Dec.{T}
use lib.IntN.{ℤ, pos, negsuc}
use lib.Ieee.{Float, nan, inf, fin, binary64, of_bits, up, down, round, sum, add, mul, fits, is_nan, lt, le}
use lib.Ieee.Fits.{down_pos, mul-fits, add-fits}
use lib.Ieee.Order.{round_mono}
use borrow.Author.Tests.{ltb-true, ltb-false}
use lib.Ieee.Bits.{is_true}
use Rattle.arithmetic.specs.Basic.{is_finite, absolute, sign_positive}
use Rattle.arithmetic.proofs.Order.{not_lt_of_le}
use Rattle.arithmetic.proofs.Bounds.{plain, round_plain}
use Rattle.arithmetic.proofs.Exactness.{round_one}
use Rattle.vectors.specs.Numbers.{◌+ᶠ◌, ◌*ᶠ◌, zeroᶠ, oneᶠ, halfᶠ}
use Rattle.vectors.proofs.Constants.{zero_is, one_is}
use Rattle.cubic.specs.Polynomial.{cubic_by, cubic_of, evaluate, finite_cubic}
use Rattle.cubic.specs.Turns.{between_ends}
use Rattle.cubic.specs.Halving.{middle_of, halve_at, halve}
use Rattle.cubic.specs.declared.polynomial.Cubic.{Cubic}
use Rattle.cubic.specs.declared.halving.Halving.{Halving}
use Rattle.cubic.specs.declared.halving.Halving.TheVariants.{Open, Found}
use Rattle.lists.proofs.JoinedTests.{and_first, and_second}
use Rattle.cubic.proofs.ValueLaws.{evaluate_number}

-- a number from 0 to 1 / k
pub data Below : ℕ → Float → Type 0 where
  below : {k : ℕ} (m : ℕ) (e : ℤ) → m * up e * k ≤ down e → Below k (fin false m e)

-- ---- a rounded fraction that is not negative, and at most 1 / k for a k whose 1 / k is a float
below_one : (x : Float) → plain x → lt (fin false 1 (pos 0)) x ≡ false → Below 1 x
unfolding plain lt
below_one nan p h = absurd p
below_one (inf true) p h = absurd (false≢true (sym p))
below_one (inf false) p h = absurd (false≢true (sym h))
below_one (fin true m e) p h = absurd (false≢true (sym p))
below_one (fin false m e) p h = let g = ltb-false (1 * 1 * down e) (m * up e * 1) h in below {k = 1} m e (omega arith)

below_half : (x : Float) → plain x → lt (fin false 1 (negsuc 0)) x ≡ false → Below 2 x
unfolding plain lt
below_half nan p h = absurd p
below_half (inf true) p h = absurd (false≢true (sym p))
below_half (inf false) p h = absurd (false≢true (sym h))
below_half (fin true m e) p h = absurd (false≢true (sym p))
below_half (fin false m e) p h = let g = ltb-false (1 * 1 * down e) (m * up e * 2) h in below {k = 2} m e (omega arith)

half_round : round binary64 false 1 2 ≡ fin false 1 (negsuc 0)
unfolding round
half_round = refl

rounded_half : (num den : ℕ) → 0 < den → num * 2 ≤ 1 * den → Below 2 (round binary64 false num den)
rounded_half num den d h =
    let l : le (round binary64 false num den) (round binary64 false 1 2) ≡ true = is_true
    (le (round binary64 false num den) (round binary64 false 1 2)) (round_mono binary64 num den 1 2 d (omega arith) h) in
    below_half (round binary64 false num den) (round_plain num den)
    (not_lt_of_le (round binary64 false num den) (fin false 1 (negsuc 0))
    (subst (λ (y : Float). le (round binary64 false num den) y ≡ true) half_round l))

rounded_one : (num den : ℕ) → 0 < den → num * 1 ≤ 1 * den → Below 1 (round binary64 false num den)
rounded_one num den d h =
    let l : le (round binary64 false num den) (round binary64 false 1 1) ≡ true = is_true
    (le (round binary64 false num den) (round binary64 false 1 1)) (round_mono binary64 num den 1 1 d (omega arith) h) in
    below_one (round binary64 false num den) (round_plain num den)
    (not_lt_of_le (round binary64 false num den) (fin false 1 (pos 0))
    (subst (λ (y : Float). le (round binary64 false num den) y ≡ true) round_one l))

-- ---- the middle
half_is : halfᶠ ≡ fin false 1 (negsuc 0)
unfolding of_bits
half_is = refl

product_is : (m : ℕ) (e : ℤ) → fin false m e *ᶠ fin false 1 (negsuc 0) ≡ round binary64 false (m * up e * (1 * 1)) (down e * 2)
unfolding mul
product_is m e = refl

half_below : {x : Float} → Below 1 x → Below 2 (x *ᶠ halfᶠ)
half_below (below m e h) =
    subst (Below 2) (sym (product_is m e) ∙ ap (λ (y : Float). fin false m e *ᶠ y) (sym half_is))
    (rounded_half (m * up e * (1 * 1)) (down e * 2) (mul-pos (down_pos e) (omega arith)) (omega arith))

sum_is : (m n : ℕ) (e d : ℤ) → fin false m e +ᶠ fin false n d ≡ round binary64 false (m * up e * down d + n * up d * down e)
    (down e * down d)
unfolding add sum
sum_is m n e d = refl

sum_below : {x y : Float} → Below 2 x → Below 2 y → Below 1 (x +ᶠ y)
sum_below (below m e h) (below n d k) =
    let first : m * up e * 2 * down d ≤ down e * down d = mul-le-mul_right (down d) h in
    let second : n * up d * 2 * down e ≤ down d * down e = mul-le-mul_right (down e) k in
    let a : m * up e * 2 * down d ≡ m * up e * down d * 2 = mul_right_comm (m * up e) 2 (down d) in
    let b : n * up d * 2 * down e ≡ n * up d * down e * 2 = mul_right_comm (n * up d) 2 (down e) in
    let c : down d * down e ≡ down e * down d = mul_comm (down d) (down e) in
    subst (Below 1) (sym (sum_is m n e d))
    (rounded_one (m * up e * down d + n * up d * down e) (down e * down d) (mul-pos (down_pos e) (down_pos d)) (omega arith))

pub middle_below : {x y : Float} → Below 1 x → Below 1 y → Below 1 (middle_of x y)
unfolding middle_of
middle_below p q = sum_below (half_below p) (half_below q)

-- ---- the ends and the points between
pub zero_below : Below 1 zeroᶠ
zero_below = subst (Below 1) (sym zero_is) (below {k = 1} 0 (pos 0) (omega arith))

pub one_below : Below 1 oneᶠ
one_below = subst (Below 1) (sym one_is) (below {k = 1} 1 (pos 0) (omega arith))

inside_below : (u : Float) → lt (fin false 0 (pos 0)) u ≡ true → lt u (fin false 1 (pos 0)) ≡ true → Below 1 u
unfolding lt
inside_below nan p q = absurd (false≢true p)
inside_below (inf true) p q = absurd (false≢true p)
inside_below (inf false) p q = absurd (false≢true q)
inside_below (fin true m e) p q = absurd (false≢true p)
inside_below (fin false m e) p q = let g = ltb-true (m * up e * 1) (1 * 1 * down e) q in below {k = 1} m e (omega arith)

pub between_below : (u : Float) → between_ends u ≡ true → Below 1 u
unfolding between_ends
between_below u h =
    inside_below u
    (subst (λ (z : Float). lt z u ≡ true) zero_is (and_first (lt zeroᶠ u) (lt u oneᶠ) h))
    (subst (λ (z : Float). lt u z ≡ true) one_is (and_second (lt zeroᶠ u) (lt u oneᶠ) h))

-- ---- the values

-- what holds of a cubic whose roots are searched: its coefficients are finite floats
pub record Searched (p : Cubic) : Type 0 where
  pub finite : finite_cubic p ≡ true
  pub fits_b : T (fits binary64 p.b)
  pub fits_c : T (fits binary64 p.c)
  pub fits_d : T (fits binary64 p.d)

-- the cubic through four samples is one where its coefficients are finite: each is the result of an operation, but for the first sample
pub searched_cubic : (y0 y1 y2 y3 : Float) → T (fits binary64 y0) → finite_cubic (cubic_of y0 y1 y2 y3) ≡ true → Searched
    (cubic_of y0 y1 y2 y3)
unfolding cubic_of cubic_by
searched_cubic y0 y1 y2 y3 f h = record { finite = h; fits_b = mul-fits binary64 _ _; fits_c = add-fits binary64 _ _; fits_d = f }

below_finite : {u : Float} → Below 1 u → is_finite u ≡ true
unfolding is_finite
below_finite (below m e h) = refl

-- at an end of an interval, whose sign is asked before the halvings
pub value_number : (p : Cubic) (u : Float) → Searched p → Below 1 u → is_nan (evaluate p u) ≡ false
value_number p u s b = evaluate_number p u s.finite s.fits_b s.fits_c s.fits_d (below_finite b)

-- what holds of an interval that is halved: its middle lies from 0 to 1 too, and the value at its low end is no NaN
pub data Halved : Halving → Type 0 where
  still_open : {low high value : Float} → Below 1 low → Below 1 high → is_nan value ≡ false → Halved (Open low high value)
  all_found : {u : Float} → Halved (Found u)

chosen_halved : (b : Bool) {h k : Halving} → Halved h → Halved k → Halved (cond b h k)
chosen_halved true p q = p
chosen_halved false p q = q

pub halve_halved : (p : Cubic) (tolerance : Float) (h : Halving) → Searched p → Halved h → Halved (halve p tolerance h)
unfolding halve halve_at
halve_halved p tolerance (Found u) s all_found = all_found
halve_halved p tolerance (Open low high value) s (still_open a b n) =
    let middle = middle_below a b in
    chosen_halved (le (absolute (evaluate p (middle_of low high))) tolerance) all_found
    (chosen_halved (beq (sign_positive (evaluate p (middle_of low high))) (sign_positive value))
    (still_open middle b (value_number p (middle_of low high) s middle)) (still_open a middle n))
