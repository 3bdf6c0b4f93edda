-- A whole number from a float: by a fraction that the float equals, and where it saturates. Assumes nothing.
use Rattle.std.proofs.Common.{◌≡◌, ℕ, ◌+◌, ◌-◌, ◌*◌, ◌/◌, ◌^◌, ◌<◌, ◌≤◌, min, Bool, true, false, cond, T, pos, sym, refl, ap, ◌∙◌, subst}
use Rattle.std.proofs.Common.{true≢false, div-lt_iff_lt-mul, lt_of_mul-lt-mul_right, mul-lt-mul_of_pos_right, le-div_iff_mul-le, mul-one}
use Rattle.std.proofs.Common.{mul_right_comm, mul-div_cancel, arith, lt→ltb, ltb-false}
use mathlib.Core.Bool.{false≢true}
use native.Mathlib.Nat.{zero-div, zero-min}
use lib.Ieee.{Float, nan, inf, fin, up, down, lt, to_unsigned}
use lib.Ieee.Fits.{down_pos}
use lib.Ieee.Exact.{HasValue}
use lib.Ieee.Nearest.{div_same}
use Rattle.arithmetic.specs.Rounding.{whole_of}
use Rattle.arithmetic.proofs.Order.{lt_transitive}

-- 0, at and below which a cast gives 0
abbrev pub none : Float
none = fin false 0 (pos 0)

-- ---- by a fraction that the number equals
pub in_range_lem : (x : Float) (n c : ℕ) → 0 < c → HasValue x false n c → n < 2 ^ 64 * c → T (lt (fin true 1 (pos 0)) x) × T
    (lt x (fin false 1 (pos 64)))
unfolding lt
in_range_lem nan n c C v h = absurd v
in_range_lem (inf s) n c C v h = absurd v
in_range_lem (fin true m e) n c C v h = absurd (true≢false v.0)
in_range_lem (fin false m e) n c C v h =
    let d = down_pos e in
    let scaled : n * down e < 2 ^ 64 * c * down e = mul-lt-mul_of_pos_right h d in
    let below : m * up e * c < 2 ^ 64 * down e * c = subst (λ (z : ℕ). z < 2 ^ 64 * down e * c) (sym v.1)
    (subst (λ (z : ℕ). n * down e < z) (mul_right_comm (2 ^ 64) c (down e)) scaled) in
    let under : m * up e < 2 ^ 64 * down e = lt_of_mul-lt-mul_right c below in
    (lt→ltb 0 (1 * down e + m * up e * 1) (omega arith), lt→ltb (m * up e * 1) (2 ^ 64 * down e) (omega arith))

pub cast_is : (x : Float) (n c : ℕ) → 0 < c → HasValue x false n c → n < 2 ^ 64 * c → to_unsigned 64 x ≡ n / c
unfolding to_unsigned
cast_is nan n c C v h = absurd v
cast_is (inf s) n c C v h = absurd v
cast_is (fin true m e) n c C v h = absurd (true≢false v.0)
cast_is (fin false m e) n c C v h =
    let q : m * up e / down e ≡ n / c = div_same (m * up e) (down e) n c (down_pos e) C v.1 in
    let b : n / c < 2 ^ 64 = (div-lt_iff_lt-mul C).1 h in
    omega arith

pub cast_of_value : (x : Float) (s : Bool) (n : ℕ) → HasValue x s n 1 → whole_of x ≡ cond s 0 (min n (2 ^ 64 - 1))
unfolding to_unsigned
cast_of_value nan s n v = absurd v
cast_of_value (inf t) s n v = absurd v
cast_of_value (fin t m e) s n v =
    ap (λ (b : Bool). cond b 0 (min (m * up e / down e) (2 ^ 64 - 1))) v.0
    ∙ ap (λ (z : ℕ). cond s 0 (min z (2 ^ 64 - 1)))
    (ap (λ (z : ℕ). z / down e) (sym (mul-one (m * up e)) ∙ v.1) ∙ mul-div_cancel n (down_pos e))

-- ---- by the tests of the code
pub cast_of_none : (x : Float) → lt none x ≡ false → whole_of x ≡ 0
unfolding lt to_unsigned
cast_of_none nan h = refl
cast_of_none (inf true) h = refl
cast_of_none (inf false) h = absurd (true≢false h)
cast_of_none (fin true m e) h = refl
cast_of_none (fin false m e) h =
    let g = ltb-false (0 * down e) (m * up e * 1) h in
    let z : m * up e ≡ 0 = omega arith in
    ap (λ (k : ℕ). min (k / down e) (2 ^ 64 - 1)) z ∙ ap (λ (k : ℕ). min k (2 ^ 64 - 1)) (zero-div (down e)) ∙ zero-min (2 ^ 64 - 1)

pub cast_of_large : (x : Float) → lt none x ≡ true → lt x (fin false 1 (pos 64)) ≡ false → whole_of x ≡ 2 ^ 64 - 1
unfolding lt to_unsigned
cast_of_large nan h k = absurd (false≢true h)
cast_of_large (inf true) h k = absurd (false≢true h)
cast_of_large (inf false) h k = refl
cast_of_large (fin true m e) h k = absurd (false≢true h)
cast_of_large (fin false m e) h k =
    let g = ltb-false (m * up e * 1) (2 ^ 64 * down e) k in
    let q : 2 ^ 64 ≤ m * up e / down e = (le-div_iff_mul-le (down_pos e)).1 (omega arith) in
    omega arith

pub cast_in_range : (x : Float) → lt none x ≡ true → lt x (fin false 1 (pos 64)) ≡ true → T (lt (fin true 1 (pos 0)) x) × T
    (lt x (fin false 1 (pos 64)))
cast_in_range x h k = (subst T (sym (lt_transitive (fin true 1 (pos 0)) none x (unfold lt in refl) h)) tt, subst T (sym k) tt)
