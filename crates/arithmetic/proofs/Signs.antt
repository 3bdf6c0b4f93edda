-- What a comparison with zero says of the sign. Assumes nothing.
use Rattle.std.proofs.Common.{◌≡◌, ℕ, zero, suc, ◌+◌, ◌*◌, ◌^◌, ◌<◌, ◌≤◌, Bool, true, false, ◌&&◌, ◌||◌, T, eqb, ltb, ℤ, pos, negsuc, sym}
use Rattle.std.proofs.Common.{refl, zero-lt-suc, mul-pos, arith, eqb→eq, pow_pos, ltb-false, ltb-true, eq-eqb, eqb-true}
use mathlib.Core.Bool.{beq, false≢true}
use native.Mathlib.Nat.{pow-succ'}
use lib.Ieee.{Float, nan, inf, fin, binary64, up, down, lt, eq, div, fits}
use lib.Ieee.Fits.{up_pos}
use Rattle.lists.proofs.JoinedTests.{and_first}
use Rattle.arithmetic.specs.Basic.{negative, sign_positive}

abbrev pub plus_zero : Float
plus_zero = fin false 0 (pos 0)

abbrev one : Float
one = fin false 1 (pos 0)

-- a magnitude is not below zero
not_below : (a d : ℕ) → ltb a (0 * d) ≡ true → ⊥
not_below a d h = let l : a < 0 * d = ltb-true a (0 * d) h in omega arith

-- only a zero equals zero
not_level : (m : ℕ) (e : ℤ) (b : Bool) → (eqb (suc m * up e * 1) (0 * down e) && b) ≡ true → ⊥
not_level m e b h =
    let first = and_first (eqb (suc m * up e * 1) (0 * down e)) b h in
    let q : suc m * up e * 1 ≡ 0 * down e = eqb-true (suc m * up e * 1) (0 * down e) first in
    let p : 0 < suc m * up e = mul-pos (zero-lt-suc m) (up_pos e) in
    omega arith

-- a zero that fits has the exponent 0
pub zero_exponent : (e : ℤ) → up e * down e ≡ 1 → e ≡ pos 0
zero_exponent (pos zero) h = refl
zero_exponent (pos (suc k)) h = let p : 0 < 2 ^ k = pow_pos k in absurd (omega (arith, simp (pow-succ' 2 k) at h))
zero_exponent (negsuc k) h = let p : 0 < 2 ^ k = pow_pos k in absurd (omega (arith, simp (pow-succ' 2 k) at h))

pub zero_exp : (s : Bool) (e : ℤ) → T (fits binary64 (fin s zero e)) → e ≡ pos 0
unfolding fits
zero_exp s e t = zero_exponent e (eqb→eq (up e * down e) 1 t)

-- a value below zero: its sign is not positive
pub below_zero_negative : (x : Float) → lt x plus_zero ≡ true → false ≡ sign_positive x
unfolding lt negative sign_positive
below_zero_negative nan h = h
below_zero_negative (inf true) h = refl
below_zero_negative (inf false) h = h
below_zero_negative (fin true m e) h = refl
below_zero_negative (fin false m e) h = absurd (not_below (m * up e * 1) (down e) h)

-- one of the two zeros: its reciprocal has its sign
pub zero_sign : (x : Float) → eq x plus_zero ≡ true → lt plus_zero (div binary64 one x) ≡ sign_positive x
unfolding eq lt div negative sign_positive
zero_sign nan h = h
zero_sign (inf s) h = absurd (false≢true h)
zero_sign (fin true zero e) h = refl
zero_sign (fin false zero e) h = refl
zero_sign (fin s (suc m) e) h = absurd (not_level m e (beq s false || eqb (suc m * up e * 1) 0) h)

-- a value that is neither below zero nor equal to it: its sign is positive
not_negative : (m : ℕ) (e : ℤ) → ltb 0 (m * up e * 1 + 0 * down e) ≡ false →
    (eqb (m * up e * 1) (0 * down e) && (false || eqb (m * up e * 1) 0)) ≡ false → ⊥
not_negative m e h g =
    let l : m * up e * 1 + 0 * down e ≤ 0 = ltb-false 0 (m * up e * 1 + 0 * down e) h in
    let a : eqb (m * up e * 1) (0 * down e) ≡ true = eq-eqb (m * up e * 1) (0 * down e) (omega arith) in
    let b : eqb (m * up e * 1) 0 ≡ true = eq-eqb (m * up e * 1) 0 (omega arith) in
    false≢true (sym (rw (a, b) at g))

pub above_zero_positive : (x : Float) → lt x plus_zero ≡ false → eq x plus_zero ≡ false → true ≡ sign_positive x
unfolding lt eq negative sign_positive
above_zero_positive nan h g = refl
above_zero_positive (inf true) h g = h
above_zero_positive (inf false) h g = refl
above_zero_positive (fin true m e) h g = absurd (not_negative m e h g)
above_zero_positive (fin false m e) h g = refl
