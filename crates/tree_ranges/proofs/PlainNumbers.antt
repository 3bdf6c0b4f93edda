-- A value below or above 0 is plain, and two plain numbers of which neither is above the other are the same. Assumes nothing.
use mathlib.Core.Path.{◌≡◌, refl, sym, ap, ◌∙◌, subst}
use mathlib.Core.Bool.{Bool, true, false, ◌&&◌, ◌||◌, not, true≢false, false≢true, and-false, or-true}
use Prim.Native.Nat.{ℕ, zero, suc, ◌+◌, ◌*◌, ◌<◌}
use native.Mathlib.Nat.{mul-pos}
use native.Mathlib.Omega.{arith}
use lib.Dec.{T, eqb, ltb}
use lib.IntN.{ℤ, pos}
use lib.Ieee.{Float, nan, inf, fin, binary64, up, down, lt, le, is_nan, fits, to_bits, of_bits}
use lib.Ieee.Bits.{of_bits-to_bits}
use lib.Ieee.Fits.{up_pos, down_pos}
use borrow.Author.Tests.{ltb-false, ne_eqb, not-true}
use Rattle.arithmetic.specs.Basic.{negative}
use Rattle.arithmetic.specs.Ordering.{total_order}
use Rattle.arithmetic.proofs.Order.{not_lt_of_le, le_of_lt, le_left_number, le_right_number}
use Rattle.arithmetic.proofs.Signs.{zero_exp}
use Rattle.arithmetic.proofs.TotalOrder.{at_most_before, total_order_antisymmetric}
use Rattle.vectors.specs.Numbers.{zeroᶠ}
use Rattle.lists.proofs.JoinedTests.{and_first, and_second}
use Rattle.tree_ranges.specs.Plain.{plain}

-- the pattern of -0
abbrev minus_zero : ℕ
minus_zero = 0x8000_0000_0000_0000

-- of three joined tests the last decides where the others pass
pub last_decides : (a b c : Bool) → a ≡ true → b ≡ true → c ≡ (a && (b && c))
last_decides a b c p q = rw (p, q)

-- ---- what the test says
pub plain_fits : (x : Float) → plain x ≡ true → T (fits binary64 x)
unfolding plain
plain_fits x h = subst T (sym (and_first (fits binary64 x) (not (is_nan x) && not (eqb (to_bits binary64 x) minus_zero)) h)) tt

pub plain_number : (x : Float) → plain x ≡ true → is_nan x ≡ false
unfolding plain
plain_number x h =
    let rest = not (eqb (to_bits binary64 x) minus_zero) in
    not-true (is_nan x) (and_first (not (is_nan x)) rest (and_second (fits binary64 x) (not (is_nan x) && rest) h))

pub nan_not_plain : (x : Float) → is_nan x ≡ true → plain x ≡ false
unfolding plain
nan_not_plain x h = ap (λ (b : Bool). fits binary64 x && (not b && not (eqb (to_bits binary64 x) minus_zero))) h
    ∙ and-false (fits binary64 x)

pub number_plain : (x : Float) → fits binary64 x ≡ true → is_nan x ≡ false → not (eqb (to_bits binary64 x) minus_zero) ≡ plain x
unfolding plain
number_plain x f h = rw (f, h)

-- ---- a number below or above 0 has not the pattern of -0
pattern_is : of_bits binary64 minus_zero ≡ fin true zero (pos 0)
unfolding of_bits
pattern_is = refl

apart_from_zero : (x : Float) (test : Float → Bool) → fits binary64 x ≡ true → is_nan x ≡ false → test x ≡ true
    → test (fin true zero (pos 0)) ≡ false → true ≡ plain x
apart_from_zero x test f n h z = sym (ap not (ne_eqb (to_bits binary64 x) minus_zero other)) ∙ number_plain x f n
  where
    other : to_bits binary64 x ≡ minus_zero → ⊥
    other e =
        false≢true (sym z ∙ ap test (sym pattern_is ∙ ap (of_bits binary64) (sym e) ∙ of_bits-to_bits binary64 x (subst T (sym f) tt)) ∙ h)

zero_not_below : lt (fin true zero (pos 0)) zeroᶠ ≡ false
unfolding lt of_bits
zero_not_below = refl

zero_not_above : lt zeroᶠ (fin true zero (pos 0)) ≡ false
unfolding lt of_bits
zero_not_above = refl

pub below_plain : (x : Float) → fits binary64 x ≡ true → lt x zeroᶠ ≡ true → true ≡ plain x
below_plain x f h =
    apart_from_zero x (λ (z : Float). lt z zeroᶠ) f (le_left_number x zeroᶠ (le_of_lt x zeroᶠ h)) h zero_not_below

pub above_plain : (x : Float) → fits binary64 x ≡ true → lt zeroᶠ x ≡ true → true ≡ plain x
above_plain x f h = apart_from_zero x (lt zeroᶠ) f (le_right_number zeroᶠ x (le_of_lt zeroᶠ x h)) h zero_not_above

-- ---- -0 is not plain
zero_not_plain : plain (fin true zero (pos 0)) ≡ false
unfolding plain to_bits fits is_nan
zero_not_plain = refl

minus_zero_not_plain : (e : ℤ) → plain (fin true zero e) ≡ true → ⊥
minus_zero_not_plain e h =
    let z = zero_exp true e (plain_fits (fin true zero e) h) in
    false≢true (sym zero_not_plain ∙ ap (λ (k : ℤ). plain (fin true zero k)) (sym z) ∙ h)

-- so a plain number of negative sign is below each one of positive sign
negative_below : (n : ℕ) (d : ℤ) (m : ℕ) (e : ℤ) → plain (fin true n d) ≡ true → ltb 0 (n * up d * down e + m * up e * down d) ≡ false → ⊥
negative_below zero d m e p h = minus_zero_not_plain d p
negative_below (suc n) d m e p h =
    let some : 0 < suc n * up d * down e = mul-pos (mul-pos (omega arith) (up_pos d)) (down_pos e) in
    omega (arith, ltb-false 0 (suc n * up d * down e + m * up e * down d) h)

signs : (x y : Float) → plain x ≡ true → plain y ≡ true → lt y x ≡ false → (negative x || not (negative y)) ≡ true
unfolding lt negative is_nan
signs nan y p q h = absurd (true≢false (plain_number nan p))
signs (inf s) nan p q h = absurd (true≢false (plain_number nan q))
signs (inf true) (inf t) p q h = refl
signs (inf false) (inf false) p q h = refl
signs (inf false) (inf true) p q h = absurd (true≢false h)
signs (inf true) (fin t n d) p q h = refl
signs (inf false) (fin t n d) p q h = absurd (true≢false h)
signs (fin s m e) nan p q h = absurd (true≢false (plain_number nan q))
signs (fin s m e) (inf true) p q h = absurd (true≢false h)
signs (fin s m e) (inf false) p q h = or-true s
signs (fin true m e) (fin t n d) p q h = refl
signs (fin false m e) (fin false n d) p q h = refl
signs (fin false m e) (fin true n d) p q h = absurd (negative_below n d m e q h)

before : (x y : Float) → plain x ≡ true → plain y ≡ true → le x y ≡ true → total_order x y ≡ true
before x y p q h = at_most_before x y h (signs x y p q (not_lt_of_le x y h))

pub plain_same : (x y : Float) → plain x ≡ true → plain y ≡ true → le x y ≡ true → le y x ≡ true → x ≡ y
plain_same x y p q h k =
    total_order_antisymmetric x y (plain_fits x p) (plain_fits y q) (before x y p q h) (before y x q p k)
