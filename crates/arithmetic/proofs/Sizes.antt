-- The absolute value and the negative of a float: which are numbers, and that each number is at most its absolute value. Assumes nothing.
use Rattle.std.proofs.Common.{◌≡◌, true, false, refl, true≢false}
use lib.Ieee.{Float, nan, inf, fin, neg, lt, le, is_nan}
use Rattle.arithmetic.specs.Basic.{absolute}
use Rattle.arithmetic.proofs.Order.{le_of_not_lt, le_reflexive}

pub number_neg : (x : Float) → is_nan (neg x) ≡ is_nan x
unfolding is_nan neg
number_neg nan = refl
number_neg (inf s) = refl
number_neg (fin s m e) = refl

pub number_size : (x : Float) → is_nan (absolute x) ≡ is_nan x
unfolding is_nan absolute
number_size nan = refl
number_size (inf s) = refl
number_size (fin s m e) = refl

pub size_neg : (x : Float) → absolute (neg x) ≡ absolute x
unfolding absolute neg
size_neg nan = refl
size_neg (inf s) = refl
size_neg (fin s m e) = refl

pub at_most_size : (x : Float) → is_nan x ≡ false → le x (absolute x) ≡ true
unfolding absolute is_nan lt le
at_most_size nan p = absurd (true≢false p)
at_most_size (inf false) p = refl
at_most_size (inf true) p = refl
at_most_size (fin false m e) p = le_reflexive (fin false m e) p
at_most_size (fin true m e) p = le_of_not_lt (fin true m e) (fin false m e) p p refl

-- the absolute value is the number or its negative
pub size_one : (P : Float → Type 0) (x : Float) → P x → P (neg x) → P (absolute x)
unfolding absolute neg
size_one P nan p q = p
size_one P (inf false) p q = p
size_one P (inf true) p q = q
size_one P (fin false m e) p q = p
size_one P (fin true m e) p q = q
