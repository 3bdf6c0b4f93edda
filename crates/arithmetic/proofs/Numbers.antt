-- A value lies strictly between the infinities exactly where it is finite, and is then no NaN; nor are values that are equal. Assumes
-- nothing.
use Rattle.std.proofs.Common.{◌≡◌, Bool, true, false, not, T, sym, refl, ap, ◌∙◌, subst}
use mathlib.Core.Bool.{false≢true}
use lib.Ieee.{Float, nan, inf, fin, binary64, fits, lt, eq, is_nan, to_bits, of_bits}
use lib.Ieee.Bits.{of_bits-to_bits}
use Rattle.arithmetic.specs.Basic.{is_finite}

pub above_minus_infinity : (x : Float) → lt x (inf false) ≡ true → lt (inf true) x ≡ is_finite x
unfolding lt is_finite
above_minus_infinity nan h = refl
above_minus_infinity (inf true) h = refl
above_minus_infinity (inf false) h = sym h
above_minus_infinity (fin s m e) h = refl

pub not_below_infinity : (x : Float) → lt x (inf false) ≡ false → false ≡ is_finite x
unfolding lt is_finite
not_below_infinity nan h = refl
not_below_infinity (inf s) h = refl
not_below_infinity (fin s m e) h = sym h

pub finite_number : (x : Float) → is_finite x ≡ true → is_nan x ≡ false
unfolding is_finite is_nan
finite_number nan h = absurd (false≢true h)
finite_number (inf s) h = refl
finite_number (fin s m e) h = refl

-- equal floats are numbers
pub left_number : (x y : Float) → eq x y ≡ true → is_nan x ≡ false
left_number nan y h = absurd (false≢true (unfold eq in h))
left_number (inf s) y h = unfold is_nan in refl
left_number (fin s m e) y h = unfold is_nan in refl

pub right_number : (x y : Float) → eq x y ≡ true → is_nan y ≡ false
right_number nan nan h = absurd (false≢true (unfold eq in h))
right_number (inf s) nan h = absurd (false≢true (unfold eq in h))
right_number (fin s m e) nan h = absurd (false≢true (unfold eq in h))
right_number x (inf s) h = unfold is_nan in refl
right_number x (fin s m e) h = unfold is_nan in refl

pub number_passes : (x : Float) → is_nan x ≡ false → T (not (is_nan x))
number_passes x h = subst (λ (b : Bool). T (not b)) (sym h) tt

pub same_bits : (x y : Float) → T (fits binary64 x) → T (fits binary64 y) → to_bits binary64 x ≡ to_bits binary64 y → x ≡ y
same_bits x y f g e = sym (of_bits-to_bits binary64 x f) ∙ ap (of_bits binary64) e ∙ of_bits-to_bits binary64 y g
