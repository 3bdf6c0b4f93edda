-- Where a rounded number is above zero, the cell below a node is none below the first. Assumes nothing.
use Rattle.std.proofs.Common.{◌≡◌, ◌<◌, true, T, refl, subst}
use lib.Ieee.{Float, binary64, of_bits, fits, lt}
use Rattle.arithmetic.specs.Rounding.{round_of, whole_of}
use Rattle.arithmetic.proofs.Casts.{none}
use Rattle.arithmetic.proofs.WholeNumbers.{rounded_positive}
use Rattle.vectors.specs.Numbers.{zeroᶠ}

zero_is_none : zeroᶠ ≡ none
unfolding of_bits
zero_is_none = refl

-- where `nearest` is above 0, `nearest as usize - 1` does not go below 0
pub nearest_above_zero : (x : Float) → T (fits binary64 x) → lt zeroᶠ (round_of x) ≡ true → 0 < whole_of (round_of x)
nearest_above_zero x f h = rounded_positive x f (subst (λ (z : Float). lt z (round_of x) ≡ true) zero_is_none h)
