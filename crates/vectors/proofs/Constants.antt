-- 0 and 1 are the floats that they name. Assumes nothing.
use mathlib.Core.Path.{◌≡◌, refl}
use mathlib.Core.Bool.{false}
use lib.IntN.{pos}
use lib.Ieee.{fin, of_bits}
use Rattle.vectors.specs.Numbers.{zeroᶠ, oneᶠ}

pub zero_is : zeroᶠ ≡ fin false 0 (pos 0)
unfolding of_bits
zero_is = refl

pub one_is : oneᶠ ≡ fin false 1 (pos 0)
unfolding of_bits
one_is = refl
