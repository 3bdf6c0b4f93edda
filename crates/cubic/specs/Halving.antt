-- An interval halved toward a root. Definitions only. Assumes nothing.
use Rattle.std.specs.Prelude.{ℕ, zero, suc, cond, Float}
use Rattle.std.specs.Bool.{beq}
use Rattle.std.specs.Float.Ieee.{le}
use Rattle.arithmetic.specs.Basic.{absolute, sign_positive}
use Rattle.vectors.specs.Numbers.{◌+ᶠ◌, ◌*ᶠ◌, halfᶠ}
use Rattle.cubic.specs.Polynomial.{evaluate}
use Rattle.cubic.specs.declared.polynomial.Cubic.{Cubic}
use Rattle.cubic.specs.declared.halving.Halving.{Halving}
use Rattle.cubic.specs.declared.halving.Halving.TheVariants.{Open, Found}

unfoldable pub middle_of : Float → Float → Float
middle_of low high = low *ᶠ halfᶠ +ᶠ high *ᶠ halfᶠ

-- A middle within the tolerance ends them. Else the half is kept whose ends differ in sign.
unfoldable pub halve_at : Float → Float → Float → Float → Float → Float → Halving
halve_at tolerance low high lowValue middle value =
    cond (le (absolute value) tolerance) (Found middle)
    (cond (beq (sign_positive value) (sign_positive lowValue)) (Open middle high value) (Open low middle lowValue))

unfoldable pub halve : Cubic → Float → Halving → Halving
halve p tolerance (Found u) = Found u
halve p tolerance (Open low high lowValue) =
    halve_at tolerance low high lowValue (middle_of low high) (evaluate p (middle_of low high))

unfoldable pub halvings : Cubic → Float → ℕ → Halving → Halving
halvings p tolerance zero h = h
halvings p tolerance (suc n) h = halvings p tolerance n (halve p tolerance h)

unfoldable pub settled : Halving → Float
settled (Found u) = u
settled (Open low high lowValue) = middle_of low high
