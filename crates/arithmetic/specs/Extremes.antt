-- "Minimum and maximum give the first operand if equal, and the other operand if one is NaN." Definitions only. Assumes nothing.
use Rattle.std.specs.Prelude.{cond, is_nan, Float}
use Rattle.std.specs.Float.Ieee.{lt}

-- the second operand where it is less or the first is NaN, and else the first
unfoldable pub minimum_of : Float → Float → Float
minimum_of x y = cond (lt y x) y (cond (is_nan x) y x)

unfoldable pub maximum_of : Float → Float → Float
maximum_of x y = cond (lt x y) y (cond (is_nan x) y x)
