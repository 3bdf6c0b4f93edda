-- IEEE 754's totalOrder. Definitions only. Assumes nothing.
use Rattle.std.specs.Prelude.{Bool, true, false, cond, not, ◌||◌, is_nan, Float}
use Rattle.std.specs.Float.Ieee.{lt}
use Rattle.arithmetic.specs.Basic.{negative}

-- IEEE 754 5.10, x at or before y: the lesser number first; a NaN, which counts as positive, after every number; of equal numbers -0 before
-- +0
unfoldable pub total_order : Float → Float → Bool
total_order x y = cond (lt x y) true (cond (lt y x) false (cond (is_nan y) true (cond (is_nan x) false (negative x || not (negative y)))))
