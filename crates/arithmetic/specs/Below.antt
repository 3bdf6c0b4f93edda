-- The float just below a float. Definitions only. Assumes nothing.
use Rattle.std.specs.Prelude.{◌+◌, ◌-◌, cond, from_bits, to_bits, Float}
use Rattle.std.specs.Float.{binary64}
use Rattle.std.specs.Float.Ieee.{neg, lt}
use Rattle.arithmetic.specs.Basic.{is_finite, absolute}

-- The patterns of floats that are not negative stand in the order of their values: above zero it is the pattern one less, and at or below
-- zero, in size, the pattern one more. There is none below -∞, and none below NaN: these stay.
unfoldable pub just_below : Float → Float
just_below x =
    cond (lt (from_bits binary64 0) x) (from_bits binary64 (to_bits binary64 x - 1))
    (cond (is_finite x) (neg (from_bits binary64 (to_bits binary64 (absolute x) + 1))) x)
