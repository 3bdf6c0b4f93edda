-- A float times a power of two, in exact terms and rounded once, the power told by the size of another float. Definitions only. Assumes
-- nothing.
use Rattle.std.specs.Prelude.{ℕ, ◌*◌, ◌/◌, ◌^◌, Float}
use Rattle.std.specs.Float.{nan, inf, fin, binary64}
use Rattle.std.specs.Float.Ieee.{up, down, size, round}

-- how many of the least floats, 2^-1074, make 1: every finite float is a whole number of them
unfoldable pub unit : ℕ
unit = 2 ^ 1074

-- how many binary digits the size of x has, counted in those: with d digits it is from 2^(d-1) to below 2^d of them, and none for a zero
unfoldable pub digits_of : Float → ℕ
digits_of nan = 0
digits_of (inf s) = 0
digits_of (fin s m e) = size (m * up e * unit / down e)

-- x times 2^1075 / 2^d, rounded once: the power of two that brings a float with d digits to at least 1 and below 2
unfoldable pub scaled_by : ℕ → Float → Float
scaled_by d nan = nan
scaled_by d (inf s) = inf s
scaled_by d (fin s m e) = round binary64 s (m * up e * (2 * unit)) (down e * 2 ^ d)
