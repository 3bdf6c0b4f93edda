-- Which spacings are admitted. Definitions only. Assumes nothing.
use Rattle.std.specs.Prelude.{Bool, ◌&&◌, Float}
use Rattle.std.specs.Float.Ieee.{lt, of_bits}
use Rattle.std.specs.Float.{binary64}
use Rattle.arithmetic.specs.Basic.{is_finite}

-- "Spacings are finite and above 0"
unfoldable pub spacing_admitted : Float → Bool
spacing_admitted h = is_finite h && lt (of_bits binary64 0) h
