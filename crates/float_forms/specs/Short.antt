-- The pattern of 4 bytes for a float that is none that "f32 does not hold exactly or that is NaN" (document 02, M-113). Definitions only.
-- Assumes nothing.
use Rattle.std.specs.Prelude.{ℕ, ◌+◌, ◌-◌, ◌*◌, ◌/◌, ◌%◌, ◌^◌, cond, leb, ltb, eqb, Float, Option, Some, None}
use Rattle.std.specs.Float.{binary32}
use Rattle.std.specs.Float.Ieee.{to_bits}
use Rattle.float_forms.specs.declared.forms.Form.TheVariants as forms
use Rattle.float_forms.specs.Representable.{representable}

-- the guess at a magnitude: infinity; a normal number; zero, or too small; a subnormal number
unfoldable pub guess_size : ℕ → ℕ
guess_size size =
    cond (eqb size 0x7ff0_0000_0000_0000) 0x7f80_0000
    (cond (leb 897 (size / 0x10_0000_0000_0000)) ((size / 0x2000_0000 - 0x1_c000_0000) % 0x8000_0000)
    (cond (ltb (size / 0x10_0000_0000_0000) 874) 0
    ((0x10_0000_0000_0000 + size % 0x10_0000_0000_0000) / 2 ^ (926 - size / 0x10_0000_0000_0000) % 0x8000_0000)))

unfoldable pub guess : ℕ → ℕ
guess bits = bits / 0x8000_0000_0000_0000 * 0x8000_0000 + guess_size (bits % 0x8000_0000_0000_0000)

unfoldable pub short_of : Float → Option ℕ
short_of x = cond (representable forms.Short x) (Some (to_bits binary32 x)) None
