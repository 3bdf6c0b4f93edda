-- The float constants of the geometry, each with its bits, and the binary64 operations under short names. Definitions only. Assumes
-- nothing.
use Rattle.std.specs.Prelude.{Float}
use Rattle.std.specs.Float.{binary64}
use Rattle.std.specs.Float.Ieee.{of_bits}
use Rattle.std.specs.Float.Ieee as Ieee

infixl 30 ◌+ᶠ◌
infixl 30 ◌-ᶠ◌
infixl 40 ◌*ᶠ◌
infixl 40 ◌/ᶠ◌
abbrev pub ◌+ᶠ◌ : Float → Float → Float
x +ᶠ y = Ieee.add binary64 x y

abbrev pub ◌-ᶠ◌ : Float → Float → Float
x -ᶠ y = Ieee.sub binary64 x y

abbrev pub ◌*ᶠ◌ : Float → Float → Float
x *ᶠ y = Ieee.mul binary64 x y

abbrev pub ◌/ᶠ◌ : Float → Float → Float
x /ᶠ y = Ieee.div binary64 x y

-- 0, 1 and 1/2
abbrev pub zeroᶠ : Float
zeroᶠ = of_bits binary64 0

abbrev pub oneᶠ : Float
oneᶠ = of_bits binary64 0x3ff0_0000_0000_0000

abbrev pub halfᶠ : Float
halfᶠ = of_bits binary64 0x3fe0_0000_0000_0000

-- "EPS is 2^-52"
abbrev pub epsilon : Float
epsilon = of_bits binary64 0x3cb0_0000_0000_0000

-- 1e-12, how far a length may be from 1
abbrev pub tolerance : Float
tolerance = of_bits binary64 0x3d71_9799_812d_ea11

-- 2^-1022, the least dot that is normalised
abbrev pub min_positive : Float
min_positive = of_bits binary64 0x0010_0000_0000_0000

-- 1e-300 and 1e300: a dot between them is far from what is scaled before it is normalised
abbrev pub least_square : Float
least_square = of_bits binary64 0x01a5_6e1f_c2f8_f359

abbrev pub greatest_square : Float
greatest_square = of_bits binary64 0x7e37_e43c_8800_759c
