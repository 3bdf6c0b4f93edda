-- A cubic whose derivative has one double root, computed. Assumes nothing.
use mathlib.Core.Path.{◌≡◌, refl}
use mathlib.Core.List.{[], ◌∷◌}
use lib.Ieee.{Float, binary64, span, climb, size, odd, units, round, neg, sum, add, sub, mul, div, lt, le, eq, ne, is_nan, of_fields}
use lib.Ieee.{of_bits}
use Rattle.arithmetic.specs.Basic.{absolute}
use Rattle.arithmetic.specs.Extremes.{maximum_of}
use Rattle.arithmetic.specs.Root.{root_digits, whole_root, root_round, root_of}
use Rattle.cubic.specs.Turns.{between_ends, kept_point, kept_points, vertex, turning_by, turning_points, extrema}
use Rattle.cubic.specs.declared.polynomial.Cubic.{Cubic}

-- 16 (u - 1/4)^3 - 5/4
abbrev double : Cubic
double = record {
  a = of_bits binary64 0x4030_0000_0000_0000;
  b = of_bits binary64 0xc028_0000_0000_0000;
  c = of_bits binary64 0x4008_0000_0000_0000;
  d = of_bits binary64 0xbff8_0000_0000_0000;
}

abbrev quarter : Float
quarter = of_bits binary64 0x3fd0_0000_0000_0000

-- its derivative is 48 (u - 1/4)^2, the discriminant 0: both roots are points where the search is cut
pub both_roots : extrema double ≡ quarter ∷ (quarter ∷ [])
unfolding extrema vertex turning_points turning_by kept_points kept_point between_ends root_of root_round whole_root root_digits maximum_of
    absolute
    of_bits of_fields is_nan ne le eq lt div mul sub add sum neg round units odd size climb span
both_roots = refl
