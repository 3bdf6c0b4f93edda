-- The cubic through four samples, its values, and how small a value counts as zero. Definitions only. Assumes nothing.
use Rattle.std.specs.Prelude.{Bool, ◌&&◌, Float}
use Rattle.std.specs.Float.{binary64}
use Rattle.std.specs.Float.Ieee.{of_bits}
use Rattle.arithmetic.specs.Basic.{is_finite, absolute}
use Rattle.arithmetic.specs.Extremes.{maximum_of}
use Rattle.vectors.specs.Numbers.{◌+ᶠ◌, ◌-ᶠ◌, ◌*ᶠ◌, oneᶠ, epsilon}
use Rattle.cubic.specs.declared.polynomial.Cubic.{Cubic}

-- 3/2, 2, 3, 4, 9/2 and 64
abbrev one_point_five : Float
one_point_five = of_bits binary64 0x3ff8_0000_0000_0000

abbrev pub twoᶠ : Float
twoᶠ = of_bits binary64 0x4000_0000_0000_0000

abbrev pub threeᶠ : Float
threeᶠ = of_bits binary64 0x4008_0000_0000_0000

abbrev pub fourᶠ : Float
fourᶠ = of_bits binary64 0x4010_0000_0000_0000

abbrev four_point_five : Float
four_point_five = of_bits binary64 0x4012_0000_0000_0000

abbrev sixty_four : Float
sixty_four = of_bits binary64 0x4050_0000_0000_0000

-- from the first, second and third differences of the values at 0, 1/3, 2/3 and 1
unfoldable pub cubic_by : Float → Float → Float → Float → Cubic
cubic_by y0 delta1 delta2 delta3 = record {
  a = four_point_five *ᶠ delta3;
  b = four_point_five *ᶠ (delta2 -ᶠ delta3);
  c = threeᶠ *ᶠ delta1 -ᶠ one_point_five *ᶠ delta2 +ᶠ delta3;
  d = y0;
}

unfoldable pub cubic_of : Float → Float → Float → Float → Cubic
cubic_of y0 y1 y2 y3 = cubic_by y0 (y1 -ᶠ y0) (y2 -ᶠ twoᶠ *ᶠ y1 +ᶠ y0) (y3 -ᶠ threeᶠ *ᶠ y2 +ᶠ threeᶠ *ᶠ y1 -ᶠ y0)

unfoldable pub finite_cubic : Cubic → Bool
finite_cubic p = is_finite p.a && (is_finite p.b && (is_finite p.c && is_finite p.d))

unfoldable pub evaluate : Cubic → Float → Float
evaluate p u = ((p.a *ᶠ u +ᶠ p.b) *ᶠ u +ᶠ p.c) *ᶠ u +ᶠ p.d

-- "scale·EPS·64 (scale at least 1)"
unfoldable pub root_tolerance : Cubic → Float
root_tolerance p =
    maximum_of (maximum_of (maximum_of (maximum_of oneᶠ (absolute p.a)) (absolute p.b)) (absolute p.c)) (absolute p.d)
    *ᶠ epsilon *ᶠ sixty_four
