-- Worked examples in a direction askew, computed: a wall that is met at 4 millimetres, one that is passed, and a triangle that the grid has
-- made flat. Assumes nothing.
use Rattle.std.specs.Prelude.{Some, None}
use mathlib.Core.Path.{◌≡◌, refl}
use mathlib.Core.Bool.{true}
use lib.IntN.{ℤ, pos, negsuc}
use Rattle.exact_depth.specs.FirstPoint.{first_point, by_weights, crossing, kept, coplanar, in_plane}
use Rattle.exact_depth.specs.FirstPoint.{area}
use Rattle.exact_depth.specs.declared.projection.Point.{Point}
use lib.Ieee.{binary64, span, climb, size, odd, units, round, neg, sum, add, sub, mul, lt, eq, le, of_fields, of_bits}
use Rattle.arithmetic.specs.Basic.{is_finite, absolute}
use Rattle.arithmetic.specs.Root.{root_digits, whole_root, root_round, root_of}
use Rattle.vectors.specs.Vector.{finite_vec, dot_of, length_of}
use Rattle.geometry.specs.Segment.{unit_length, ray_admitted}
use Rattle.geometry.specs.declared.ray.Ray.{Ray}
use Rattle.exact_triangle.specs.Grid.{nearest_to, grid_admitted, grid_line}
use Rattle.exact_triangle.specs.Line.{Line}
use Rattle.exact_triangle.specs.Shear.{main_of, depth_of}

-- from the origin along (1, 1, 0), up to 32,768
diagonal : Line
diagonal = record {
  origin = record { x = pos 0; y = pos 0; z = pos 0 };
  direction = record { x = pos 1073741824; y = pos 1073741824; z = pos 0 };
  near = 0;
  far = 1073741824;
}

point : ℤ → ℤ → ℤ → Point
point x y z = record { x = x; y = y; z = z }

-- 4 mm is 131,072 units: t / w with t = 131072 w
met_at_four : depth_of diagonal (point (pos 131072) (pos 131072) (negsuc 65535)) (point (pos 131072) (pos 131072) (pos 65536))
    (point (pos 196608) (pos 131072) (pos 0))
    ≡ Some (record { t = pos 1393796574908163946345982392040522594123776; w = pos 10633823966279326983230456482242756608 })
unfolding diagonal point depth_of main_of first_point by_weights crossing kept
met_at_four = refl

passed : depth_of diagonal (point (pos 131072) (pos 131071) (negsuc 65535)) (point (pos 131072) (pos 131071) (pos 65536))
    (point (pos 196608) (pos 131071) (pos 0)) ≡ None
unfolding diagonal point depth_of main_of first_point by_weights crossing kept
passed = refl

-- three corners on one line across the ray: no area
flat_passed : depth_of diagonal (point (pos 65536) (pos 0) (pos 0)) (point (pos 0) (pos 65536) (pos 0)) (point (pos 131072)
    (negsuc 65535) (pos 0))
    ≡ None
unfolding diagonal point depth_of main_of first_point by_weights crossing coplanar in_plane area kept
flat_passed = refl

-- ---- a ray of floats, along (0.6, 0.8, 0) from (0.1, -0.1, 0): both promises' conditions hold, and it is read as whole numbers
askew : Ray
askew = record {
  origin = record { x = of_bits binary64 0x3fb9_9999_9999_999a; y = of_bits binary64 0xbfb9_9999_9999_999a; z = of_bits binary64 0 };
  direction = record { x = of_bits binary64 0x3fe3_3333_3333_3333; y = of_bits binary64 0x3fe9_9999_9999_999a; z = of_bits binary64 0 };
  max_distance = of_bits binary64 0x40e0_0000_0000_0000;
  near = of_bits binary64 0;
}

askew_admitted : ray_admitted askew ≡ true
unfolding askew ray_admitted finite_vec is_finite unit_length length_of dot_of root_of root_round whole_root root_digits absolute sub add
    sum mul neg
    round units odd size climb span lt le eq of_bits of_fields
askew_admitted = refl

askew_on_grid : grid_admitted askew ≡ true
unfolding askew grid_admitted absolute lt le eq of_bits of_fields
askew_on_grid = refl

askew_read : grid_line askew ≡ record {
  origin = record { x = pos 3277; y = negsuc 3276; z = pos 0 };
  direction = record { x = pos 644245094; y = pos 858993459; z = pos 0 };
  near = 0;
  far = 1073741824;
}
unfolding askew grid_line nearest_to of_bits of_fields
askew_read = refl
