-- A ray and a triangle as drawn, with numbers that are not on the grid, and a point of the triangle in the drill as drawn: so the laws of
-- Clearing are not empty. Computed. Assumes nothing.
use Rattle.std.proofs.Common.{◌≡◌, ◌*◌, true, pos, ◌+ℤ◌, ◌-ℤ◌, refl, lit<, lit≤}
use lib.Ieee.{Float, binary64, of_bits, of_fields, round, units, odd, size, climb, span, sum, add, sub, mul, neg, lt, le, eq}
use Rattle.arithmetic.specs.Basic.{is_finite, absolute}
use Rattle.arithmetic.specs.Root.{root_digits, whole_root, root_round, root_of}
use Rattle.vectors.specs.Vector.{finite_vec, dot_of, length_of}
use Rattle.vectors.specs.declared.vec3.Vec3.{Vec3}
use Rattle.geometry.specs.Segment.{unit_length, ray_admitted}
use Rattle.geometry.specs.declared.ray.Ray.{Ray}
use Rattle.exact_triangle.specs.Grid.{grid_admitted, grid_point, grid_line}
use Rattle.drill.specs.Drill.{InDrill}
use Rattle.mesh_drill.specs.AsDrawn.{margin_of, Drawing, InDrillAsDrawn}
use Rattle.mesh_drill.proofs.Clearing.{in_drill_on_grid}

-- from (0.1, 0.2, 0.3) along (0.6, 0.8, 0), from 0 to 10 mm
unfoldable askew : Ray
askew = record {
  origin = record {
    x = of_bits binary64 0x3fb9_9999_9999_999a;
    y = of_bits binary64 0x3fc9_9999_9999_999a;
    z = of_bits binary64
        0x3fd3_3333_3333_3333;
  };
  direction = record {
    x = of_bits binary64 0x3fe3_3333_3333_3333;
    y = of_bits binary64 0x3fe9_9999_9999_999a;
    z = of_bits binary64
        0x0000_0000_0000_0000;
  };
  max_distance = of_bits binary64 0x4024_0000_0000_0000;
  near = of_bits binary64 0x0000_0000_0000_0000;
}

-- (3, 4, 1.5), (3.5, 4, 2.25) and (3, 5, 2)
unfoldable first : Vec3
first = record {
  x = of_bits binary64 0x4008_0000_0000_0000;
  y = of_bits binary64 0x4010_0000_0000_0000;
  z = of_bits binary64
      0x3ff8_0000_0000_0000;
}

unfoldable second : Vec3
second = record {
  x = of_bits binary64 0x400c_0000_0000_0000;
  y = of_bits binary64 0x4010_0000_0000_0000;
  z = of_bits binary64
      0x4002_0000_0000_0000;
}

unfoldable third : Vec3
third = record {
  x = of_bits binary64 0x4008_0000_0000_0000;
  y = of_bits binary64 0x4014_0000_0000_0000;
  z = of_bits binary64
      0x4000_0000_0000_0000;
}

-- a radius of 39,348 units
unfoldable wide : Float
wide = of_bits binary64 0x3ff3_3680_0000_0000

askew_admitted : ray_admitted askew ≡ true
unfolding askew ray_admitted finite_vec is_finite unit_length length_of dot_of root_of root_round whole_root root_digits absolute sub add
    sum mul neg
    round units odd size climb span lt le eq of_bits of_fields
askew_admitted = refl

askew_on_grid : grid_admitted askew ≡ true
unfolding askew grid_admitted absolute lt le eq of_bits of_fields
askew_on_grid = refl

-- on a grid 2^41 times finer all of it is whole
drawing : Drawing askew wide first second third
unfolding askew wide first second third of_bits of_fields
drawing = record {
  W = 2199023255552;
  positive = lit< tt;
  line = record {
    origin = record { x = pos 7205759403792794; y = pos 14411518807585588; z = pos 21617278211378380 };
    direction = record { x = pos 1416709944860893511680; y = pos 1888946593147858190336; z = pos 0 };
    near = 0;
    far = 720575940379279360;
  };
  radius = 86527167059460096;
  first = record { x = pos 216172782113783808; y = pos 288230376151711744; z = pos 108086391056891904 };
  second = record { x = pos 252201579132747776; y = pos 288230376151711744; z = pos 162129586585337856 };
  third = record { x = pos 216172782113783808; y = pos 360287970189639680; z = pos 144115188075855872 };
  origin_is = record { x = refl; y = refl; z = refl };
  direction_is = record { x = refl; y = refl; z = refl };
  near_is = refl;
  far_is = refl;
  radius_is = refl;
  first_is = record { x = refl; y = refl; z = refl };
  second_is = record { x = refl; y = refl; z = refl };
  third_is = record { x = refl; y = refl; z = refl };
}

-- the first corner is 39343.439 units from the axis, at 156631.040
in_drill_as_drawn : InDrillAsDrawn drawing (pos 0 +ℤ margin_of drawing) (pos drawing.line.far -ℤ margin_of drawing) (39344 * drawing.W)
unfolding drawing
in_drill_as_drawn = record {
  i = 1;
  j = 0;
  k = 0;
  positive = lit< tt;
  within = record { least = refl; most = refl; close = refl };
}

in_drill : InDrill (grid_line askew) 39348 (grid_point first) (grid_point second) (grid_point third)
unfolding drawing
in_drill =
    in_drill_on_grid askew wide first second third 39348 (39344 * drawing.W) askew_admitted askew_on_grid (lit≤ tt) drawing
    (lit≤ tt) in_drill_as_drawn
