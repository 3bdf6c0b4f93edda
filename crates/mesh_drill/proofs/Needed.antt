-- A margin of 2 units would be too little: a point, 8.933 units from an axis as drawn, that is 11.222 units from it on the grid. Its
-- coordinates
-- and the origin's are read half a unit off, the direction's components almost half a part, all of them outward. Computed. Assumes nothing.
use Rattle.std.proofs.Common.{◌≡◌, ℕ, ◌+◌, ◌*◌, ◌≤◌, true, pos, negsuc, ◌+ℤ◌, ◌-ℤ◌, ◌*ℤ◌, refl, lit<, lit≤}
use lib.Ieee.{Float, binary64, of_bits, of_fields, round, units, odd, size, climb, span, sum, add, sub, mul, neg, lt, le, eq}
use Rattle.arithmetic.specs.Basic.{is_finite, absolute}
use Rattle.arithmetic.specs.Root.{root_digits, whole_root, root_round, root_of}
use Rattle.vectors.specs.Vector.{finite_vec, dot_of, length_of}
use Rattle.vectors.specs.declared.vec3.Vec3.{Vec3}
use Rattle.geometry.specs.Segment.{unit_length, ray_admitted}
use Rattle.geometry.specs.declared.ray.Ray.{Ray}
use Rattle.exact_depth.specs.declared.projection.Point.{Point}
use Rattle.exact_triangle.specs.Line.{Line}
use Rattle.exact_triangle.specs.Shear.{from}
use Rattle.exact_triangle.specs.Grid.{all_within, furthest, nearest_to, grid_admitted, grid_point, grid_line}
use Rattle.drill.specs.Drill.{dot, square, mixed, InDrill}
use Rattle.mesh_drill.specs.Radius.{ceiling, radius_on}
use Rattle.mesh_drill.specs.AsDrawn.{Drawing, InDrillAsDrawn}
use Rattle.wide_integers.proofs.Signs.{Negative, nonneg_as, positive_times, nonneg_cancel, clash_signs, minus_of_le}
use Rattle.mesh_drill.proofs.Reading.{above_zero}
use Rattle.mesh_drill.proofs.Identities as Identities

-- a triangle whose corners are one point that is out of the drill
outside : (l : Line) (ρ : ℕ) (p : Point)
    → Negative (pos (ρ * ρ) *ℤ square l.direction -ℤ (square (from l.origin p) *ℤ square l.direction
    -ℤ dot (from l.origin p) l.direction *ℤ dot (from l.origin p) l.direction))
    → InDrill l ρ p p p → ⊥
outside l ρ p far s =
    let d = l.direction in
    let q = from l.origin p in
    let D = s.i + s.j + s.k in
    let X = mixed s.i s.j s.k q q q in
    let pD = above_zero D s.positive in
    clash_signs
    (nonneg_cancel (positive_times pD pD)
    (nonneg_as (Identities.same_corners (pos s.i) (pos s.j) (pos s.k) (pos (ρ * ρ)) q.x q.y q.z d.x d.y d.z)
    (minus_of_le (square X *ℤ square d -ℤ dot X d *ℤ dot X d) (pos (ρ * ρ) *ℤ square d *ℤ (pos D *ℤ pos D)) s.within.close)))
    far

unfoldable pub tight : Ray
tight = record {
  origin = record {
    x = of_bits binary64 0xc0bf_ffe6_6700_0000;
    y = of_bits binary64 0xc0bf_ffe6_6500_0000;
    z = of_bits binary64
        0x3ef0_0000_0000_0000;
  };
  direction = record {
    x = of_bits binary64 0x3fe6_a0f4_a83d_cb20;
    y = of_bits binary64 0x3fe6_a048_1e41_b52b;
    z = of_bits binary64
        0x3f1e_b6a7_8746_e000;
  };
  max_distance = of_bits binary64 0x40e0_0000_0000_0000;
  near = of_bits binary64 0x0000_0000_0000_0000;
}

unfoldable pub corner : Vec3
corner = record {
  x = of_bits binary64 0x40bf_fe43_0300_0000;
  y = of_bits binary64 0x40bf_fc5b_0500_0000;
  z = of_bits binary64
      0x4005_b738_0000_0000;
}

-- 11 units
unfoldable pub narrow : Float
narrow = of_bits binary64 0x3f36_0000_0000_0000

pub drawing : Drawing tight narrow corner corner corner
unfolding tight narrow corner of_bits of_fields
drawing = record {
  W = 16777216;
  positive = lit< tt;
  line = record {
    origin = record { x = negsuc 4503544656822271; y = negsuc 4503544640045055; z = pos 8388608 };
    direction = record { x = pos 12738844285441600; y = pos 12737362186693206; z = pos 2110615221358 };
    near = 0;
    far = 18014398509481984;
  };
  radius = 184549376;
  first = record { x = pos 4502644022312960; y = pos 4501596067069952; z = pos 1492291420160 };
  second = record { x = pos 4502644022312960; y = pos 4501596067069952; z = pos 1492291420160 };
  third = record { x = pos 4502644022312960; y = pos 4501596067069952; z = pos 1492291420160 };
  origin_is = record { x = refl; y = refl; z = refl };
  direction_is = record { x = refl; y = refl; z = refl };
  near_is = refl;
  far_is = refl;
  radius_is = refl;
  first_is = record { x = refl; y = refl; z = refl };
  second_is = record { x = refl; y = refl; z = refl };
  third_is = record { x = refl; y = refl; z = refl };
}

-- all that `in_drill_on_grid` asks, with 2 units for 4, and not what it says
pub record TwoUnitsFail : Type 0 where
  pub admitted : ray_admitted tight ≡ true
  pub read : grid_admitted tight ≡ true
  pub in_range_lem : all_within furthest corner ≡ true
  pub radius : 149873374 + 2 * drawing.W ≤ drawing.radius
  pub radius_on_grid : radius_on narrow ≡ 11
  pub inside : InDrillAsDrawn drawing (pos 0 +ℤ pos (2 * drawing.W)) (pos drawing.line.far -ℤ pos (2 * drawing.W)) 149873374
  pub not_on_grid : InDrill (grid_line tight) 11 (grid_point corner) (grid_point corner) (grid_point corner) → ⊥

tight_admitted : ray_admitted tight ≡ true
unfolding tight ray_admitted finite_vec is_finite unit_length length_of dot_of root_of root_round whole_root root_digits absolute sub add
    sum mul neg
    round units odd size climb span lt le eq of_bits of_fields
tight_admitted = refl

tight_read : grid_admitted tight ≡ true
unfolding tight grid_admitted absolute lt le eq of_bits of_fields
tight_read = refl

corner_in_range : all_within furthest corner ≡ true
unfolding corner absolute lt le eq of_bits of_fields
corner_in_range = refl

corner_inside : InDrillAsDrawn drawing (pos 0 +ℤ pos (2 * drawing.W)) (pos drawing.line.far -ℤ pos (2 * drawing.W)) 149873374
unfolding drawing
corner_inside = record {
  i = 1;
  j = 0;
  k = 0;
  positive = lit< tt;
  within = record { least = refl; most = refl; close = refl };
}

corner_outside : InDrill (grid_line tight) 11 (grid_point corner) (grid_point corner) (grid_point corner) → ⊥
corner_outside =
    outside (grid_line tight) 11 (grid_point corner)
    (unfold tight corner grid_line nearest_to of_bits of_fields in record { less = 5695139036362869534; is = refl })

narrow_on_grid : radius_on narrow ≡ 11
unfolding narrow radius_on ceiling of_bits of_fields
narrow_on_grid = refl

pub two_units_fail : TwoUnitsFail
unfolding drawing
two_units_fail = record {
  admitted = tight_admitted;
  read = tight_read;
  in_range_lem = corner_in_range;
  radius = lit≤ tt;
  radius_on_grid = narrow_on_grid;
  inside = corner_inside;
  not_on_grid = corner_outside;
}
