-- Drills down to 12 mm along z, computed, each beside the exact cast along its axis: a bore's wall that a drill of 7.9 mm passes and one of
-- 8.1 mm touches; a corner that the rim touches exactly; a face in which the flat end lies; a triangle that meets neither axis nor wall;
-- and
-- one without area. And radii as they are read. Assumes nothing.
use Rattle.std.proofs.Common.{◌≡◌, ℕ, List, [], ◌∷◌, get_or, refl, ap}
use lib.Ieee.{Float, binary64, span, climb, size, odd, units, round, neg, sum, add, sub, mul, div, lt, eq, le, ne, is_nan, of_fields}
use lib.Ieee.{of_bits}
use lib.Ieee.{of_int, to_signed}
use Rattle.arithmetic.specs.Basic.{is_finite, absolute}
use Rattle.arithmetic.specs.Extremes.{minimum_of, maximum_of}
use Rattle.arithmetic.specs.Scaling.{unit, digits_of, scaled_by}
use Rattle.arithmetic.specs.Root.{root_digits, whole_root, root_round, root_of}
use Rattle.vectors.specs.Vector.{component, finite_vec, neg_of, min_of, max_of, abs_of, max_element, dot_of, checked_dot, length_of}
use Rattle.vectors.specs.Vector.{normalizable, zero_vec, dot_tells, scaled_to_one, over_length, try_normalize}
use Rattle.geometry.specs.Box.{valid_side, valid_box}
use Rattle.geometry.specs.Segment.{unit_length, ray_admitted}
use Rattle.geometry.specs.declared.ray.Ray.{Ray}
use Rattle.casts.specs.Surface.{facing}
use Rattle.nearest_hit.specs.Nearest.{Indexed, hit_at, no_hit, next_of, fold_from}
use Rattle.lists.specs.Lists.{range, every}
use Rattle.tree.specs.Layout.{vector_at}
use Rattle.tree.specs.Mesh.{Mesh, lengths_admitted, corners_inside, corner_at, corners_of, triangle_box, triangle_fits, triangles_fit}
use Rattle.exact_depth.specs.FirstPoint.{kept, crossing, side_of, entering, inside, entry, along_plane, area, in_plane, coplanar}
use Rattle.exact_depth.specs.FirstPoint.{by_weights}
use Rattle.exact_depth.specs.FirstPoint.{first_point}
use Rattle.exact_triangle.specs.Grid.{nearest_to, grid_admitted, grid_line}
use Rattle.exact_triangle.specs.Shear.{main_of, depth_of}
use Rattle.exact_triangle.specs.Reach.{corners_read, corners_reach, grid_reach}
use Rattle.exact_triangle.specs.Cast.{grid_normal, grid_triangle}
use Rattle.mesh_exact.specs.GridCast.{exact_answer, over_triangles, ray_mesh_exact_plain}
use Rattle.drill.specs.Decision.{from_axis, corner_in, crossing_in, foot_in, cap_in, plane_in, touched_by, touched}
use Rattle.mesh_drill.specs.MeshDrill.{DrillAnswer, Clear, Touches, TouchedTriangle, first_of, drill_all, mesh_read}
use Rattle.mesh_drill.specs.Radius.{radius_admitted, ceiling, radius_on}
use Rattle.mesh_drill.specs.Drilling.{over_mesh, drill_plain}
use Rattle.mesh_drill.proofs.Answers.{drill_sure}

-- 0, 1, 2, 3, 4, 5, 6, 12, 30, 40, 99, -99 and -1
abbrev o : Float
o = of_bits binary64 0

abbrev i : Float
i = of_bits binary64 0x3ff0_0000_0000_0000

abbrev two : Float
two = of_bits binary64 0x4000_0000_0000_0000

abbrev three : Float
three = of_bits binary64 0x4008_0000_0000_0000

abbrev four : Float
four = of_bits binary64 0x4010_0000_0000_0000

abbrev five : Float
five = of_bits binary64 0x4014_0000_0000_0000

abbrev six : Float
six = of_bits binary64 0x4018_0000_0000_0000

abbrev twelve : Float
twelve = of_bits binary64 0x4028_0000_0000_0000

abbrev thirty : Float
thirty = of_bits binary64 0x403e_0000_0000_0000

abbrev forty : Float
forty = of_bits binary64 0x4044_0000_0000_0000

abbrev wide : Float
wide = of_bits binary64 0x4058_c000_0000_0000

abbrev wide_back : Float
wide_back = of_bits binary64 0xc058_c000_0000_0000

abbrev down : Float
down = of_bits binary64 0xbff0_0000_0000_0000

-- a wall at 3.975 mm; drills of 7.9 and 8.1 mm, and one of 10 mm less a unit of the grid to each side
abbrev wall_at : Float
wall_at = of_bits binary64 0x400f_cccc_cccc_cccd

abbrev narrower : Float
narrower = of_bits binary64 0x400f_9999_9999_999a

abbrev wider : Float
wider = of_bits binary64 0x4010_3333_3333_3333

abbrev under_five : Float
under_five = of_bits binary64 0x4013_fff8_0000_0000

abbrev downward : Ray
downward = record {
  origin = record { x = o; y = o; z = o };
  direction = record { x = o; y = o; z = i };
  max_distance = twelve;
  near = o;
}

abbrev vertex : Float → Float → Float → List Float → List Float
vertex x y z rest = x ∷ (y ∷ (z ∷ rest))

-- a bore's wall: its sides are far off
abbrev wall : Mesh
wall = record {
  vertices = vertex wall_at wide_back wide_back (vertex wall_at wide wide_back (vertex wall_at o wide []));
  triangles = 0 ∷
      (1 ∷ (2 ∷ []));
}

-- its first corner, (3, 4, 12), lies on the rim of the flat end of a drill of 10 mm
abbrev at_rim : Mesh
at_rim = record {
  vertices = vertex three four twelve (vertex thirty forty twelve (vertex thirty four forty []));
  triangles = 0 ∷
      (1 ∷ (2 ∷ []));
}

-- the flat end lies in it
abbrev at_end : Mesh
at_end = record {
  vertices = vertex wide_back wide_back twelve (vertex wide wide_back twelve (vertex o wide twelve []));
  triangles = 0 ∷
      (1 ∷ (2 ∷ []));
}

-- inside the drill, beside its axis and off its wall
abbrev within : Mesh
within = record { vertices = vertex i i five (vertex two i five (vertex i two six [])); triangles = 0 ∷ (1 ∷ (2 ∷ [])) }

-- without area: two of its corners are one
abbrev flat : Mesh
flat = record { vertices = vertex two i five (vertex two i five (vertex three i five [])); triangles = 0 ∷ (1 ∷ (2 ∷ [])) }

-- the drills
abbrev drills : List DrillAnswer
drills =
    drill_plain downward narrower wall
    ∷ (drill_plain downward wider wall
    ∷ (drill_plain downward five at_rim
    ∷ (drill_plain downward under_five at_rim
    ∷ (drill_plain downward four at_end ∷ (drill_plain downward four within ∷ (drill_plain downward four flat ∷ []))))))

pub drills_answered : drills
    ≡ Clear ∷ (Touches 0 ∷ (Touches 0 ∷ (Clear ∷ (Touches 0 ∷ (Touches 0 ∷ (Touches 0 ∷ []))))))
unfolding drill_plain over_mesh drill_all first_of mesh_read touched touched_by from_axis corner_in crossing_in foot_in cap_in plane_in
    radius_admitted
    radius_on ceiling triangles_fit triangle_fits every range triangle_box corner_at corners_of corners_inside lengths_admitted vector_at
    corners_read
    grid_admitted grid_line nearest_to ray_admitted unit_length valid_box valid_side length_of dot_of max_of min_of finite_vec root_of
    root_round
    whole_root
    root_digits maximum_of minimum_of absolute is_finite of_bits of_fields is_nan ne le eq lt div mul sub add sum neg round units odd size
    climb
    span
drills_answered = refl

-- the exact cast along the axis: only the face across the axis is hit
abbrev casts : List Indexed
casts =
    ray_mesh_exact_plain downward wall
    ∷ (ray_mesh_exact_plain downward at_rim
    ∷ (ray_mesh_exact_plain downward at_end ∷ (ray_mesh_exact_plain downward within ∷ (ray_mesh_exact_plain downward flat ∷ []))))

pub casts_answered : casts
    ≡ no_hit
    ∷ (no_hit
    ∷ (hit_at (record { x = of_bits binary64 0x8000_0000_0000_0000; y = of_bits binary64 0x8000_0000_0000_0000; z = down }) twelve 0
    ∷ (no_hit ∷ (no_hit ∷ []))))
unfolding ray_mesh_exact_plain over_triangles exact_answer triangles_fit triangle_fits every range triangle_box corner_at corners_of
    corners_inside
    lengths_admitted vector_at fold_from next_of facing grid_triangle grid_normal grid_reach corners_reach corners_read grid_admitted
    grid_line
    nearest_to depth_of main_of first_point by_weights crossing kept coplanar in_plane area along_plane entry inside entering side_of
    ray_admitted unit_length valid_box valid_side normalizable zero_vec dot_tells scaled_to_one over_length try_normalize digits_of
    scaled_by unit
    length_of checked_dot dot_of max_element abs_of max_of min_of neg_of finite_vec component root_of root_round whole_root root_digits
    maximum_of
    minimum_of absolute is_finite of_int to_signed of_bits of_fields is_nan ne le eq lt div mul sub add sum neg round units odd size climb
    span
casts_answered = refl

-- so no point of the wall lies in the drill of 7.9 mm, and one of it lies in that of 8.1 mm
pub narrower_clear : (j : ℕ) → TouchedTriangle (grid_line downward) (radius_on narrower) wall j → ⊥
narrower_clear = (drill_sure downward narrower wall).certain.clear (ap (λ (xs : List DrillAnswer). get_or xs 0 Clear) drills_answered)

pub wider_touches : TouchedTriangle (grid_line downward) (radius_on wider) wall 0
wider_touches = (drill_sure downward wider wall).certain.touches 0 (ap (λ (xs : List DrillAnswer). get_or xs 1 Clear) drills_answered)

-- ---- radii as they are read: 0, -0, the least float above 0, a unit, and one float more
abbrev radii : List ℕ
radii =
    radius_on o
    ∷ (radius_on (of_bits binary64 0x8000_0000_0000_0000)
    ∷ (radius_on (of_bits binary64 1)
    ∷ (radius_on (of_bits binary64 0x3f00_0000_0000_0000) ∷ (radius_on (of_bits binary64 0x3f00_0000_0000_0001) ∷ []))))

pub radii_read : radii ≡ 0 ∷ (0 ∷ (1 ∷ (1 ∷ (2 ∷ []))))
unfolding radius_on ceiling of_bits of_fields
radii_read = refl
