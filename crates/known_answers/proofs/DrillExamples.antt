-- Drills, computed as C reads them back, beside what the exact cast along the axis answers: in a bore of 8 mm one of 7.9 and one of 8.1,
-- and its floor; a corner that the rim touches exactly, and a unit off; a flat end that lies in a face; a triangle that meets neither axis
-- nor wall; and one without area. Assumes nothing.
use Prim.Native.Nat.{ℕ}
use mathlib.Core.Path.{◌≡◌, refl, ap}
use mathlib.Core.List.{List, [], ◌∷◌}
use lib.ListN.{get_or}
use lib.Ieee.{Float, binary64, span, climb, size, odd, units, round, neg, sum, add, sub, mul, div, lt, eq, le, ne, is_nan, of_fields}
use lib.Ieee.{of_bits}
use lib.Ieee.{of_int, to_signed}
use Rattle.arithmetic.specs.Basic.{is_finite, absolute}
use Rattle.arithmetic.specs.Extremes.{minimum_of, maximum_of}
use Rattle.arithmetic.specs.Root.{root_digits, whole_root, root_round, root_of}
use Rattle.vectors.specs.Vector.{component, finite_vec, min_of, max_of, dot_of, checked_dot, length_of}
use Rattle.geometry.specs.Box.{valid_side, valid_box}
use Rattle.geometry.specs.Segment.{unit_length, ray_admitted}
use Rattle.geometry.specs.declared.ray.Ray.{Ray}
use Rattle.lists.specs.Lists.{range, every}
use Rattle.nearest_hit.specs.Nearest.{Indexed, no_hit, next_of, fold_from}
use Rattle.tree.specs.Layout.{vector_at}
use Rattle.tree.specs.Mesh.{Mesh, lengths_admitted, corners_inside, corner_at, corners_of, triangle_box, triangle_fits, triangles_fit}
use Rattle.exact_depth.specs.FirstPoint.{kept, crossing, side_of, entering, inside, entry, along_plane, area, in_plane, coplanar}
use Rattle.exact_depth.specs.FirstPoint.{by_weights}
use Rattle.exact_depth.specs.FirstPoint.{first_point}
use Rattle.exact_triangle.specs.Grid.{nearest_to, grid_admitted, grid_line}
use Rattle.exact_triangle.specs.Shear.{main_of, depth_of}
use Rattle.exact_triangle.specs.Reach.{corners_read, corners_reach, grid_reach}
use Rattle.exact_triangle.specs.Cast.{grid_normal, grid_triangle}
use Rattle.mesh_exact.specs.GridCast.{exact_answer, over_triangles, ray_mesh_exact_plain}
use Rattle.drill.specs.Decision.{from_axis, corner_in, crossing_in, foot_in, cap_in, plane_in, touched_by, touched}
use Rattle.mesh_drill.specs.MeshDrill.{DrillAnswer, Clear, Touches, first_of, drill_all, mesh_read, TouchedTriangle}
use Rattle.mesh_drill.specs.Radius.{radius_admitted, ceiling, radius_on}
use Rattle.mesh_drill.specs.Drilling.{over_mesh, drill_plain}
use Rattle.mesh_drill.specs.Part.{corner_of}
use Rattle.mesh_drill.specs.AsDrawn.{ClearAsDrawn}
use Rattle.many_drills.specs.Returned.{returned_drill}
use Rattle.exports.specs.Drills.{drill_plain_returned, drill_read}
use Rattle.exports.proofs.DrillCalls.{drill_plain_certain}

-- 0, 1, 2, 3, 4, -4, 5, 7, 10, 12, -12 and 13
abbrev o : Float
o = of_bits binary64 0

abbrev i : Float
i = of_bits binary64 0x3ff0_0000_0000_0000

abbrev two : Float
two = of_bits binary64 0x4000_0000_0000_0000

abbrev three : Float
three = of_bits binary64 0x4008_0000_0000_0000

abbrev four : Float
four = of_bits binary64 0x4010_0000_0000_0000

abbrev less_four : Float
less_four = of_bits binary64 0xc010_0000_0000_0000

abbrev five : Float
five = of_bits binary64 0x4014_0000_0000_0000

abbrev seven : Float
seven = of_bits binary64 0x401c_0000_0000_0000

abbrev ten : Float
ten = of_bits binary64 0x4024_0000_0000_0000

abbrev twelve : Float
twelve = of_bits binary64 0x4028_0000_0000_0000

abbrev less_twelve : Float
less_twelve = of_bits binary64 0xc028_0000_0000_0000

abbrev thirteen : Float
thirteen = of_bits binary64 0x402a_0000_0000_0000

-- radii: half of 7.9 and of 8.1, 5 - 2^-15 and a quarter
abbrev thin : Float
thin = of_bits binary64 0x400f_9999_9999_999a

abbrev thick : Float
thick = of_bits binary64 0x4010_3333_3333_3333

abbrev unit_less : Float
unit_less = of_bits binary64 0x4013_fff8_0000_0000

abbrev quarter : Float
quarter = of_bits binary64 0x3fd0_0000_0000_0000

-- straight down from a point, up to a maximum
abbrev down_from : Float → Float → Float → Float → Ray
down_from x y z most = record {
  origin = record { x = x; y = y; z = z };
  direction = record { x = o; y = o; z = of_bits binary64 0xbff0_0000_0000_0000 };
  max_distance = most;
  near = o;
}

abbrev vertex : Float → Float → Float → List Float → List Float
vertex x y z rest = x ∷ (y ∷ (z ∷ rest))

-- the walls x = -4, x = 4, y = -4 and y = 4, from z = 0 to z = -12, and the floor
abbrev bore : Mesh
bore = record {
  vertices =
      vertex less_four less_four o (vertex four less_four o (vertex four four o (vertex less_four four o
      (vertex less_four less_four less_twelve (vertex four less_four less_twelve
      (vertex four four less_twelve (vertex less_four four less_twelve
      [])))))));
  triangles =
      0 ∷ 1 ∷ 5 ∷ 0 ∷ 5 ∷ 4 ∷ 1 ∷ 2 ∷ 6 ∷ 1 ∷ 6 ∷ 5 ∷ 2 ∷ 3 ∷ 7 ∷ 2 ∷ 7 ∷ 6 ∷ 3 ∷ 0 ∷ 4 ∷ 3 ∷ 4 ∷ 7 ∷ 4 ∷ 5 ∷ 6 ∷ 4 ∷ 6 ∷ 7 ∷ [];
}

-- a square of 4 in two triangles
abbrev square : Mesh
square = record {
  vertices = vertex o o o (vertex four o o (vertex four four o (vertex o four o [])));
  triangles = 0 ∷ 1 ∷ 2 ∷ 0 ∷ 2 ∷ 3 ∷ [];
}

-- a triangle 1 off the axis through 0, and three corners on a line through it
abbrev beside : Mesh
beside = record { vertices = vertex i o o (vertex two o o (vertex i i o [])); triangles = 0 ∷ 1 ∷ 2 ∷ [] }

abbrev on_line : Mesh
on_line = record { vertices = vertex o o o (vertex four o o (vertex two o o [])); triangles = 0 ∷ 1 ∷ 2 ∷ [] }

-- what C reads from the number and the index slice, which has one place
abbrev read : Ray → Float → Mesh → DrillAnswer
read r radius m = drill_read (drill_plain_returned r radius m (0 ∷ []))

abbrev drills : List DrillAnswer
drills =
    read (down_from o o i twelve) thin bore
    ∷ read (down_from o o i twelve) thick bore
    ∷ read (down_from o o i thirteen) thin bore
    ∷ read (down_from seven less_four i two) five square
    ∷ read (down_from seven less_four i two) unit_less square
    ∷ read (down_from i three five five) quarter square
    ∷ read (down_from o o five ten) five beside
    ∷ read (down_from o o five ten) o on_line ∷ []

-- 7.9 passes, 8.1 touches the first wall, and 7.9 at the floor's depth touches the floor; the corner is touched, and a unit less is clear;
-- the end touches the face above the diagonal; both the triangle and the line lie in the drill
pub drills_read : drills
    ≡ Clear ∷ Touches 0 ∷ Touches 8 ∷ Touches 0 ∷ Clear ∷ Touches 1 ∷ Touches 0 ∷ Touches 0 ∷ []
unfolding drill_read drill_plain_returned returned_drill drill_plain over_mesh drill_all first_of mesh_read touched touched_by from_axis
    corner_in
    crossing_in foot_in cap_in plane_in radius_admitted radius_on ceiling triangles_fit triangle_fits every range triangle_box corner_at
    corners_of
    corners_inside lengths_admitted vector_at corners_read grid_admitted grid_line nearest_to ray_admitted unit_length valid_box valid_side
    length_of checked_dot dot_of max_of min_of finite_vec component root_of root_round whole_root root_digits maximum_of minimum_of absolute
    is_finite
    of_int to_signed of_bits of_fields is_nan ne le eq lt div mul sub add sum neg round units odd size climb span
drills_read = refl

-- the exact cast along the axis passes where no wall is met, the rim's corner, the triangle that the axis passes and the line
abbrev casts : List Indexed
casts =
    ray_mesh_exact_plain (down_from o o i twelve) bore
    ∷ ray_mesh_exact_plain (down_from seven less_four i two) square
    ∷ ray_mesh_exact_plain (down_from o o five ten) beside
    ∷ ray_mesh_exact_plain (down_from o o five ten) on_line ∷ []

pub casts_pass : casts ≡ no_hit ∷ no_hit ∷ no_hit ∷ no_hit ∷ []
unfolding ray_mesh_exact_plain over_triangles exact_answer triangles_fit triangle_fits every range triangle_box corner_at corners_of
    corners_inside
    lengths_admitted vector_at fold_from next_of grid_triangle grid_normal grid_reach corners_reach corners_read grid_admitted grid_line
    nearest_to depth_of main_of first_point by_weights crossing kept coplanar in_plane area along_plane entry inside entering side_of
    ray_admitted unit_length valid_box valid_side length_of checked_dot dot_of max_of min_of finite_vec component root_of root_round
    whole_root
    root_digits maximum_of minimum_of absolute is_finite of_int to_signed of_bits of_fields is_nan ne le eq lt div mul sub add sum neg round
    units
    odd size climb span
casts_pass = refl

-- so of the drill of 7.9, as C reads it: no triangle of the bore has a point in it on the grid ..
thin_clear : read (down_from o o i twelve) thin bore ≡ Clear
thin_clear = ap (λ (xs : List DrillAnswer). get_or xs 0 Clear) drills_read

pub bore_clear : (j : ℕ) → TouchedTriangle (grid_line (down_from o o i twelve)) (radius_on thin) bore j → ⊥
bore_clear =
    ((drill_plain_certain (0 ∷ []) (down_from o o i twelve) thin bore _ refl).1 refl).0.certain.clear thin_clear

-- .. and of that of 8.1 the first wall has one
pub wall_touched : TouchedTriangle (grid_line (down_from o o i twelve)) (radius_on thick) bore 0
wall_touched =
    ((drill_plain_certain (0 ∷ []) (down_from o o i twelve) thick bore _ refl).1 refl).0.certain.touches 0
    (ap (λ (xs : List DrillAnswer). get_or xs 1 Clear) drills_read)
