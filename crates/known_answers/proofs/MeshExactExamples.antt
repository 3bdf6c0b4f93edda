-- Casts along (1, 1, 0), computed, beside the rounded cast's: a slanted triangle that is hit on the side opposite its first corner, the
-- same with that side one unit of the grid off, a triangle along the ray, a corner, and a sliver that the grid flattens beside its
-- neighbour; and a cast along (1, 1, -1) from inside a bore at the wall of an STL file. Assumes nothing.
use Prim.Native.Nat.{ℕ}
use mathlib.Core.Path.{◌≡◌, refl, ap}
use mathlib.Core.List.{List, [], ◌∷◌}
use lib.IntN.{ℤ}
use lib.ListN.{get_or}
use lib.Ieee.{Float, binary64, span, climb, size, odd, units, round, neg, sum, add, sub, mul, div, lt, eq, le, ne, is_nan, of_fields}
use lib.Ieee.{of_bits}
use lib.Ieee.{of_int, to_signed}
use Rattle.arithmetic.specs.Basic.{is_finite, absolute}
use Rattle.arithmetic.specs.Extremes.{minimum_of, maximum_of}
use Rattle.arithmetic.specs.Scaling.{unit, digits_of, scaled_by}
use Rattle.arithmetic.specs.Root.{root_digits, whole_root, root_round, root_of}
use Rattle.vectors.specs.Vector.{component, finite_vec, add_of, sub_of, neg_of, scale_of, min_of, max_of, abs_of, max_element}
use Rattle.vectors.specs.Vector.{dot_of, checked_dot, cross_of, length_of}
use Rattle.vectors.specs.Vector.{normalizable, zero_vec, dot_tells, scaled_to_one, over_length, try_normalize}
use Rattle.vectors.specs.declared.vec3.Vec3.{Vec3}
use Rattle.geometry.specs.Box.{valid_side, valid_box, touch_side, touches}
use Rattle.geometry.specs.Segment.{unit_length, ray_admitted, segment_end, segment_box}
use Rattle.geometry.specs.declared.ray.Ray.{Ray}
use Rattle.casts.specs.Surface.{off_segment, facing}
use Rattle.triangle_cast.specs.Triangle.{flat, triangle_normal, triangle_above, triangle_at, triangle_of}
use Rattle.nearest_hit.specs.Nearest.{Indexed, hit_at, no_hit, next_of, fold_from}
use Rattle.lists.specs.Lists.{range, keep, every}
use Rattle.tree.specs.Layout.{vector_at}
use Rattle.tree.specs.Mesh.{Mesh, lengths_admitted, corners_inside, corner_at, corners_of, triangle_box, triangle_answer, candidates}
use Rattle.tree.specs.Mesh.{triangle_fits, triangles_fit}
use Rattle.mesh_plain.specs.PlainCast.{over_triangles as overRounded, plain_cast, ray_mesh_plain}
use Rattle.exact_depth.specs.FirstPoint.{kept, crossing, side_of, entering, inside, entry, along_plane, area, in_plane, coplanar}
use Rattle.exact_depth.specs.FirstPoint.{by_weights}
use Rattle.exact_depth.specs.FirstPoint.{first_point}
use Rattle.exact_triangle.specs.Grid.{nearest_to, grid_admitted, grid_line}
use Rattle.exact_triangle.specs.Shear.{main_of, depth_of}
use Rattle.exact_triangle.specs.Reach.{corners_read, corners_reach, grid_reach}
use Rattle.exact_triangle.specs.Cast.{grid_normal, grid_triangle}
use Rattle.mesh_exact.specs.GridCast.{exact_answer, over_triangles, ray_mesh_exact_plain}
use Rattle.mesh_exact.specs.Certain.{Met, LeastDepth, HitNormal}
use Rattle.mesh_exact.proofs.Certainty.{certain}

-- 0, 1, -1, 2, 4, -5, 6, 6 + 2^-15 and 4 + 2^-17
abbrev o : Float
o = of_bits binary64 0

abbrev i : Float
i = of_bits binary64 0x3ff0_0000_0000_0000

abbrev down : Float
down = of_bits binary64 0xbff0_0000_0000_0000

abbrev two : Float
two = of_bits binary64 0x4000_0000_0000_0000

abbrev four : Float
four = of_bits binary64 0x4010_0000_0000_0000

abbrev below : Float
below = of_bits binary64 0xc014_0000_0000_0000

abbrev six : Float
six = of_bits binary64 0x4018_0000_0000_0000

abbrev above_six : Float
above_six = of_bits binary64 0x4018_0008_0000_0000

abbrev above_four : Float
above_four = of_bits binary64 0x4010_0002_0000_0000

-- the root of a half, from the origin up to 100 mm
abbrev half_root : Float
half_root = of_bits binary64 0x3fe6_a09e_667f_3bcd

abbrev diagonal : Ray
diagonal = record {
  origin = record { x = o; y = o; z = o };
  direction = record { x = half_root; y = half_root; z = o };
  max_distance = of_bits binary64 0x4059_0000_0000_0000;
  near = o;
}

abbrev vertex : Float → Float → Float → List Float → List Float
vertex x y z rest = x ∷ (y ∷ (z ∷ rest))

abbrev one : List ℕ
one = 0 ∷ (1 ∷ (2 ∷ []))

-- (0, 6, -5), (2, 2, -1) and (6, y, 1): with y = 6 the middle of the side opposite the first corner is (4, 4, 0)
abbrev slanted : Float → Mesh
slanted y = record { vertices = vertex o six below (vertex two two down (vertex six y i [])); triangles = one }

-- in the plane of the ray
abbrev along : Mesh
along = record { vertices = vertex two o o (vertex o two o (vertex six six o [])); triangles = one }

-- the first corner is (4, 4, 0)
abbrev at_corner : Mesh
at_corner = record { vertices = vertex four four o (vertex six two down (vertex six o i [])); triangles = one }

-- a sliver on the slanted triangle's side, of 2^-17 mm, before it
abbrev slivered : List ℕ → Mesh
slivered triangles = record {
  vertices = vertex o six below (vertex two two down (vertex six six i (vertex above_four four o [])));
  triangles = triangles;
}

-- One of the 20 flat faces of a bore of 5 mm through 19 mm about (384, 320), as an STL file has it: each corner is
-- (384 + 5/2 cos k/20, 320 + 5/2 sin k/20) of a turn, k = 1 or 2, rounded to four bytes, and two triangles make the face.
abbrev nineteen : Float
nineteen = of_bits binary64 0x4033_0000_0000_0000

abbrev first_corner : Float → List Float → List Float
first_corner z rest = vertex (of_bits binary64 0x4078_260a_e000_0000) (of_bits binary64 0x4074_0c5c_6000_0000) z rest

abbrev second_corner : Float → List Float → List Float
second_corner z rest = vertex (of_bits binary64 0x4078_205c_6000_0000) (of_bits binary64 0x4074_1782_e000_0000) z rest

abbrev bore_wall : Mesh
bore_wall = record {
  vertices = first_corner o (second_corner o (second_corner nineteen (first_corner nineteen [])));
  triangles = 0 ∷ (1 ∷ (2 ∷ (0 ∷ (2 ∷ (3 ∷ [])))));
}

-- the root of a third
abbrev third_root : Float
third_root = of_bits binary64 0x3fe2_79a7_4590_331d

-- from 15/8 (1, 1, -1) before the middle of the side that the two triangles share, up to 30 mm
abbrev in_bore : Ray
in_bore = record {
  origin = record {
    x = of_bits binary64 0x4078_0533_a000_0000;
    y = of_bits binary64 0x4073_f3ef_a000_0000;
    z = of_bits binary64 0x4026_c000_0000_0000;
  };
  direction = record { x = third_root; y = third_root; z = of_bits binary64 0xbfe2_79a7_4590_331d };
  max_distance = of_bits binary64 0x403e_0000_0000_0000;
  near = o;
}

-- 4 times the root of 2, and once, as the grid sees the direction
abbrev far : Float
far = of_bits binary64 0x4016_a09e_667e_7799

abbrev close : Float
close = of_bits binary64 0x3ff6_a09e_667e_7799

abbrev third : Float
third = of_bits binary64 0x3fd5_5555_5555_5555

abbrev thirds : Float
thirds = of_bits binary64 0x3fe5_5555_5555_5555

abbrev less_thirds : Float
less_thirds = of_bits binary64 0xbfe5_5555_5555_5555

-- 15/8 times the root of 3, and the way from the wall to the bore's axis
abbrev from_axis : Float
from_axis = of_bits binary64 0x4009_fb13_39e9_8fc0

abbrev inward : Vec3
inward = record {
  x = of_bits binary64 0xbfec_8310_54c8_d943;
  y = of_bits binary64 0xbfdd_0e6c_1e9e_dafd;
  z = of_bits binary64 0x8000_0000_0000_0000;
}

-- the exact casts: a hit on the side, none one unit off, a hit along the ray, one at the corner; the sliver's neighbour is hit, and the
-- sliver alone is not; the bore's wall is hit on the side that its two triangles share
abbrev casts : List Indexed
casts =
    ray_mesh_exact_plain diagonal (slanted six)
    ∷ (ray_mesh_exact_plain diagonal (slanted above_six)
    ∷ (ray_mesh_exact_plain diagonal along
    ∷ (ray_mesh_exact_plain diagonal at_corner
    ∷ (ray_mesh_exact_plain diagonal (slivered (3 ∷ (1 ∷ (2 ∷ one))))
    ∷ (ray_mesh_exact_plain diagonal (slivered (3 ∷ (1 ∷ (2 ∷ [])))) ∷ (ray_mesh_exact_plain in_bore bore_wall ∷ []))))))

pub casts_answered : casts
    ≡ hit_at (record { x = less_thirds; y = third; z = thirds }) far 0
    ∷ (no_hit
    ∷ (hit_at (record { x = o; y = o; z = down }) close 0
    ∷ (hit_at (record {
      x = of_bits binary64 0xbfe7_488e_369e_0355;
      y = of_bits binary64 0xbfdf_0b68_48d2_af1c;
      z = of_bits binary64 0xbfdf_0b68_48d2_af1c;
    }) far 0
    ∷ (hit_at (record { x = less_thirds; y = third; z = thirds }) far 1
    ∷ (no_hit
    ∷ (hit_at inward from_axis 0 ∷ []))))))
unfolding ray_mesh_exact_plain over_triangles exact_answer triangles_fit triangle_fits every range triangle_box corner_at corners_of
    corners_inside
    lengths_admitted vector_at fold_from next_of facing grid_triangle grid_normal grid_reach corners_reach corners_read grid_admitted
    grid_line
    nearest_to depth_of main_of first_point by_weights crossing kept coplanar in_plane area along_plane entry inside entering side_of
    ray_admitted unit_length valid_box valid_side normalizable zero_vec dot_tells scaled_to_one over_length try_normalize digits_of
    scaled_by unit
    length_of checked_dot dot_of max_element abs_of max_of min_of neg_of finite_vec component root_of root_round whole_root root_digits
    maximum_of
    minimum_of absolute is_finite of_int to_signed of_bits of_fields is_nan ne le eq lt div mul sub add sum neg round units odd size climb
    span
casts_answered = refl

-- the rounded cast passes the side, the triangle along the ray and the bore's wall
abbrev rounded_casts : List Indexed
rounded_casts = ray_mesh_plain diagonal (slanted six) ∷ (ray_mesh_plain diagonal along ∷ (ray_mesh_plain in_bore bore_wall ∷ []))

pub rounded_passes : rounded_casts ≡ no_hit ∷ (no_hit ∷ (no_hit ∷ []))
unfolding ray_mesh_plain plain_cast overRounded triangles_fit triangle_fits every candidates keep range triangle_box corner_at
    corners_inside
    lengths_admitted vector_at fold_from next_of facing off_segment segment_box segment_end touches touch_side triangle_answer
    triangle_of triangle_at triangle_above triangle_normal flat ray_admitted unit_length valid_box valid_side normalizable zero_vec
    dot_tells
    scaled_to_one over_length try_normalize digits_of scaled_by unit length_of cross_of checked_dot dot_of max_element abs_of max_of min_of
    scale_of neg_of
    sub_of add_of finite_vec component root_of root_round whole_root root_digits maximum_of minimum_of absolute is_finite of_int to_signed
    of_bits
    of_fields is_nan ne le eq lt div mul sub add sum neg round units odd size climb span
rounded_passes = refl

-- so the distance is the float nearest to the least depth at which the segment meets the slanted triangle ..
pub side_least : LeastDepth (grid_line diagonal) (slanted six) far
side_least =
    (certain diagonal (slanted six)).least (record { x = less_thirds; y = third; z = thirds }) far 0
    (ap (λ (xs : List Indexed). get_or xs 0 no_hit) casts_answered)

-- .. and with the side one unit off no point of the segment lies in it
pub beside_clear : (j D : ℕ) (t : ℤ) → Met (grid_line diagonal) (slanted above_six) j D t → ⊥
beside_clear = (certain diagonal (slanted above_six)).none (ap (λ (xs : List Indexed). get_or xs 1 no_hit) casts_answered)

-- the same of the bore's wall
pub wall_least : LeastDepth (grid_line in_bore) bore_wall from_axis
wall_least = (certain in_bore bore_wall).least inward from_axis 0 (ap (λ (xs : List Indexed). get_or xs 6 no_hit) casts_answered)

-- and the hit there is the wall's: its normal is the cross of the edges of triangle 0 on the grid, normalised, and faces the ray
pub wall_normal : HitNormal in_bore bore_wall 0 inward
wall_normal =
    ((certain in_bore bore_wall).hit_triangle inward from_axis 0 (ap (λ (xs : List Indexed). get_or xs 6 no_hit) casts_answered)).normal_is
