-- Casts without a tree computed from the definitions alone, and the agreement at a tree that our builder would not write. Assumes nothing.
use mathlib.Core.Path.{◌≡◌, refl}
use mathlib.Core.Bool.{true}
use mathlib.Core.List.{List, [], ◌∷◌}
use lib.Ieee.{Float, binary64, span, climb, size, odd, units, round, neg, sum, add, sub, mul, div, lt, eq, le, ne, is_nan, of_fields}
use lib.Ieee.{of_bits}
use Rattle.arithmetic.specs.Basic.{is_finite, absolute}
use Rattle.arithmetic.specs.Extremes.{minimum_of, maximum_of}
use Rattle.arithmetic.specs.Scaling.{unit, digits_of, scaled_by}
use Rattle.arithmetic.specs.Root.{root_digits, whole_root, root_round, root_of}
use Rattle.vectors.specs.Vector.{component, finite_vec, add_of, sub_of, neg_of, scale_of, min_of, max_of, abs_of, max_element}
use Rattle.vectors.specs.Vector.{dot_of, checked_dot, cross_of, length_of}
use Rattle.vectors.specs.Vector.{normalizable, zero_vec, dot_tells, scaled_to_one, over_length, try_normalize}
use Rattle.geometry.specs.Box.{valid_side, valid_box, touch_side, touches, within_side, encloses, same_side, same_box}
use Rattle.geometry.specs.Segment.{unit_length, ray_admitted, segment_end, segment_box}
use Rattle.geometry.specs.declared.ray.Ray.{Ray}
use Rattle.casts.specs.Surface.{off_segment, facing}
use Rattle.triangle_cast.specs.Triangle.{flat, triangle_normal, triangle_above, triangle_at, triangle_of}
use Rattle.nearest_hit.specs.Nearest.{hit_at, no_hit, stopped, next_of, fold_from}
use Rattle.lists.specs.Lists.{range, keep, count, every, flat_map}
use Rattle.tree.specs.Layout.{vector_at, box_at}
use Rattle.tree.specs.Mesh.{Mesh, lengths_admitted, corners_inside, corner_at, triangle_box, triangle_answer, candidates}
use Rattle.known_answers.proofs.QueryExamples.{o, i, quarter, ten, eleven, lower, odd_tree}
use Rattle.tree_check.specs.Check.{children_of, places_of, kinds_known, children_above, leaves_inside, named_once, placed_once}
use Rattle.tree_check.specs.Check.{ordered_once, leaves_filled, corners_known, boxes_same, boxes_valid, node_encloses, enclosed}
use Rattle.tree_check.specs.Check.{clauses_hold, tree_passes}
use Rattle.tree_check.specs.Verdict.{yes, check_of, room_for as roomToCheck}
use Rattle.mesh.specs.MeshCast.{tree_fits, room_for, ray_mesh}
use Rattle.mesh_plain.specs.PlainCast.{triangle_fits, triangles_fit, over_triangles, plain_cast, ray_mesh_plain}
use Rattle.mesh_plain.proofs.Agreement.{agrees_with_trees}

-- three triangles: one at height 0, one beside it, one below it
abbrev corners : List Float
corners =
    o ∷ (o ∷ (o ∷ (i ∷ (o ∷ (o ∷ (o ∷ (i ∷ (o ∷ (ten ∷ (o ∷ (o ∷ (eleven ∷ (o ∷ (o ∷ (ten ∷ (i ∷ (o ∷
    (o ∷ (o ∷ (lower ∷ (i ∷ (o ∷ (lower ∷ (o ∷ (i ∷ (lower ∷ []))))))))))))))))))))))))))

abbrev three_triangles : Mesh
three_triangles = record { vertices = corners; triangles = 0 ∷ (1 ∷ (2 ∷ (3 ∷ (4 ∷ (5 ∷ (6 ∷ (7 ∷ (8 ∷ [])))))))) }

-- the same, the second with an index past the vertices, far from the ray
abbrev index_past : Mesh
index_past = record { vertices = corners; triangles = 0 ∷ (1 ∷ (2 ∷ (3 ∷ (4 ∷ (9 ∷ (6 ∷ (7 ∷ (8 ∷ [])))))))) }

abbrev no_triangles : Mesh
no_triangles = record { vertices = corners; triangles = [] }

abbrev two : Float
two = of_bits binary64 0x4000_0000_0000_0000

abbrev three : Float
three = of_bits binary64 0x4008_0000_0000_0000

abbrev minus_zero : Float
minus_zero = of_bits binary64 0x8000_0000_0000_0000

-- a ray along the third axis over the column of two triangles
abbrev along : Float → Float → Float → Ray
along height direction maximum = record {
  origin = record { x = quarter; y = quarter; z = height };
  direction = record { x = o; y = o; z = direction };
  max_distance = maximum;
  near = o;
}

-- from above the upper triangle is hit, from below the lower one; too short a ray; a direction of length 2; an index past the vertices
-- of a triangle that the ray is far from; no triangles
pub casts_answered :
    ray_mesh_plain (along i lower three) three_triangles
    ∷ (ray_mesh_plain (along (of_bits binary64 0xc008_0000_0000_0000) i three) three_triangles
    ∷ (ray_mesh_plain (along i lower quarter) three_triangles
    ∷ (ray_mesh_plain (along i two three) three_triangles
    ∷ (ray_mesh_plain (along i lower three) index_past
    ∷ (ray_mesh_plain (along i lower three) no_triangles ∷ [])))))
    ≡ hit_at (record { x = o; y = o; z = i }) i 0
    ∷ (hit_at (record { x = minus_zero; y = minus_zero; z = lower }) two 2
    ∷ (no_hit
    ∷ (stopped 1
    ∷ (stopped 5
    ∷ (no_hit ∷ [])))))
unfolding ray_mesh_plain plain_cast over_triangles triangles_fit triangle_fits every candidates keep range triangle_box triangle_answer
    corner_at
    corners_inside lengths_admitted vector_at fold_from next_of triangle_of triangle_at triangle_above triangle_normal flat facing
    off_segment
    segment_box segment_end ray_admitted unit_length touches touch_side valid_box valid_side normalizable zero_vec
    dot_tells scaled_to_one over_length try_normalize digits_of scaled_by unit length_of cross_of checked_dot dot_of
    max_element abs_of max_of min_of scale_of neg_of sub_of add_of finite_vec component root_of root_round whole_root root_digits maximum_of
    minimum_of
    absolute is_finite of_bits of_fields is_nan ne le eq lt div mul sub add sum neg round units odd size climb span
casts_answered = refl

-- the tree check says yes to a tree over the three triangles, and the areas suffice
odd_passes : check_of three_triangles odd_tree 9 ≡ yes
unfolding check_of roomToCheck tree_passes clauses_hold kinds_known children_above leaves_inside named_once placed_once ordered_once
    leaves_filled
    corners_known boxes_same boxes_valid node_encloses enclosed children_of places_of count every flat_map range corners_inside
    lengths_admitted
    corner_at vector_at box_at triangle_box within_side encloses same_side same_box valid_box valid_side max_of min_of maximum_of minimum_of
    is_finite
    of_bits of_fields is_nan ne le eq lt
odd_passes = refl

odd_room : room_for three_triangles odd_tree 3 4 ≡ true
unfolding room_for tree_fits
odd_room = refl

-- so the tree cast through it gives, at every ray, what the cast without a tree gives
pub odd_agrees : (r : Ray) → ray_mesh r three_triangles corners odd_tree 3 4 ≡ ray_mesh_plain r three_triangles
odd_agrees r = agrees_with_trees r three_triangles odd_tree 3 4 (record { marks = 9; says_yes = odd_passes }) odd_room
