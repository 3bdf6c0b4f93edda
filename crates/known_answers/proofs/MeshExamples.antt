-- Casts at a mesh through a tree that no builder of ours would write, computed from the definitions alone, and demand 3 at that tree.
-- Assumes nothing.
use mathlib.Core.Path.{◌≡◌, refl}
use mathlib.Core.List.{List, [], ◌∷◌}
use lib.Ieee.{Float, binary64, span, climb, size, odd, units, round, neg, sum, add, sub, mul, div, lt, eq, le, ne, is_nan, of_fields}
use lib.Ieee.{of_bits}
use Rattle.arithmetic.specs.Basic.{is_finite, absolute}
use Rattle.arithmetic.specs.Extremes.{minimum_of, maximum_of}
use Rattle.arithmetic.specs.Root.{root_digits, whole_root, root_round, root_of}
use Rattle.arithmetic.specs.Scaling.{unit, digits_of, scaled_by}
use Rattle.vectors.specs.Vector.{component, finite_vec, add_of, sub_of, neg_of, scale_of, min_of, max_of, abs_of, max_element, dot_of}
use Rattle.vectors.specs.Vector.{checked_dot}
use Rattle.vectors.specs.Vector.{cross_of, length_of, normalizable, zero_vec, dot_tells, scaled_to_one, over_length, try_normalize}
use Rattle.geometry.specs.Box.{valid_side, valid_box, touch_side, touches, within_side, encloses, same_side, same_box}
use Rattle.geometry.specs.Segment.{unit_length, ray_admitted, segment_end, segment_box}
use Rattle.geometry.specs.declared.ray.Ray.{Ray}
use Rattle.casts.specs.Surface.{off_segment, facing}
use Rattle.triangle_cast.specs.Triangle.{flat, triangle_normal, triangle_above, triangle_at, triangle_of}
use Rattle.nearest_hit.specs.Nearest.{Indexed, hit_at, no_hit, stopped, next_of, fold_from}
use Rattle.lists.specs.Lists.{range, insert_by, sort_by, count, every, flat_map}
use Rattle.tree.specs.Layout.{vector_at, box_at}
use Rattle.tree.specs.Mesh.{Mesh, lengths_admitted, corners_inside, corner_at, triangle_box, triangle_answer}
use Rattle.tree_check.specs.Check.{children_of, places_of, kinds_known, children_above, leaves_inside, named_once, placed_once}
use Rattle.tree_check.specs.Check.{ordered_once}
use Rattle.tree_check.specs.Check.{leaves_filled, corners_known, boxes_same, boxes_valid, node_encloses, enclosed, clauses_hold}
use Rattle.tree_check.specs.Check.{tree_passes}
use Rattle.tree_check.specs.Verdict.{yes, check_of, room_for as check-roomFor}
use Rattle.tree_walk.specs.Walk.{times, take_place, take_places, at_leaf, child_fits, at_branch, at_node, take_node, start, ended, walk_of}
use Rattle.known_answers.proofs.QueryExamples.{o, i, quarter, ten, eleven, lower, odd_tree}
use Rattle.mesh.specs.Demand3.{Admitted, MeetsDemand}
use Rattle.mesh.proofs.Demand3.{demand3}
use Rattle.mesh.specs.MeshCast.{shape_admitted, tree_fits, room_for, over_walk, mesh_cast, ray_mesh}

-- the three triangles of that tree: one at height 0, one beside it, one below it
abbrev vertices : List Float
vertices =
    o ∷ (o ∷ (o ∷ (i ∷ (o ∷ (o ∷ (o ∷ (i ∷ (o ∷ (ten ∷ (o ∷ (o ∷ (eleven ∷ (o ∷ (o ∷ (ten ∷ (i ∷ (o ∷ (o ∷ (o ∷ (lower ∷ (i ∷ (o ∷ (lower ∷
    (o ∷ (i ∷ (lower ∷ []))))))))))))))))))))))))))

abbrev pub mesh : Mesh
mesh = record { vertices = vertices; triangles = 0 ∷ (1 ∷ (2 ∷ (3 ∷ (4 ∷ (5 ∷ (6 ∷ (7 ∷ (8 ∷ [])))))))) }

abbrev two : Float
two = of_bits binary64 0x4000_0000_0000_0000

abbrev minus_zero : Float
minus_zero = of_bits binary64 0x8000_0000_0000_0000

abbrev three : Float
three = of_bits binary64 0x4008_0000_0000_0000

-- a ray along the third axis over the column of two triangles
abbrev along : Float → Float → Float → Ray
along height direction maximum = record {
  origin = record { x = quarter; y = quarter; z = height };
  direction = record {
    x = o;
    y = o;
    z =
        direction;
  };
  max_distance = maximum;
  near = o;
}

abbrev cast : Ray → Indexed
cast r = ray_mesh r mesh vertices odd_tree 3 4

-- from above the upper triangle is hit, though it is listed first of two; from below the lower one, though it is listed last
pub casts_answered :
    cast (along i lower three) ∷ (cast (along (of_bits binary64 0xc008_0000_0000_0000) i three) ∷ (cast (along i lower quarter) ∷ (cast
    (along i two three) ∷ [])))
    ≡ hit_at (record { x = o; y = o; z = i }) i 0 ∷
    (hit_at (record { x = minus_zero; y = minus_zero; z = lower }) two 2 ∷ (no_hit ∷ (stopped 1 ∷ [])))
unfolding ray_mesh mesh_cast over_walk room_for tree_fits shape_admitted walk_of ended start take_node at_node at_branch child_fits at_leaf
    take_places
    take_place times triangle_answer corner_at corners_inside lengths_admitted box_at vector_at sort_by insert_by range fold_from next_of
    triangle_of
    triangle_at triangle_above triangle_normal flat facing off_segment segment_box segment_end ray_admitted unit_length touches touch_side
    valid_box
    valid_side normalizable zero_vec dot_tells scaled_to_one over_length try_normalize digits_of scaled_by unit length_of cross_of
    checked_dot dot_of
    max_element abs_of max_of min_of scale_of neg_of sub_of add_of finite_vec component root_of root_round whole_root root_digits maximum_of
    minimum_of
    absolute is_finite of_bits of_fields is_nan ne le eq lt div mul sub add sum neg round units odd size climb span
casts_answered = refl

-- ---- demand 3 at that tree

-- the check itself says yes to it
pub odd_passes : check_of mesh odd_tree 9 ≡ yes
unfolding ray_mesh mesh_cast over_walk room_for tree_fits shape_admitted walk_of ended start take_node at_node at_branch child_fits at_leaf
    take_places
    take_place times triangle_answer corner_at corners_inside lengths_admitted box_at vector_at sort_by insert_by range fold_from next_of
    triangle_of
    triangle_at triangle_above triangle_normal flat facing off_segment segment_box segment_end ray_admitted unit_length touches touch_side
    valid_box
    valid_side normalizable zero_vec dot_tells scaled_to_one over_length try_normalize digits_of scaled_by unit length_of cross_of
    checked_dot dot_of
    max_element abs_of max_of min_of scale_of neg_of sub_of add_of finite_vec component root_of root_round whole_root root_digits maximum_of
    minimum_of
    absolute is_finite of_bits of_fields is_nan ne le eq lt div mul sub add sum neg round units odd size climb span check_of check-roomFor
    tree_passes clauses_hold kinds_known children_above leaves_inside named_once placed_once ordered_once leaves_filled corners_known
    boxes_same
    boxes_valid node_encloses enclosed children_of places_of count every flat_map triangle_box within_side encloses same_side same_box
odd_passes = refl

-- so that the ray from above meets what demand 3 asks
pub odd_admitted : Admitted (along i lower three) mesh odd_tree 3 4
unfolding ray_mesh mesh_cast over_walk room_for tree_fits shape_admitted walk_of ended start take_node at_node at_branch child_fits at_leaf
    take_places
    take_place times triangle_answer corner_at corners_inside lengths_admitted box_at vector_at sort_by insert_by range fold_from next_of
    triangle_of
    triangle_at triangle_above triangle_normal flat facing off_segment segment_box segment_end ray_admitted unit_length touches touch_side
    valid_box
    valid_side normalizable zero_vec dot_tells scaled_to_one over_length try_normalize digits_of scaled_by unit length_of cross_of
    checked_dot dot_of
    max_element abs_of max_of min_of scale_of neg_of sub_of add_of finite_vec component root_of root_round whole_root root_digits maximum_of
    minimum_of
    absolute is_finite of_bits of_fields is_nan ne le eq lt div mul sub add sum neg round units odd size climb span
odd_admitted = record { mesh = refl; ray = refl; end = refl; tree = record { marks = 9; says_yes = odd_passes }; areas = refl }

pub odd_meets : MeetsDemand (along i lower three) mesh (cast (along i lower three))
odd_meets = demand3 (along i lower three) mesh odd_tree 3 4 odd_admitted
