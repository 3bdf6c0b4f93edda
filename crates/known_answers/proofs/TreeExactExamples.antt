-- Casts through trees that no builder of ours would write, computed from the definitions alone; the agreement at one that passes the
-- check, and a true hit through one that does not. Assumes nothing.
use Prim.Native.Nat.{ℕ}
use mathlib.Core.Path.{◌≡◌, refl}
use mathlib.Core.Bool.{true, false}
use mathlib.Core.List.{List, [], ◌∷◌}
use lib.Ieee.{Float, binary64, span, climb, size, odd, units, round, neg, sum, add, sub, mul, div, lt, eq, le, ne, is_nan, of_fields}
use lib.Ieee.{of_bits}
use lib.Ieee.{of_int, to_signed}
use lib.ListN.{drop, replicate}
use Rattle.arithmetic.specs.Basic.{is_finite, absolute}
use Rattle.arithmetic.specs.Extremes.{minimum_of, maximum_of}
use Rattle.arithmetic.specs.Scaling.{unit, digits_of, scaled_by}
use Rattle.arithmetic.specs.Root.{root_digits, whole_root, root_round, root_of}
use Rattle.vectors.specs.Vector.{component, finite_vec, neg_of, min_of, max_of, abs_of, max_element, dot_of, checked_dot, length_of}
use Rattle.vectors.specs.Vector.{normalizable}
use Rattle.vectors.specs.Vector.{zero_vec, dot_tells, scaled_to_one, over_length, try_normalize}
use Rattle.geometry.specs.Box.{touch_side, touches, same_side, same_box}
use Rattle.geometry.specs.Segment.{unit_length, ray_admitted}
use Rattle.geometry.specs.declared.ray.Ray.{Ray}
use Rattle.casts.specs.Surface.{facing}
use Rattle.casts.specs.Reach.{reach_of}
use Rattle.nearest_hit.specs.Nearest.{Indexed, hit_at, no_hit, stopped, next_of}
use Rattle.nearest_hit.specs.Summary.{keep_of, nearer, note_of, winner_of, answer_at}
use Rattle.lists.specs.Lists.{range, count, flat_map, every}
use Rattle.tree.specs.Layout.{Tree, vector_at, box_at}
use Rattle.tree.specs.Mesh.{Mesh, lengths_admitted, corners_inside, corner_at, corners_of, triangle_box}
use Rattle.tree_check.specs.Check.{children_of, places_of, kinds_known, children_above, leaves_inside, named_once, placed_once}
use Rattle.tree_check.specs.Check.{ordered_once}
use Rattle.tree_check.specs.Check.{leaves_filled, corners_known, boxes_same, clauses_hold, tree_passes}
use Rattle.tree_query.specs.Query.{tree_fits}
use Rattle.known_answers.proofs.QueryExamples.{o, i, quarter, ten, eleven, lower, odd_tree}
use Rattle.mesh.specs.MeshCast.{shape_admitted}
use Rattle.known_answers.proofs.MeshExamples.{odd_passes}
use Rattle.exact_depth.specs.FirstPoint.{kept, crossing, side_of, entering, inside, entry, along_plane, area, in_plane, coplanar}
use Rattle.exact_depth.specs.FirstPoint.{by_weights}
use Rattle.exact_depth.specs.FirstPoint.{first_point}
use Rattle.exact_triangle.specs.Grid.{nearest_to, grid_admitted, grid_line}
use Rattle.exact_triangle.specs.Shear.{main_of, depth_of}
use Rattle.exact_triangle.specs.Box.{low_side, high_side, certain_box}
use Rattle.exact_triangle.specs.Reach.{corners_read, corners_reach, grid_reach}
use Rattle.exact_triangle.specs.Cast.{grid_normal, grid_triangle}
use Rattle.mesh_exact.specs.GridCast.{exact_answer, ray_mesh_exact_plain}
use Rattle.mesh_exact.specs.Certain.{TrueHit}
use Rattle.tree_exact.specs.FirstWalk.{times, take_place, take_places, at_leaf, at_branch, at_node, take_node, start, ended, first_of}
use Rattle.tree_exact.specs.Room.{room_of, room_met}
use Rattle.tree_exact.specs.Opening.{line_met, short_segment, box_met, opens_node}
use Rattle.tree_exact.specs.Order.{nearer_first, taken_first, left_first}
use Rattle.tree_exact.specs.Numbers.{NoNaN, corners_numbered, has_numbers}
use Rattle.tree_exact.specs.ExactMesh.{exact_through, room_for, ray_mesh_exact}
use Rattle.tree_exact.proofs.NumberTests.{yes_numbers}
use Rattle.tree_exact.proofs.Agreement.{agrees}
use Rattle.tree_exact.proofs.AnyTree.{hit_anywhere}

-- the three triangles of that tree: one at height 0, one apart from it, one below it
abbrev vertices : List Float
vertices =
    o ∷ o ∷ o ∷ i ∷ o ∷ o ∷ o ∷ i ∷ o ∷ ten ∷ o ∷ o ∷ eleven ∷ o ∷ o ∷ ten ∷ i ∷ o ∷ o ∷ o ∷ lower ∷ i ∷ o ∷ lower ∷ o ∷ i ∷ lower ∷ []

abbrev mesh : Mesh
mesh = record { vertices = vertices; triangles = 0 ∷ 1 ∷ 2 ∷ 3 ∷ 4 ∷ 5 ∷ 6 ∷ 7 ∷ 8 ∷ [] }

abbrev two : Float
two = of_bits binary64 0x4000_0000_0000_0000

abbrev three : Float
three = of_bits binary64 0x4008_0000_0000_0000

-- the next float after 8,192
abbrev too_far : Float
too_far = of_bits binary64 0x40c0_0000_0000_0001

abbrev minus_zero : Float
minus_zero = of_bits binary64 0x8000_0000_0000_0000

-- a ray along the third axis
abbrev along : Float → Float → Float → Float → Ray
along x y height direction = record {
  origin = record { x = x; y = y; z = height };
  direction = record { x = o; y = o; z = direction };
  max_distance = three;
  near = o;
}

-- the same tree with another first word, or another node count
abbrev with_root : ℕ → ℕ → Tree
with_root kind nodes = record {
  node_count = nodes;
  node_boxes = odd_tree.node_boxes;
  triangle_boxes = odd_tree.triangle_boxes;
  node_words = kind ∷ 2 ∷ 1 ∷ 0 ∷ 0 ∷ 1 ∷ 0 ∷ 1 ∷ 2 ∷ 9 ∷ 9 ∷ 9 ∷ 9 ∷ 9 ∷ 9 ∷ 9 ∷ 9 ∷ 9 ∷ [];
  order = odd_tree.order;
}

abbrev cast : Ray → Indexed
cast r = ray_mesh_exact r mesh vertices odd_tree 4

abbrev above : Ray
above = along o o i lower

-- at the corner of two triangles from above and from below; past the longest side; at a quarter of a side
abbrev hits : List Indexed
hits =
    cast above ∷ cast (along o o (of_bits binary64 0xc008_0000_0000_0000) i) ∷ cast (along i i i lower) ∷ cast (along quarter o i lower)
    ∷ []

pub casts_hit :
    hits
    ≡ hit_at (record { x = o; y = o; z = i }) i 0
    ∷ hit_at (record { x = minus_zero; y = minus_zero; z = lower }) two 2
    ∷ no_hit
    ∷ hit_at (record { x = o; y = o; z = i }) i 0 ∷ []
unfolding ray_mesh_exact exact_through room_for tree_fits shape_admitted lengths_admitted first_of ended start take_node at_node at_branch
    at_leaf
    take_places take_place times range opens_node box_met line_met short_segment touches touch_side certain_box low_side high_side room_met
    room_of left_first taken_first nearer_first box_at vector_at answer_at winner_of note_of keep_of
    nearer reach_of next_of exact_answer corner_at corners_of corners_inside facing grid_triangle grid_normal grid_reach corners_reach
    corners_read
    grid_admitted grid_line nearest_to depth_of main_of first_point by_weights crossing kept coplanar in_plane area along_plane entry inside
    entering
    side_of ray_admitted unit_length normalizable zero_vec dot_tells scaled_to_one over_length try_normalize digits_of scaled_by unit
    length_of
    checked_dot dot_of max_element abs_of max_of min_of neg_of finite_vec component root_of root_round whole_root root_digits maximum_of
    minimum_of
    absolute is_finite of_int to_signed of_bits of_fields is_nan ne le eq lt div mul sub add sum neg round units odd size climb span
casts_hit = refl

-- 1 before 12, and 12 before 2; 2, 3, 4 and the walk's 5
abbrev refusals : List Indexed
refusals =
    cast (along too_far o i two) ∷ ray_mesh_exact (along too_far o i lower) mesh vertices (with_root 1 7) 4
    ∷ ray_mesh_exact above mesh vertices (with_root 1 7) 3
    ∷ ray_mesh_exact above mesh [] odd_tree 3 ∷ ray_mesh_exact above mesh [] odd_tree 4
    ∷ ray_mesh_exact above mesh vertices (with_root 7 3) 4 ∷ []

pub casts_refused : refusals ≡ stopped 1 ∷ stopped 12 ∷ stopped 2 ∷ stopped 3 ∷ stopped 4 ∷ stopped 5 ∷ []
unfolding ray_mesh_exact exact_through room_for tree_fits shape_admitted lengths_admitted first_of ended start take_node at_node times
    opens_node
    box_met line_met short_segment touches touch_side certain_box low_side high_side room_met room_of box_at vector_at
    grid_admitted grid_line nearest_to main_of ray_admitted unit_length length_of dot_of max_element abs_of
    max_of min_of finite_vec component root_of root_round whole_root root_digits maximum_of minimum_of absolute is_finite of_int to_signed
    of_bits
    of_fields is_nan ne le eq lt div mul sub add sum neg round units odd size climb span
casts_refused = refl

-- so the cast through it gives, for every ray, what the cast without a tree gives
odd_room : room_for mesh odd_tree 4 ≡ true
unfolding room_for tree_fits
odd_room = refl

odd_numbers : NoNaN mesh
odd_numbers = yes_numbers mesh asked
  where
    asked : has_numbers mesh ≡ true
    asked = unfold has_numbers corners_numbered every range corners_inside corner_at vector_at is_nan of_bits of_fields in refl

pub odd_agrees : (r : Ray) → cast r ≡ ray_mesh_exact_plain r mesh
odd_agrees r = agrees r mesh odd_tree 4 (record { marks = 9; says_yes = odd_passes }) odd_numbers odd_room

-- ---- a tree that does not pass the check, at vertices that are not the mesh's
-- the boxes of its triangles are all at 0
abbrev unboxed : Tree
unboxed = record {
  node_count = 3;
  node_boxes = odd_tree.node_boxes;
  triangle_boxes = replicate 18 o;
  node_words = odd_tree.node_words;
  order = odd_tree.order;
}

pub unboxed_fails : tree_passes mesh unboxed ≡ false
unfolding tree_passes clauses_hold kinds_known children_above leaves_inside named_once placed_once ordered_once leaves_filled corners_known
    boxes_same
    children_of places_of count every flat_map range triangle_box corner_at corners_inside box_at vector_at same_side same_box
    min_of max_of minimum_of maximum_of of_bits of_fields is_nan ne le eq lt
unboxed_fails = refl

-- the first triangle a quarter higher
abbrev raised : List Float
raised = o ∷ o ∷ quarter ∷ i ∷ o ∷ quarter ∷ o ∷ i ∷ quarter ∷ drop 9 vertices

abbrev three_quarters : Float
three_quarters = of_bits binary64 0x3fe8_0000_0000_0000

pub raised_hit : ray_mesh_exact above mesh raised unboxed 4 ≡ hit_at (record { x = o; y = o; z = i }) three_quarters 0
unfolding ray_mesh_exact exact_through room_for tree_fits shape_admitted lengths_admitted first_of ended start take_node at_node at_branch
    at_leaf
    take_places take_place times range opens_node box_met line_met short_segment touches touch_side certain_box low_side high_side room_met
    room_of left_first taken_first nearer_first box_at vector_at answer_at winner_of note_of keep_of
    nearer reach_of next_of exact_answer corner_at corners_of corners_inside facing grid_triangle grid_normal grid_reach corners_reach
    corners_read
    grid_admitted grid_line nearest_to depth_of main_of first_point by_weights crossing kept coplanar in_plane area along_plane entry inside
    entering
    side_of ray_admitted unit_length normalizable zero_vec dot_tells scaled_to_one over_length try_normalize digits_of scaled_by unit
    length_of
    checked_dot dot_of max_element abs_of max_of min_of neg_of finite_vec component root_of root_round whole_root root_digits maximum_of
    minimum_of
    absolute is_finite of_int to_signed of_bits of_fields is_nan ne le eq lt div mul sub add sum neg round units odd size climb span
raised_hit = refl

-- yet the hit is a true hit of the triangle as it stands there
pub raised_true : TrueHit above (record { vertices = raised; triangles = mesh.triangles }) (record { x = o; y = o; z = i }) three_quarters 0
raised_true = hit_anywhere above mesh raised unboxed 4 _ _ _ raised_hit
