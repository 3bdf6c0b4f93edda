-- The diagonal of a square of 31, where the rounded listing has no row and the exact one both triangles, computed from the definitions
-- alone; and the promises at it. Assumes nothing.
use mathlib.Core.Path.{◌≡◌, refl, ap}
use mathlib.Core.Bool.{true}
use mathlib.Core.List.{[], ◌∷◌, ◌++◌}
use native.Mathlib.Omega.{arith}
use lib.Ieee.{Float, binary64, span, climb, size, odd, units, round, neg, sum, add, sub, mul, div, lt, eq, le, ne, is_nan, of_fields}
use lib.Ieee.{of_bits}
use lib.Ieee.{of_int, to_signed}
use lib.ListN.{replicate}
use Rattle.arithmetic.specs.Basic.{is_finite, absolute}
use Rattle.arithmetic.specs.Extremes.{minimum_of, maximum_of}
use Rattle.arithmetic.specs.Scaling.{unit, digits_of, scaled_by}
use Rattle.arithmetic.specs.Root.{root_digits, whole_root, root_round, root_of}
use Rattle.vectors.specs.Vector.{component, finite_vec, add_of, sub_of, neg_of, scale_of, min_of, max_of, abs_of, max_element}
use Rattle.vectors.specs.Vector.{dot_of, checked_dot, cross_of, length_of}
use Rattle.vectors.specs.Vector.{normalizable, zero_vec, dot_tells, scaled_to_one, over_length, try_normalize}
use Rattle.geometry.specs.Box.{valid_side, valid_box, touch_side, touches, within_side, encloses, same_side, same_box}
use Rattle.geometry.specs.Segment.{unit_length, ray_admitted, segment_end, segment_box}
use Rattle.geometry.specs.declared.ray.Ray.{Ray}
use Rattle.casts.specs.Surface.{off_segment, facing}
use Rattle.triangle_cast.specs.Triangle.{flat, triangle_normal, triangle_above, triangle_at, triangle_of}
use Rattle.nearest_hit.specs.Nearest.{next_of, fold_from}
use Rattle.lists.specs.Lists.{range, insert_by, sort_by, count, every, flat_map, keep}
use Rattle.tree.specs.Layout.{Tree, vector_at, box_at}
use Rattle.tree.specs.Mesh.{Mesh, lengths_admitted, corners_inside, corner_at, corners_of, triangle_box, triangle_answer}
use Rattle.tree_check.specs.Check.{children_of, places_of, kinds_known, children_above, leaves_inside, named_once, placed_once}
use Rattle.tree_check.specs.Check.{ordered_once, leaves_filled, corners_known, boxes_same, boxes_valid, node_encloses, enclosed}
use Rattle.tree_check.specs.Check.{clauses_hold, tree_passes}
use Rattle.tree_check.specs.Verdict.{yes, check_of, room_for as marksFit}
use Rattle.tree_walk.specs.Walk.{times, take_place, take_places, at_leaf, child_fits, at_branch, at_node, take_node, start, ended, walk_of}
use Rattle.tree_query.specs.Query.{count as count_of}
use Rattle.known_answers.proofs.QueryExamples.{o, i, lower}
use Rattle.mesh.specs.MeshCast.{shape_admitted, tree_fits, room_for}
use Rattle.depth_sort.specs.Order.{not_farther, keyed_ahead}
use Rattle.mesh_hits.specs.HitArea.{HitArea, hit_area, Outcome, is_hit, depth_of, place_of, numbers_of, places_of as placesHeld}
use Rattle.mesh_hits.specs.HitListing.{written, fitted, after_refusals, listing_of}
use Rattle.mesh_hits.specs.Listing.{over_walk, mesh_listing, ray_mesh_all}
use Rattle.mesh_hits.specs.Promise.{first_of}
use Rattle.exact_depth.specs.FirstPoint.{kept, crossing, side_of, entering, inside, entry, along_plane, area, in_plane, coplanar}
use Rattle.exact_depth.specs.FirstPoint.{by_weights}
use Rattle.exact_depth.specs.FirstPoint.{first_point}
use Rattle.exact_triangle.specs.Grid.{nearest_to, grid_admitted, grid_line}
use Rattle.exact_triangle.specs.Shear.{main_of, depth_of as depthOn}
use Rattle.exact_triangle.specs.Box.{low_side, high_side, certain_box}
use Rattle.exact_triangle.specs.Reach.{corners_read, corners_reach, grid_reach}
use Rattle.exact_triangle.specs.Cast.{grid_normal, grid_triangle}
use Rattle.mesh_exact.specs.GridCast.{exact_answer}
use Rattle.tree_exact.specs.Room.{room_of, room_met}
use Rattle.tree_exact.specs.Opening.{line_met, short_segment}
use Rattle.tree_exact.specs.Numbers.{corners_numbered, has_numbers}
use Rattle.tree_exact.specs.ExactMesh.{ray_mesh_exact}
use Rattle.tree_exact.proofs.NumberTests.{yes_numbers}
use Rattle.exact_hits.specs.LineWalk.{take_opened, opened_walk, line_meets, box_opens, walk_box, line_walk}
use Rattle.exact_hits.specs.ExactListing.{exact_listing, ray_mesh_exact_all}
use Rattle.exact_hits.specs.Promise.{Sound, ListsMet}
use Rattle.exact_hits.proofs.Promises.{promised}

abbrev thirty : Float
thirty = of_bits binary64 0x403e_0000_0000_0000

abbrev side : Float
side = of_bits binary64 0x403f_0000_0000_0000

abbrev two : Float
two = of_bits binary64 0x4000_0000_0000_0000

-- two triangles, whose common side is the diagonal
abbrev square : Mesh
square = record {
  vertices = o ∷ o ∷ o ∷ side ∷ o ∷ o ∷ o ∷ side ∷ o ∷ side ∷ side ∷ o ∷ [];
  triangles = 0 ∷ 1 ∷ 2 ∷ 3 ∷ 2 ∷ 1 ∷ [];
}

abbrev one_leaf : Tree
one_leaf = record {
  node_count = 1;
  node_boxes = (o ∷ o ∷ o ∷ side ∷ side ∷ o ∷ []) ++ replicate 18 o;
  triangle_boxes = o ∷ o ∷ o ∷ side ∷ side ∷ o ∷ o ∷ o ∷ o ∷ side ∷ side ∷ o ∷ [];
  node_words = 0 ∷ 0 ∷ 2 ∷ replicate 9 0;
  order = 0 ∷ 1 ∷ [];
}

-- from one above a point of the diagonal down
abbrev down : Ray
down = record {
  origin = record { x = i; y = thirty; z = i };
  direction = record { x = o; y = o; z = lower };
  max_distance = two;
  near = o;
}

-- a hit area of two places and one number more, all of it marked
abbrev marked : HitArea
marked = hit_area (9 ∷ 9 ∷ 9 ∷ []) (replicate 9 two)

abbrev rounded : Outcome
rounded = ray_mesh_all down square square.vertices one_leaf 2 2 marked

abbrev exactly : Outcome
exactly = ray_mesh_exact_all down square square.vertices one_leaf 2 2 marked

pub diagonal_passed : rounded ≡ record { answer = count_of 0; area = marked }
unfolding ray_mesh_all mesh_listing over_walk listing_of after_refusals fitted written numbers_of place_of is_hit placesHeld keep
    keyed_ahead
    not_farther depth_of room_for
    tree_fits shape_admitted walk_of ended start take_node at_node at_branch child_fits at_leaf take_places take_place times triangle_answer
    corner_at corners_inside lengths_admitted box_at vector_at sort_by insert_by range fold_from next_of triangle_of triangle_at
    triangle_above
    triangle_normal flat facing off_segment segment_box segment_end ray_admitted unit_length touches touch_side valid_box valid_side
    normalizable zero_vec dot_tells scaled_to_one over_length try_normalize digits_of scaled_by unit length_of cross_of checked_dot dot_of
    max_element abs_of max_of min_of scale_of neg_of sub_of add_of finite_vec component root_of
    root_round whole_root root_digits maximum_of minimum_of absolute is_finite of_bits of_fields is_nan ne le eq lt div mul sub add sum neg
    round units odd size climb span
diagonal_passed = refl

pub diagonal_listed : exactly
    ≡ record { answer = count_of 2; area = hit_area (0 ∷ 1 ∷ 9 ∷ []) (i ∷ o ∷ o ∷ i ∷ i ∷ o ∷ o ∷ i ∷ two ∷ []) }
unfolding ray_mesh_exact_all exact_listing over_walk line_walk opened_walk take_opened walk_box line_meets box_opens listing_of
    after_refusals fitted
    written numbers_of place_of is_hit placesHeld keep keyed_ahead not_farther depth_of room_for
    tree_fits shape_admitted ended start take_node at_node at_branch child_fits at_leaf take_places take_place times
    lengths_admitted box_at vector_at sort_by insert_by range fold_from next_of
    line_met short_segment touches touch_side certain_box low_side high_side room_met room_of
    exact_answer corner_at corners_of corners_inside facing grid_triangle grid_normal grid_reach corners_reach corners_read
    grid_admitted grid_line nearest_to depthOn main_of first_point by_weights crossing kept coplanar in_plane area along_plane entry inside
    entering
    side_of ray_admitted unit_length normalizable zero_vec dot_tells scaled_to_one over_length try_normalize digits_of scaled_by unit
    length_of
    checked_dot dot_of max_element abs_of max_of min_of neg_of finite_vec component root_of root_round whole_root root_digits maximum_of
    minimum_of
    absolute is_finite of_int to_signed of_bits of_fields is_nan ne le eq lt div mul sub add sum neg round units odd size climb span
diagonal_listed = refl

-- ---- the conditions of the promises hold of it
passes : check_of square one_leaf 6 ≡ yes
unfolding check_of marksFit tree_passes clauses_hold kinds_known children_above leaves_inside named_once placed_once ordered_once
    leaves_filled
    corners_known boxes_same boxes_valid node_encloses enclosed children_of places_of count every flat_map range triangle_box corner_at
    corners_inside lengths_admitted tree_fits box_at vector_at valid_box valid_side within_side encloses same_side same_box min_of max_of
    minimum_of
    maximum_of is_finite absolute of_bits of_fields is_nan ne le eq lt
passes = refl

numbered : has_numbers square ≡ true
unfolding has_numbers corners_numbered every range corners_inside corner_at vector_at is_nan of_bits of_fields
numbered = refl

room : room_for square one_leaf 2 2 ≡ true
unfolding room_for tree_fits
room = refl

sound : Sound square square.vertices one_leaf 2 2
sound = record { own = refl; tree = record { marks = 6; says_yes = passes }; numbers = yes_numbers square numbered; areas = room }

counted : exactly.answer ≡ count_of 2
counted = ap (λ (o : Outcome). o.answer) diagonal_listed

-- so each triangle that is met stands in one row, and the exact cast's hit in the first
pub both_listed : ListsMet down square 2 exactly.area
both_listed = (promised down square one_leaf 2 2 marked square.vertices).each_met_once 2 counted sound

pub cast_first : ray_mesh_exact down square square.vertices one_leaf 2 ≡ first_of exactly.area
cast_first = (promised down square one_leaf 2 2 marked square.vertices).first 2 counted sound (omega arith)
