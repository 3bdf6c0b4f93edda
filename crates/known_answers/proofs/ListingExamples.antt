-- Listings through a tree that no builder of ours would write, computed, and a promise at one of them. Assumes nothing.
use mathlib.Core.Path.{◌≡◌, refl, sym, ap, ◌∙◌}
use mathlib.Core.List.{List, [], ◌∷◌}
use native.Mathlib.Omega.{arith}
use lib.Ieee.{Float, binary64, span, climb, size, odd, units, round, neg, sum, add, sub, mul, div, lt, eq, le, ne, is_nan}
use lib.Ieee.{of_fields, of_bits}
use lib.ListN.{length}
use Rattle.arithmetic.specs.Basic.{is_finite, absolute}
use Rattle.arithmetic.specs.Extremes.{minimum_of, maximum_of}
use Rattle.arithmetic.specs.Scaling.{unit, digits_of, scaled_by}
use Rattle.arithmetic.specs.Root.{root_digits, whole_root, root_round, root_of}
use Rattle.vectors.specs.Vector.{component, finite_vec, add_of, sub_of, neg_of, scale_of, min_of, max_of, abs_of, max_element}
use Rattle.vectors.specs.Vector.{dot_of, checked_dot, cross_of, length_of}
use Rattle.vectors.specs.Vector.{normalizable, zero_vec, dot_tells, scaled_to_one, over_length, try_normalize}
use Rattle.geometry.specs.Box.{valid_side, valid_box, touch_side, touches, within_side, encloses, same_side, same_box}
use Rattle.geometry.specs.Segment.{unit_length, ray_admitted, segment_end, segment_box}
use Rattle.geometry.specs.declared.ray.Ray.{Ray}
use Rattle.casts.specs.Surface.{off_segment, facing}
use Rattle.triangle_cast.specs.Triangle.{flat, triangle_normal, triangle_above, triangle_at, triangle_of}
use Rattle.nearest_hit.specs.Nearest.{next_of, fold_from}
use Rattle.lists.specs.Lists.{range, insert_by, sort_by, count, every, flat_map, keep}
use Rattle.tree.specs.Layout.{vector_at, box_at}
use Rattle.tree.specs.Mesh.{Mesh, lengths_admitted, corners_inside, corner_at, triangle_box, triangle_answer}
use Rattle.tree_check.specs.Check.{children_of, places_of, kinds_known, children_above, leaves_inside, named_once, placed_once}
use Rattle.tree_check.specs.Check.{ordered_once, leaves_filled, corners_known, boxes_same, boxes_valid, node_encloses, enclosed}
use Rattle.tree_check.specs.Check.{clauses_hold, tree_passes}
use Rattle.tree_check.specs.Verdict.{check_of, room_for as marksFit}
use Rattle.tree_walk.specs.Walk.{times, take_place, take_places, at_leaf, child_fits, at_branch, at_node, take_node, start, ended, walk_of}
use Rattle.tree_query.specs.Query.{Listing, count as count_of, refused}
use Rattle.known_answers.proofs.QueryExamples.{o, i, quarter, ten, eleven, lower, odd_tree}
use Rattle.mesh.specs.MeshCast.{shape_admitted, tree_fits, room_for, ray_mesh}
use Rattle.mesh.specs.Demand3.{Admitted}
use Rattle.depth_sort.specs.Order.{not_farther, keyed_ahead}
use Rattle.mesh_hits.specs.HitArea.{HitArea, hit_area, Outcome, is_hit, depth_of, place_of, numbers_of, places_in, places_of as placesHeld}
use Rattle.mesh_hits.specs.HitListing.{written, fitted, after_refusals, listing_of}
use Rattle.mesh_hits.specs.Listing.{over_walk, mesh_listing, ray_mesh_all}
use Rattle.mesh_hits.specs.Promise.{ListsHits, first_of, hits_of_walk, hit_count, hit_triangles, CountsHits}
use Rattle.mesh_hits.proofs.Promises.{promised}

-- the three triangles of that tree: one at height 0, one beside it, one at height -1 below the first
abbrev vertices : List Float
vertices =
    o ∷ (o ∷ (o ∷ (i ∷ (o ∷ (o ∷ (o ∷ (i ∷ (o ∷ (ten ∷ (o ∷ (o ∷ (eleven ∷ (o ∷ (o ∷ (ten ∷ (i ∷ (o
    ∷ (o ∷ (o ∷ (lower ∷ (i ∷ (o ∷ (lower ∷ (o ∷ (i ∷ (lower ∷ []))))))))))))))))))))))))))

abbrev mesh : Mesh
mesh = record { vertices = vertices; triangles = 0 ∷ (1 ∷ (2 ∷ (3 ∷ (4 ∷ (5 ∷ (6 ∷ (7 ∷ (8 ∷ [])))))))) }

abbrev two : Float
two = of_bits binary64 0x4000_0000_0000_0000

abbrev three : Float
three = of_bits binary64 0x4008_0000_0000_0000

abbrev minus_zero : Float
minus_zero = of_bits binary64 0x8000_0000_0000_0000

-- from height -3 upward, as far as 3, from a near distance on: the lower triangle is 2 away, the upper one 3
abbrev upward : Float → Ray
upward near = record {
  origin = record { x = quarter; y = quarter; z = of_bits binary64 0xc008_0000_0000_0000 };
  direction = record { x = o; y = o; z = i };
  max_distance = three;
  near = near;
}

-- a hit area of two places and one number more, all of it marked
abbrev marked : HitArea
marked = hit_area (9 ∷ (9 ∷ (9 ∷ []))) (ten ∷ (ten ∷ (ten ∷ (ten ∷ (ten ∷ (ten ∷ (ten ∷ (ten ∷ (ten ∷ [])))))))))

abbrev one_row : HitArea
one_row = hit_area (9 ∷ []) (ten ∷ (ten ∷ (ten ∷ (ten ∷ (ten ∷ [])))))

abbrev list : Float → HitArea → Outcome
list near area = ray_mesh_all (upward near) mesh vertices odd_tree 3 4 area

-- both, the nearer first; from 3 on, the upper one alone; with one place, refused and zeros
pub listings_answered :
    list o marked ∷ (list three marked ∷ (list o one_row ∷ []))
    ≡ record {
      answer = count_of 2;
      area = hit_area (2 ∷ (0 ∷ (9 ∷ [])))
          (two ∷ (minus_zero ∷ (minus_zero ∷ (lower ∷ (three ∷ (minus_zero ∷ (minus_zero ∷ (lower ∷ (ten ∷ [])))))))));
    }
    ∷ (record {
      answer = count_of 1;
      area = hit_area (0 ∷ (9 ∷ (9 ∷ [])))
          (three ∷ (minus_zero ∷ (minus_zero ∷ (lower ∷ (ten ∷ (ten ∷ (ten ∷ (ten ∷ (ten ∷ [])))))))));
    }
    ∷ (record { answer = refused 3; area = hit_area (0 ∷ []) (o ∷ (o ∷ (o ∷ (o ∷ (o ∷ []))))) } ∷ []))
unfolding ray_mesh_all mesh_listing over_walk listing_of after_refusals fitted written numbers_of place_of is_hit placesHeld keep
    keyed_ahead
    not_farther depth_of room_for
    tree_fits shape_admitted walk_of ended start take_node at_node at_branch child_fits at_leaf take_places take_place times triangle_answer
    corner_at corners_inside lengths_admitted box_at vector_at sort_by insert_by range fold_from next_of triangle_of triangle_at
    triangle_above
    triangle_normal flat facing off_segment segment_box segment_end ray_admitted unit_length touches touch_side valid_box valid_side
    normalizable zero_vec dot_tells scaled_to_one over_length try_normalize digits_of scaled_by unit length_of cross_of checked_dot dot_of
    max_element abs_of max_of min_of scale_of neg_of sub_of add_of finite_vec component root_of
    root_round whole_root root_digits maximum_of minimum_of absolute is_finite of_bits of_fields is_nan ne le eq lt div mul sub add sum neg
    round units odd size climb span
listings_answered = refl

-- the tree passes the check, so that the promise of such trees holds of the first listing: each of its two hits stands there once
abbrev first_answer : List Outcome → Listing
first_answer [] = refused 0
first_answer (outcome ∷ rest) = outcome.answer

pub tree_admitted : Admitted (upward o) mesh odd_tree 3 4
unfolding room_for tree_fits shape_admitted corner_at corners_inside lengths_admitted box_at vector_at sort_by insert_by range segment_box
    segment_end ray_admitted unit_length touches touch_side valid_box valid_side normalizable zero_vec dot_tells scaled_to_one over_length
    try_normalize digits_of scaled_by unit length_of cross_of checked_dot dot_of max_element
    abs_of max_of min_of scale_of neg_of sub_of add_of finite_vec component root_of root_round whole_root root_digits maximum_of minimum_of
    absolute
    is_finite of_bits of_fields is_nan ne le eq lt div mul sub add sum neg round units odd size climb span check_of marksFit tree_passes
    clauses_hold kinds_known children_above leaves_inside named_once placed_once ordered_once leaves_filled corners_known boxes_same
    boxes_valid
    node_encloses enclosed children_of places_of count every flat_map triangle_box within_side encloses same_side same_box
tree_admitted = record { mesh = refl; ray = refl; end = refl; tree = record { marks = 9; says_yes = refl }; areas = refl }

pub hits_found : ListsHits (upward o) mesh 2 (list o marked).area
hits_found =
    (promised (upward o) mesh vertices odd_tree 3 4 marked).each_hit_once 2 (ap first_answer listings_answered) refl tree_admitted

-- and the mesh cast's own hit is its first row
pub first_found_lem : ray_mesh (upward o) mesh vertices odd_tree 3 4 ≡ first_of (list o marked).area
first_found_lem = (promised (upward o) mesh vertices odd_tree 3 4 marked).first 2 (ap first_answer listings_answered) (omega arith)

-- two hits, as the promise counts them: with two places the answer is their count, with one it is 3
pub hits_are_two : hit_count (upward o) mesh vertices odd_tree ≡ 2
unfolding hits_of_walk is_hit keep walk_of ended start take_node at_node at_branch child_fits at_leaf take_places take_place times
    triangle_answer
    corner_at corners_inside box_at vector_at sort_by insert_by range triangle_of triangle_at triangle_above
    triangle_normal flat facing off_segment segment_box segment_end touches touch_side
    normalizable zero_vec dot_tells scaled_to_one over_length try_normalize digits_of scaled_by unit length_of cross_of checked_dot dot_of
    max_element abs_of max_of min_of scale_of neg_of sub_of add_of finite_vec component root_of
    root_round whole_root root_digits maximum_of minimum_of absolute is_finite of_bits of_fields is_nan ne le eq lt div mul sub add sum neg
    round units odd size climb span
hits_are_two = refl

abbrev hit_counts : HitArea → Type 0
hit_counts area = CountsHits (hit_count (upward o) mesh vertices odd_tree) (places_in area) (list o area).answer

counts : (area : HitArea) → hit_counts area
counts area = (promised (upward o) mesh vertices odd_tree 3 4 area).counts _ _ _ first_found_lem

pub two_counted : (list o marked).answer ≡ count_of 2
unfolding placesHeld
two_counted = (counts marked).counted (omega (arith, hits_are_two)) ∙ ap count_of hits_are_two

pub one_place_refused : (list o one_row).answer ≡ refused 3
unfolding placesHeld
one_place_refused = (counts one_row).too_many (omega (arith, hits_are_two))

-- and they are the triangles of the mesh that are hit
pub hits_of_mesh : length (hit_triangles (upward o) mesh) ≡ 2
hits_of_mesh = sym ((promised (upward o) mesh vertices odd_tree 3 4 marked).all_counted refl tree_admitted) ∙ hits_are_two
