-- The definitions give what document 01 says of every entry of the table: computed once, and the rule at each entry from it. Assumes
-- nothing.
use mathlib.Core.Path.{◌≡◌, refl}
use mathlib.Core.Bool.{true}
use mathlib.Core.List.{List, ◌∷◌}
use lib.Ieee.{span, climb, size, odd, units, round, neg, sum, add, sub, mul, div, lt, eq, le, ne, of_int, to_unsigned, is_nan, of_fields}
use lib.Ieee.{of_bits, to_bits}
use Rattle.lists.proofs.JoinedTests.{and_first, and_second}
use Rattle.arithmetic.specs.Basic.{is_finite, absolute, negative, sign_positive, clamp_to}
use Rattle.arithmetic.specs.Extremes.{minimum_of, maximum_of}
use Rattle.arithmetic.specs.Root.{root_digits, whole_root, root_round, root_of}
use Rattle.arithmetic.specs.Rounding.{whole_by, floor_of, round_of}
use Rattle.arithmetic.specs.Ordering.{total_order}
use Rattle.arithmetic.specs.Scaling.{unit, digits_of, scaled_by}
use Rattle.vectors.specs.Vector.{component, finite_vec, add_of, sub_of, neg_of, scale_of, min_of, max_of, abs_of, max_element, dot_of}
use Rattle.vectors.specs.Vector.{checked_dot}
use Rattle.vectors.specs.Vector.{cross_of, length_of, normalizable, zero_vec, dot_tells, scaled_to_one, over_length, try_normalize}
use Rattle.geometry.specs.Box.{valid_side, valid_box, touch_side, touches, within_side, encloses, same_side, same_box, union_of, centre}
use Rattle.geometry.specs.Box.{corners_box}
use Rattle.geometry.specs.Segment.{unit_length, ray_admitted, segment_end, segment_box}
use Rattle.casts.specs.Surface.{off_segment, facing}
use Rattle.casts.specs.Plane.{plane_admitted, plane_at, plane_cast, ray_plane}
use Rattle.triangle_cast.specs.Triangle.{flat, triangle_normal, has_normal, triangle_above, triangle_at, triangle_of, ray_triangle}
use Rattle.nearest_hit.specs.Nearest.{next_of, fold_from, without_index}
use Rattle.geometry.specs.Spacing.{spacing_admitted}
use Rattle.height_field.specs.Grid.{side_admitted, field_admitted, float_of, vertex_at, cell_at, cell_row, cell_column, corners_at}
use Rattle.height_field.specs.Grid.{feature_corners}
use Rattle.height_field.specs.Cells.{scaled_range, span_of, cell_range, run, range_cells, grid_cells, column_range, row_range}
use Rattle.height_field.specs.Cells.{visited_cells}
use Rattle.height_field.specs.Listing.{both, list_all, all_finite, cell_finite, feature_box, list_cell, grid_listing}
use Rattle.lists.specs.Lists.{keep, range, count, every, flat_map, insert_by, sort_by, folded}
use Rattle.height_field.specs.Cast.{answer_of, cast_listed, span_finite, height_cast, ray_height_field}
use Rattle.cubic.specs.Polynomial.{cubic_by, cubic_of, finite_cubic, evaluate, root_tolerance}
use Rattle.cubic.specs.Turns.{between_ends, kept_point, kept_points, vertex, turning_by, turning_points, extrema}
use Rattle.cubic.specs.Halving.{middle_of, halve_at, halve, halvings, settled}
use Rattle.cubic.specs.Roots.{insert, sorted, points, root_between, search_on, search_from, search_list, root_of_cubic, first_cubic_root}
use Rattle.distance_grid.specs.Grid.{side_admitted as levelset-sideAdmitted, sides_admitted, grid_admitted, last_node, last_corner}
use Rattle.distance_grid.specs.Grid.{grid_box}
use Rattle.grid_steps.specs.Slab.{kept, cut, slab_from, slab, started, ray_aabb_interval}
use Rattle.grid_steps.specs.Cells.{slack, leaves_node, whole_cell, cell_at as levelset-cellAt, cell_on_axis, ray_cell_indices, node_ahead}
use Rattle.grid_steps.specs.Cells.{boundary_distance, boundary_by, axis_boundary, next_cell_boundary}
use Rattle.distance_grid.specs.Places.{up_to, floor_cell, top_of, clamped_to, clamped, clamped_point, cell_below, place_of, place_at}
use Rattle.distance_grid.specs.Places.{locate_axis}
use Rattle.distance_grid.specs.Places.{locate_inside, locate}
use Rattle.distance_grid.specs.Faces.{value_at, face_at}
use Rattle.distance_grid.specs.Steps.{checked, blend, lerp, checked_difference, over, lerp_face, value_on, slope_on}
use Rattle.distance_grid.specs.Sampling.{gathered, sample_faces, sample_cell, sample}
use Rattle.distance_grid.specs.Valued.{across, cell_value, small_value, small_face, fair_side, fair_spacing}
use Rattle.distance_grid.specs.Places.{is_fraction}
use Rattle.level_set.specs.Hits.{point_at, along, hit_with, hit_along, touch_at, value_along, samples_of, samples_along}
use Rattle.level_set.specs.Walk.{goes_on, cell_by, cell_cast, goes_to, walk_step, cell_limit, walk_from, level_set_cast, ray_level_set}
use Rattle.tree.specs.Layout.{vector_at, box_at, box_numbers}
use Rattle.tree.specs.Mesh.{lengths_admitted, corners_inside, corner_at, corners_of, triangle_box, triangle_answer, candidates}
use Rattle.tree_build.specs.Shape.{shape_within, shape_of, size_of, nodes_of, words_of}
use Rattle.tree_ranges.specs.Extents.{longest_axis, hull_of, centre_of, extent_of}
use Rattle.tree_ranges.specs.Keys.{lane_of, key_of, stands_before}
use Rattle.tree_build.specs.Ranges.{sorted_range, left_range, right_range, extents_finite, order_below, boxes_below}
use Rattle.tree_build.specs.Build.{zeroed, room_for, tree_written, built_of, build_of}
use Rattle.tree.specs.Mesh.{each_box, triangle_fits, triangles_fit, boxes_written}
use Rattle.tree_walk.specs.Walk.{times, take_place, take_places, at_leaf, child_fits, at_branch, at_node, take_node, start, ended, walk_of}
use Rattle.tree_query.specs.Query.{tree_fits, walk_fits}
use Rattle.mesh.specs.MeshCast.{shape_admitted, room_for as mesh-roomFor, over_walk, mesh_cast, ray_mesh}
use Rattle.mesh.specs.Through.{through_built}
use Rattle.known_answers.specs.Cases.{outcome, of_built}
use Rattle.known_answers.specs.Table.{Entry, table, right, all_right, repeated}

pub known_answers_hold : all_right table ≡ true
unfolding table right all_right repeated outcome through_built of_built span climb size odd units round neg sum add sub mul div
    lt eq le ne of_int to_unsigned is_nan of_fields of_bits to_bits is_finite absolute negative sign_positive clamp_to minimum_of maximum_of
    root_digits
    whole_root root_round root_of whole_by floor_of round_of total_order component finite_vec add_of sub_of neg_of scale_of min_of max_of
    abs_of max_element
    dot_of checked_dot cross_of length_of normalizable zero_vec dot_tells scaled_to_one over_length try_normalize digits_of scaled_by unit
    valid_side
    valid_box touch_side touches within_side encloses same_side same_box union_of centre corners_box unit_length ray_admitted segment_end
    segment_box
    off_segment facing plane_admitted plane_at plane_cast ray_plane flat triangle_normal has_normal triangle_above triangle_at triangle_of
    ray_triangle
    next_of fold_from without_index side_admitted spacing_admitted field_admitted float_of vertex_at cell_at cell_row cell_column corners_at
    feature_corners scaled_range span_of cell_range run range_cells grid_cells column_range row_range visited_cells both list_all keep
    all_finite
    cell_finite feature_box list_cell grid_listing answer_of cast_listed span_finite height_cast ray_height_field cubic_by cubic_of
    finite_cubic evaluate
    root_tolerance between_ends kept_point kept_points vertex turning_by turning_points extrema middle_of halve_at halve halvings settled
    insert
    sorted points root_between search_on search_from search_list root_of_cubic first_cubic_root levelset-sideAdmitted sides_admitted
    grid_admitted
    last_node last_corner grid_box kept cut slab_from slab started ray_aabb_interval up_to slack floor_cell leaves_node whole_cell
    levelset-cellAt
    cell_on_axis ray_cell_indices node_ahead boundary_distance boundary_by axis_boundary next_cell_boundary top_of clamped_to clamped
    clamped_point
    cell_below
    place_of place_at locate_axis locate_inside locate value_at face_at checked blend lerp checked_difference over lerp_face value_on
    slope_on
    gathered sample_faces sample_cell sample across cell_value is_fraction small_value small_face fair_side fair_spacing point_at along
    hit_with
    hit_along touch_at value_along samples_of samples_along goes_on cell_by cell_cast goes_to walk_step cell_limit walk_from level_set_cast
    ray_level_set
    range count every flat_map insert_by sort_by vector_at box_at lengths_admitted corners_inside corner_at corners_of triangle_box
    triangle_answer candidates shape_within shape_of size_of nodes_of words_of box_numbers folded longest_axis lane_of hull_of centre_of
    extent_of key_of
    stands_before sorted_range left_range right_range extents_finite order_below boxes_below zeroed room_for each_box triangle_fits
    triangles_fit
    boxes_written tree_written built_of build_of times take_place take_places at_leaf child_fits at_branch at_node take_node start ended
    walk_of
    tree_fits walk_fits shape_admitted mesh-roomFor over_walk mesh_cast ray_mesh
known_answers_hold = refl

-- e stands in a table
pub data In : Entry → List Entry → Type 0 where
  here : {e : Entry} {rest : List Entry} → In e (e ∷ rest)
  there : {e d : Entry} {rest : List Entry} → In e rest → In e (d ∷ rest)

each_right : {e : Entry} {entries : List Entry} → In e entries → all_right entries ≡ true → right e ≡ true
unfolding all_right
each_right (here {e} {rest}) h = and_first (right e) (all_right rest) h
each_right (there {e} {d} {rest} i) h = each_right i (and_second (right d) (all_right rest) h)

-- the rule at each entry
pub known_answer : (e : Entry) → In e table → right e ≡ true
known_answer e i = each_right i known_answers_hold
