-- A ray along the grid's face, whose samples lie a hair outside, and a last node that is itself refused: computed. Assumes nothing.
use mathlib.Core.Path.{◌≡◌, refl}
use lib.Ieee.{Float, binary64, of_bits, to_bits, div, neg, add, sub, mul, lt, le, eq, ne, is_nan, of_int, to_unsigned}
use Rattle.arithmetic.specs.Basic.{is_finite, absolute, sign_positive, clamp_to, negative}
use Rattle.arithmetic.specs.Below.{just_below}
use Rattle.arithmetic.specs.Extremes.{minimum_of, maximum_of}
use Rattle.arithmetic.specs.Ordering.{total_order}
use Rattle.arithmetic.specs.Root.{root_of, root_round, whole_root, root_digits}
use Rattle.arithmetic.specs.Rounding.{whole_by, floor_of, round_of}
use Rattle.vectors.specs.Numbers.{zeroᶠ, oneᶠ, halfᶠ}
use Rattle.arithmetic.specs.Scaling.{unit, digits_of, scaled_by}
use Rattle.vectors.specs.Vector.{finite_vec, add_of, scale_of, min_of, max_of, dot_of, length_of, normalizable, zero_vec, dot_tells}
use Rattle.vectors.specs.Vector.{scaled_to_one}
use Rattle.vectors.specs.Vector.{over_length, try_normalize}
use Rattle.geometry.specs.Box.{valid_side, valid_box}
use Rattle.geometry.specs.Segment.{unit_length, ray_admitted}
use Rattle.geometry.specs.declared.ray.Ray.{Ray}
use Rattle.casts.specs.Answer.{hit, refused, out_of_bounds}
use Rattle.geometry.specs.Spacing.{spacing_admitted}
use Rattle.distance_grid.specs.Grid.{side_admitted, sides_admitted, grid_admitted, last_node, last_corner, grid_box}
use Rattle.grid_steps.specs.Slab.{kept, cut, slab_from, slab, started, ray_aabb_interval}
use Rattle.grid_steps.specs.Cells.{slack, leaves_node, whole_cell, cell_at, cell_on_axis, ray_cell_indices, node_ahead}
use Rattle.grid_steps.specs.Cells.{boundary_distance, boundary_by, axis_boundary, next_cell_boundary}
use Rattle.distance_grid.specs.Places.{up_to, floor_cell, top_of, clamped_to, clamped, clamped_point, cell_below, place_of, place_at}
use Rattle.distance_grid.specs.Places.{locate_axis, locate_inside, locate}
use Rattle.distance_grid.specs.Faces.{value_at, face_at}
use Rattle.distance_grid.specs.Steps.{checked, blend, lerp, checked_difference, over, lerp_face, value_on, slope_on}
use Rattle.distance_grid.specs.Sampling.{gathered, sample_faces, sample_cell, sample}
use Rattle.cubic.specs.Polynomial.{twoᶠ, cubic_by, cubic_of, finite_cubic, evaluate, root_tolerance}
use Rattle.cubic.specs.Turns.{between_ends, kept_point, kept_points, vertex, turning_by, turning_points, extrema}
use Rattle.cubic.specs.Halving.{middle_of, halve_at, halve, halvings, settled}
use Rattle.cubic.specs.Roots.{insert, sorted, points, root_between, search_on, search_from, search_list, root_of_cubic, first_cubic_root}
use Rattle.level_set.specs.Hits.{point_at, along, hit_with, hit_along, touch_at, value_along, samples_of, samples_along}
use Rattle.level_set.specs.Walk.{goes_on, cell_by, cell_cast, goes_to, walk_step, cell_limit, walk_from, level_set_cast, ray_level_set}
use Rattle.grid_laws.specs.Refusing.{outside_side, outside, locate_refusing, sample_refusing, hit_by, touch_by, value_by, samples_by}
use Rattle.grid_laws.specs.Refusing.{cell_cast_by, goes_to_by, walk_step_by, walk_by, cast_by, ray_level_set_refusing}
use Rattle.distance_grid.specs.Places.{NoPlace}
use Rattle.grid_laws.proofs.DistanceExamples.{grid₁₃, values₁₃}

-- down along the face x = 0, leaning out of it by 2 ^ -1074
abbrev grazing : Ray
grazing = record {
  origin = record { x = zeroᶠ; y = halfᶠ; z = twoᶠ };
  direction = record { x = of_bits binary64 0x8000_0000_0000_0001; y = zeroᶠ; z = of_bits binary64 0xbff0_0000_0000_0000 };
  max_distance = of_bits binary64 0x4014_0000_0000_0000;
  near = zeroᶠ;
}

pub grazing_is_hit : ray_level_set grazing grid₁₃ values₁₃
    ≡ hit record { x = zeroᶠ; y = zeroᶠ; z = oneᶠ } (of_bits binary64 0x3ff8_0000_0000_0000)
unfolding of_bits div neg add sub mul lt le eq ne is_nan of_int to_unsigned is_finite absolute sign_positive clamp_to minimum_of maximum_of
    total_order negative root_of root_round whole_root root_digits whole_by floor_of round_of finite_vec add_of scale_of min_of max_of
    dot_of length_of
    normalizable zero_vec dot_tells scaled_to_one over_length try_normalize digits_of scaled_by unit valid_side valid_box unit_length
    ray_admitted
    side_admitted spacing_admitted sides_admitted grid_admitted last_node last_corner grid_box kept cut slab_from slab started
    ray_aabb_interval up_to
    slack floor_cell leaves_node whole_cell cell_at cell_on_axis ray_cell_indices node_ahead boundary_distance boundary_by axis_boundary
    next_cell_boundary top_of clamped_to clamped clamped_point cell_below place_of place_at locate_axis locate_inside locate value_at
    face_at checked
    blend
    lerp checked_difference over lerp_face value_on slope_on gathered sample_faces sample_cell sample cubic_by cubic_of finite_cubic
    evaluate
    root_tolerance between_ends kept_point kept_points vertex turning_by turning_points extrema insert sorted points middle_of halve_at
    halve
    halvings settled root_between search_on search_from search_list root_of_cubic first_cubic_root point_at along hit_with hit_along
    touch_at value_along
    samples_of samples_along goes_on cell_by cell_cast goes_to walk_step cell_limit walk_from level_set_cast ray_level_set
grazing_is_hit = refl

pub grazing_was_five : ray_level_set_refusing grazing grid₁₃ values₁₃ ≡ refused out_of_bounds
unfolding of_bits div neg add sub mul lt le eq ne is_nan of_int to_unsigned is_finite absolute sign_positive clamp_to minimum_of maximum_of
    total_order negative root_of root_round whole_root root_digits whole_by floor_of round_of finite_vec add_of scale_of min_of max_of
    dot_of length_of
    normalizable zero_vec dot_tells scaled_to_one over_length try_normalize digits_of scaled_by unit valid_side valid_box unit_length
    ray_admitted
    side_admitted spacing_admitted sides_admitted grid_admitted last_node last_corner grid_box kept cut slab_from slab started
    ray_aabb_interval up_to
    slack floor_cell leaves_node whole_cell cell_at cell_on_axis ray_cell_indices node_ahead boundary_distance boundary_by axis_boundary
    next_cell_boundary top_of clamped_to clamped clamped_point cell_below place_of place_at locate_axis locate_inside value_at face_at
    checked blend
    lerp
    checked_difference over lerp_face value_on slope_on gathered sample_faces sample_cell sample cubic_by cubic_of finite_cubic evaluate
    root_tolerance between_ends kept_point kept_points vertex turning_by turning_points extrema insert sorted points middle_of halve_at
    halve
    halvings settled root_between search_on search_from search_list root_of_cubic first_cubic_root point_at along outside_side outside
    locate_refusing
    sample_refusing hit_by touch_by value_by samples_by cell_cast_by goes_to_by walk_step_by walk_by cast_by ray_level_set_refusing hit_with
    hit_along touch_at
    value_along samples_of samples_along goes_on cell_by cell_cast goes_to walk_step cell_limit walk_from level_set_cast ray_level_set
grazing_was_five = refl

-- ---- two nodes, the largest float apart, from -3 * 2 ^ 970: the way to the last node overflows
abbrev largest : Float
largest = of_bits binary64 0x7fef_ffff_ffff_ffff

abbrev start : Float
start = of_bits binary64 0xfca8_0000_0000_0000

pub last_is_refused : locate_axis (last_node start largest 2) start largest 2 ≡ NoPlace
unfolding of_bits add sub mul div neg is_finite of_int last_node locate_axis place_at
last_is_refused = refl

-- the float just below the last node, which is 0x7fef_ffff_ffff_fffe
pub moved_below_last : clamped largest start largest 2 ≡ of_bits binary64 0x7fef_ffff_ffff_fffd
unfolding of_bits to_bits add sub mul div neg lt is_finite absolute of_int last_node top_of clamped_to clamped just_below
moved_below_last = refl
