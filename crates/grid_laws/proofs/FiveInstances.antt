-- M-103's theorems at computed casts: 5 at a grid whose box is not valid, and a cast that M-103 left as it was. Assumes nothing.
use mathlib.Core.Path.{◌≡◌, refl}
use mathlib.Core.List.{List, [], ◌∷◌}
use lib.Ieee.{Float, binary64, of_bits, div, neg, add, sub, mul, lt, le, eq, ne, is_nan, of_int, to_unsigned}
use Rattle.arithmetic.specs.Basic.{is_finite, absolute, sign_positive, clamp_to, negative}
use Rattle.arithmetic.specs.Extremes.{minimum_of, maximum_of}
use Rattle.arithmetic.specs.Ordering.{total_order}
use Rattle.arithmetic.specs.Root.{root_of, root_round, whole_root, root_digits}
use Rattle.arithmetic.specs.Rounding.{whole_by, floor_of, round_of}
use Rattle.vectors.specs.Numbers.{zeroᶠ, oneᶠ}
use Rattle.arithmetic.specs.Scaling.{unit, digits_of, scaled_by}
use Rattle.vectors.specs.Vector.{finite_vec, add_of, scale_of, min_of, max_of, dot_of, length_of, normalizable, zero_vec, dot_tells}
use Rattle.vectors.specs.Vector.{scaled_to_one}
use Rattle.vectors.specs.Vector.{over_length, try_normalize}
use Rattle.geometry.specs.Box.{valid_side, valid_box}
use Rattle.geometry.specs.Segment.{unit_length, ray_admitted}
use Rattle.casts.specs.Answer.{hit, refused, out_of_bounds}
use Rattle.geometry.specs.Spacing.{spacing_admitted}
use Rattle.distance_grid.specs.Grid.{side_admitted, sides_admitted, grid_admitted, last_node, last_corner, grid_box}
use Rattle.grid_steps.specs.Slab.{kept, cut, slab_from, slab, started, ray_aabb_interval}
use Rattle.grid_steps.specs.Cells.{slack, leaves_node, whole_cell, cell_at, cell_on_axis, ray_cell_indices, node_ahead}
use Rattle.grid_steps.specs.Cells.{boundary_distance, boundary_by, axis_boundary, next_cell_boundary}
use Rattle.distance_grid.specs.Places.{up_to, floor_cell, top_of, clamped_to, clamped, clamped_point, cell_below, place_of, place_at}
use Rattle.distance_grid.specs.Places.{locate_axis, locate_inside}
use Rattle.distance_grid.specs.Faces.{value_at, face_at}
use Rattle.distance_grid.specs.Steps.{checked, blend, lerp, checked_difference, over, lerp_face, value_on, slope_on}
use Rattle.distance_grid.specs.Sampling.{gathered, sample_faces, sample_cell, sample}
use Rattle.cubic.specs.Polynomial.{cubic_by, cubic_of, finite_cubic, evaluate, root_tolerance}
use Rattle.cubic.specs.Turns.{between_ends, kept_point, kept_points, vertex, turning_by, turning_points, extrema}
use Rattle.cubic.specs.Halving.{middle_of, halve_at, halve, halvings, settled}
use Rattle.cubic.specs.Roots.{insert, sorted, points, root_between, search_on, search_from, search_list, root_of_cubic, first_cubic_root}
use Rattle.level_set.specs.Hits.{point_at, along, hit_with, hit_along, touch_at, value_along, samples_of, samples_along}
use Rattle.level_set.specs.Walk.{goes_on, cell_by, cell_cast, goes_to, walk_step, cell_limit, walk_from, level_set_cast, ray_level_set}
use Rattle.distance_grid.specs.declared.grid.Grid.{Grid}
use Rattle.grid_laws.specs.Refusing.{outside_side, outside, locate_refusing, sample_refusing, hit_by, touch_by, value_by, samples_by}
use Rattle.grid_laws.specs.Refusing.{cell_cast_by, goes_to_by, walk_step_by, walk_by, cast_by, ray_level_set_refusing}
use Rattle.casts.proofs.AnswerLists.{hit_not_refused}
use Rattle.vectors.specs.declared.vec3.Vec3.{Vec3}
use Rattle.grid_laws.proofs.DistanceExamples.{ray₁₃, grid₁₃, values₁₃}
use Rattle.grid_laws.proofs.FiveLaws.{FiveByBox, five_where_box_invalid}
use Rattle.grid_laws.proofs.RefusingLaws.{same_unless_five}

-- three layers, the largest float apart: the last one's place overflows
abbrev endless : Grid
endless = record {
  sides = record { x = 2; y = 2; z = 3 };
  origin = record { x = zeroᶠ; y = zeroᶠ; z = zeroᶠ };
  spacing = record { x = oneᶠ; y = oneᶠ; z = of_bits binary64 0x7fef_ffff_ffff_ffff };
}

abbrev twelve : List Float
twelve = zeroᶠ ∷ zeroᶠ ∷ zeroᶠ ∷ zeroᶠ ∷ zeroᶠ ∷ zeroᶠ ∷ zeroᶠ ∷ zeroᶠ ∷ zeroᶠ ∷ zeroᶠ ∷ zeroᶠ ∷ zeroᶠ ∷ []

endless_box : FiveByBox ray₁₃ endless twelve
unfolding of_bits div neg add sub mul lt le eq ne is_nan of_int to_unsigned is_finite absolute sign_positive clamp_to minimum_of maximum_of
    total_order negative root_of root_round whole_root root_digits whole_by floor_of round_of finite_vec add_of scale_of min_of max_of
    dot_of length_of
    normalizable zero_vec dot_tells scaled_to_one over_length try_normalize digits_of scaled_by unit valid_side valid_box unit_length
    ray_admitted
    side_admitted spacing_admitted sides_admitted grid_admitted last_node last_corner grid_box kept cut slab_from slab started
    ray_aabb_interval up_to
    slack floor_cell leaves_node whole_cell cell_at cell_on_axis ray_cell_indices node_ahead boundary_distance boundary_by axis_boundary
    next_cell_boundary top_of clamped_to clamped clamped_point cell_below place_of place_at locate_axis locate_inside value_at face_at
    checked blend
    lerp
    checked_difference over lerp_face value_on slope_on gathered sample_faces sample_cell sample cubic_by cubic_of finite_cubic evaluate
    root_tolerance between_ends kept_point kept_points vertex turning_by turning_points extrema insert sorted points middle_of halve_at
    halve
    halvings settled root_between search_on search_from search_list root_of_cubic first_cubic_root point_at along outside_side outside
    locate_refusing
    sample_refusing hit_by touch_by value_by samples_by cell_cast_by goes_to_by walk_step_by walk_by cast_by ray_level_set_refusing hit_with
    hit_along touch_at
    value_along samples_of samples_along goes_on cell_by cell_cast goes_to walk_step cell_limit walk_from level_set_cast ray_level_set
endless_box = record { ray = refl; grid = refl; box = refl }

pub endless_is_five : ray_level_set ray₁₃ endless twelve ≡ refused out_of_bounds
endless_is_five = five_where_box_invalid ray₁₃ endless twelve endless_box

-- the plane z = 1/2, hit at 3/2 as before
abbrev upward : Vec3
upward = record { x = zeroᶠ; y = zeroᶠ; z = oneᶠ }

abbrev there : Float
there = of_bits binary64 0x3ff8_0000_0000_0000

was_hit : ray_level_set_refusing ray₁₃ grid₁₃ values₁₃ ≡ hit upward there
unfolding of_bits div neg add sub mul lt le eq ne is_nan of_int to_unsigned is_finite absolute sign_positive clamp_to minimum_of maximum_of
    total_order negative root_of root_round whole_root root_digits whole_by floor_of round_of finite_vec add_of scale_of min_of max_of
    dot_of length_of
    normalizable zero_vec dot_tells scaled_to_one over_length try_normalize digits_of scaled_by unit valid_side valid_box unit_length
    ray_admitted
    side_admitted spacing_admitted sides_admitted grid_admitted last_node last_corner grid_box kept cut slab_from slab started
    ray_aabb_interval up_to
    slack floor_cell leaves_node whole_cell cell_at cell_on_axis ray_cell_indices node_ahead boundary_distance boundary_by axis_boundary
    next_cell_boundary top_of clamped_to clamped clamped_point cell_below place_of place_at locate_axis locate_inside value_at face_at
    checked blend
    lerp
    checked_difference over lerp_face value_on slope_on gathered sample_faces sample_cell sample cubic_by cubic_of finite_cubic evaluate
    root_tolerance between_ends kept_point kept_points vertex turning_by turning_points extrema insert sorted points middle_of halve_at
    halve
    halvings settled root_between search_on search_from search_list root_of_cubic first_cubic_root point_at along outside_side outside
    locate_refusing
    sample_refusing hit_by touch_by value_by samples_by cell_cast_by goes_to_by walk_step_by walk_by cast_by ray_level_set_refusing hit_with
    hit_along touch_at
    value_along samples_of samples_along goes_on cell_by cell_cast goes_to walk_step cell_limit walk_from level_set_cast ray_level_set
was_hit = refl

pub plane_as_before : ray_level_set ray₁₃ grid₁₃ values₁₃ ≡ ray_level_set_refusing ray₁₃ grid₁₃ values₁₃
plane_as_before =
    same_unless_five ray₁₃ grid₁₃ values₁₃
    (λ five. hit_not_refused (ray_level_set_refusing ray₁₃ grid₁₃ values₁₃) upward there out_of_bounds was_hit five)
