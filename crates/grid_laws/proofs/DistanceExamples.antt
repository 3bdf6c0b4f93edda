-- Document 01's K13, computed over the definition, and the two thirds of a cell as quotients. Assumes nothing.
use mathlib.Core.Path.{◌≡◌, refl}
use mathlib.Core.List.{List, [], ◌∷◌}
use lib.Ieee.{Float, binary64, of_bits, div, neg, add, sub, mul, lt, le, eq, ne, is_nan, of_int, to_unsigned}
use Rattle.arithmetic.specs.Basic.{is_finite, absolute, sign_positive, clamp_to, negative}
use Rattle.arithmetic.specs.Extremes.{minimum_of, maximum_of}
use Rattle.arithmetic.specs.Ordering.{total_order}
use Rattle.arithmetic.specs.Root.{root_of, root_round, whole_root, root_digits}
use Rattle.arithmetic.specs.Rounding.{whole_by, floor_of, round_of}
use Rattle.vectors.specs.Numbers.{◌/ᶠ◌, zeroᶠ, oneᶠ, halfᶠ}
use Rattle.arithmetic.specs.Scaling.{unit, digits_of, scaled_by}
use Rattle.vectors.specs.Vector.{finite_vec, add_of, scale_of, min_of, max_of, dot_of, length_of, normalizable, zero_vec, dot_tells}
use Rattle.vectors.specs.Vector.{scaled_to_one}
use Rattle.vectors.specs.Vector.{over_length, try_normalize}
use Rattle.geometry.specs.Box.{valid_side, valid_box}
use Rattle.geometry.specs.Segment.{unit_length, ray_admitted}
use Rattle.geometry.specs.declared.ray.Ray.{Ray}
use Rattle.casts.specs.Answer.{hit, refused, not_convergent}
use Rattle.geometry.specs.Spacing.{spacing_admitted}
use Rattle.distance_grid.specs.Grid.{side_admitted, sides_admitted, grid_admitted, last_node, last_corner, grid_box}
use Rattle.grid_steps.specs.Slab.{kept, cut, slab_from, slab, started, ray_aabb_interval}
use Rattle.grid_steps.specs.Cells.{slack, leaves_node, whole_cell, cell_at, cell_on_axis, ray_cell_indices, node_ahead}
use Rattle.grid_steps.specs.Cells.{boundary_distance, boundary_by, axis_boundary, next_cell_boundary}
use Rattle.distance_grid.specs.Places.{up_to, floor_cell, top_of, clamped_to, clamped, clamped_point, cell_below, place_of, place_at}
use Rattle.distance_grid.specs.Places.{locate_axis, locate_inside, locate}
use Rattle.distance_grid.specs.Faces.{value_at, face_at}
use Rattle.distance_grid.specs.Steps.{checked, blend, lerp, checked_difference, over, lerp_face, value_on, slope_on}
use Rattle.distance_grid.specs.Sampling.{gathered, sample_faces, sample_cell, sample}
use Rattle.cubic.specs.Polynomial.{twoᶠ, threeᶠ, cubic_by, cubic_of, finite_cubic, evaluate, root_tolerance}
use Rattle.cubic.specs.Turns.{between_ends, kept_point, kept_points, vertex, turning_by, turning_points, extrema}
use Rattle.cubic.specs.Halving.{middle_of, halve_at, halve, halvings, settled}
use Rattle.cubic.specs.Roots.{insert, sorted, points, root_between, search_on, search_from, search_list, root_of_cubic, first_cubic_root}
use Rattle.level_set.specs.Hits.{third, two_thirds, point_at, along, hit_with, hit_along, touch_at, value_along, samples_of, samples_along}
use Rattle.level_set.specs.Walk.{goes_on, cell_by, cell_cast, goes_to, walk_step, cell_limit, walk_from, level_set_cast, ray_level_set}
use Rattle.distance_grid.specs.declared.grid.Grid.{Grid}

pub third_is : third ≡ oneᶠ /ᶠ threeᶠ
unfolding of_bits div
third_is = refl

pub two_thirds_is : two_thirds ≡ twoᶠ /ᶠ threeᶠ
unfolding of_bits div
two_thirds_is = refl

abbrev five : Float
five = of_bits binary64 0x4014_0000_0000_0000

abbrev pub ray₁₃ : Ray
ray₁₃ = record {
  origin = record { x = halfᶠ; y = halfᶠ; z = twoᶠ };
  direction = record { x = zeroᶠ; y = zeroᶠ; z = of_bits binary64 0xbff0_0000_0000_0000 };
  max_distance = five;
  near = zeroᶠ;
}

abbrev pub grid₁₃ : Grid
grid₁₃ = record {
  sides = record { x = 2; y = 2; z = 2 };
  origin = record { x = zeroᶠ; y = zeroᶠ; z = zeroᶠ };
  spacing = record { x = oneᶠ; y = oneᶠ; z = oneᶠ };
}

abbrev zeros : List Float
zeros = zeroᶠ ∷ zeroᶠ ∷ zeroᶠ ∷ zeroᶠ ∷ zeroᶠ ∷ zeroᶠ ∷ zeroᶠ ∷ zeroᶠ ∷ []

-- "K13 distances 2 by 2 by 2 of zero, grid origin 0, spacing 1, from (0.5,0.5,2), maximum 5: 8."
pub zeros_have_no_gradient : ray_level_set ray₁₃ grid₁₃ zeros ≡ refused not_convergent
unfolding of_bits div neg add sub mul lt le eq ne is_nan of_int to_unsigned is_finite absolute sign_positive clamp_to minimum_of maximum_of
    total_order negative root_of root_round whole_root root_digits whole_by floor_of round_of finite_vec add_of scale_of min_of max_of
    dot_of length_of
    normalizable zero_vec dot_tells scaled_to_one over_length try_normalize digits_of scaled_by unit valid_side valid_box unit_length
    ray_admitted
    side_admitted spacing_admitted sides_admitted grid_admitted last_node last_corner grid_box kept cut slab_from slab started
    ray_aabb_interval up_to
    slack floor_cell leaves_node whole_cell cell_at cell_on_axis ray_cell_indices node_ahead boundary_distance boundary_by axis_boundary
    next_cell_boundary top_of clamped_to clamped clamped_point cell_below place_of place_at locate_axis locate_inside locate value_at
    face_at checked
    blend
    lerp checked_difference over lerp_face value_on slope_on gathered sample_faces sample_cell sample cubic_by cubic_of finite_cubic
    evaluate
    root_tolerance between_ends kept_point kept_points vertex turning_by turning_points extrema insert sorted points middle_of halve_at
    halve
    halvings settled root_between search_on search_from search_list root_of_cubic first_cubic_root point_at along hit_with hit_along
    touch_at value_along
    samples_of samples_along goes_on cell_by cell_cast goes_to walk_step cell_limit walk_from level_set_cast ray_level_set
zeros_have_no_gradient = refl

-- distances to the plane z = 1/2: a hit from above at 3/2, the normal along z
abbrev pub values₁₃ : List Float
values₁₃ =
    of_bits binary64 0xbfe0_0000_0000_0000 ∷ of_bits binary64 0xbfe0_0000_0000_0000 ∷ of_bits binary64 0xbfe0_0000_0000_0000
    ∷ of_bits binary64 0xbfe0_0000_0000_0000
    ∷ halfᶠ ∷ halfᶠ ∷ halfᶠ ∷ halfᶠ ∷ []

pub plane_is_hit : ray_level_set ray₁₃ grid₁₃ values₁₃ ≡ hit record { x = zeroᶠ; y = zeroᶠ; z = oneᶠ }
    (of_bits binary64 0x3ff8_0000_0000_0000)
unfolding of_bits div neg add sub mul lt le eq ne is_nan of_int to_unsigned is_finite absolute sign_positive clamp_to minimum_of maximum_of
    total_order negative root_of root_round whole_root root_digits whole_by floor_of round_of finite_vec add_of scale_of min_of max_of
    dot_of length_of
    normalizable zero_vec dot_tells scaled_to_one over_length try_normalize digits_of scaled_by unit valid_side valid_box unit_length
    ray_admitted
    side_admitted spacing_admitted sides_admitted grid_admitted last_node last_corner grid_box kept cut slab_from slab started
    ray_aabb_interval up_to
    slack floor_cell leaves_node whole_cell cell_at cell_on_axis ray_cell_indices node_ahead boundary_distance boundary_by axis_boundary
    next_cell_boundary top_of clamped_to clamped clamped_point cell_below place_of place_at locate_axis locate_inside locate value_at
    face_at checked
    blend
    lerp checked_difference over lerp_face value_on slope_on gathered sample_faces sample_cell sample cubic_by cubic_of finite_cubic
    evaluate
    root_tolerance between_ends kept_point kept_points vertex turning_by turning_points extrema insert sorted points middle_of halve_at
    halve
    halvings settled root_between search_on search_from search_list root_of_cubic first_cubic_root point_at along hit_with hit_along
    touch_at value_along
    samples_of samples_along goes_on cell_by cell_cast goes_to walk_step cell_limit walk_from level_set_cast ray_level_set
plane_is_hit = refl
