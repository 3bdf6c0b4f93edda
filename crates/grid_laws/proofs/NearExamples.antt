-- Rays with a near distance at three layers of values, computed, the law of HitDistances at one of them, and a hit past the maximum.
-- Assumes
-- nothing.
use mathlib.Core.Path.{◌≡◌, refl}
use mathlib.Core.Bool.{true}
use mathlib.Core.List.{List, [], ◌∷◌}
use lib.Ieee.{Float, binary64, of_bits, div, neg, add, sub, mul, lt, le, eq, ne, is_nan, of_int, to_unsigned}
use lib.Ieee.Bits.{of_bits-fits}
use Rattle.arithmetic.specs.Basic.{is_finite, absolute, sign_positive, clamp_to, negative}
use Rattle.arithmetic.specs.Extremes.{minimum_of, maximum_of}
use Rattle.arithmetic.specs.Ordering.{total_order}
use Rattle.arithmetic.specs.Root.{root_of, root_round, whole_root, root_digits}
use Rattle.arithmetic.specs.Rounding.{whole_by, floor_of, round_of}
use Rattle.vectors.specs.Numbers.{zeroᶠ, oneᶠ, halfᶠ}
use Rattle.arithmetic.specs.Scaling.{unit, digits_of, scaled_by}
use Rattle.vectors.specs.Vector.{finite_vec, add_of, scale_of, min_of, max_of, dot_of, length_of, normalizable, zero_vec, dot_tells}
use Rattle.vectors.specs.Vector.{scaled_to_one}
use Rattle.vectors.specs.Vector.{over_length, try_normalize}
use Rattle.geometry.specs.Box.{valid_side, valid_box}
use Rattle.geometry.specs.Segment.{unit_length, ray_admitted}
use Rattle.geometry.specs.Spacing.{spacing_admitted}
use Rattle.distance_grid.specs.Grid.{side_admitted, sides_admitted, grid_admitted, last_node, last_corner, grid_box}
use Rattle.grid_steps.specs.Slab.{kept, cut, slab_from, slab, started, ray_aabb_interval}
use Rattle.grid_steps.specs.Cells.{slack, leaves_node, whole_cell, cell_at, cell_on_axis, ray_cell_indices, node_ahead}
use Rattle.grid_steps.specs.Cells.{boundary_distance, boundary_by, axis_boundary, next_cell_boundary}
use Rattle.distance_grid.specs.Places.{up_to, floor_cell, top_of, clamped_to, clamped, clamped_point, cell_below, place_of, place_at}
use Rattle.distance_grid.specs.Places.{locate_axis, locate_inside, locate}
use Rattle.distance_grid.specs.Faces.{value_at, face_at}
use Rattle.distance_grid.specs.Steps.{checked, blend, lerp, checked_difference, over, lerp_face, value_on, slope_on}
use Rattle.distance_grid.specs.Sampling.{gathered, sample_faces, sample_cell, sample}
use Rattle.cubic.specs.Polynomial.{twoᶠ, threeᶠ, cubic_by, cubic_of, finite_cubic, evaluate, root_tolerance}
use Rattle.cubic.specs.Turns.{between_ends, kept_point, kept_points, vertex, turning_by, turning_points, extrema}
use Rattle.cubic.specs.Halving.{middle_of, halve_at, halve, halvings, settled}
use Rattle.cubic.specs.Roots.{insert, sorted, points, root_between, search_on, search_from, search_list, root_of_cubic, first_cubic_root}
use Rattle.level_set.specs.Hits.{point_at, along, hit_with, hit_along, touch_at, value_along, samples_of, samples_along}
use Rattle.level_set.specs.Walk.{goes_on, cell_by, cell_cast, goes_to, walk_step, cell_limit, walk_from, level_set_cast, ray_level_set}
use Rattle.vectors.specs.declared.vec3.Vec3.{Vec3}
use Rattle.geometry.specs.declared.ray.Ray.{Ray}
use Rattle.casts.specs.Answer.{hit, none}
use Rattle.distance_grid.specs.declared.grid.Grid.{Grid}
use Rattle.grid_laws.proofs.HitDistances.{FromNear, ray_level_set_from_near}

abbrev minus_one : Float
minus_one = of_bits binary64 0xbff0_0000_0000_0000

abbrev two_and_half : Float
two_and_half = of_bits binary64 0x4004_0000_0000_0000

-- values 1, -1, 1 in layers at 0, 1, 2, seen from 3: the ray passes the surface at 1.5 and at 2.5
abbrev layers : Grid
layers = record {
  sides = record { x = 2; y = 2; z = 3 };
  origin = record { x = zeroᶠ; y = zeroᶠ; z = zeroᶠ };
  spacing = record { x = oneᶠ; y = oneᶠ; z = oneᶠ };
}

abbrev layered : List Float
layered = oneᶠ ∷ oneᶠ ∷ oneᶠ ∷ oneᶠ ∷ minus_one ∷ minus_one ∷ minus_one ∷ minus_one ∷ oneᶠ ∷ oneᶠ ∷ oneᶠ ∷ oneᶠ ∷ []

abbrev down : Float → Ray
down near = record {
  origin = record { x = halfᶠ; y = halfᶠ; z = threeᶠ };
  direction = record { x = zeroᶠ; y = zeroᶠ; z = minus_one };
  max_distance = of_bits binary64 0x4014_0000_0000_0000;
  near = near;
}

abbrev upward : Vec3
upward = record { x = zeroᶠ; y = zeroᶠ; z = oneᶠ }

abbrev downward : Vec3
downward = record { x = zeroᶠ; y = zeroᶠ; z = minus_one }

-- ---- the walk enters at 1.5 steps of 2^-52 and ends at 1 and 3 steps; both the way between and the sum at its end are ties, rounded up
abbrev halves : Grid
halves = record {
  sides = record { x = 2; y = 2; z = 2 };
  origin = record { x = zeroᶠ; y = zeroᶠ; z = zeroᶠ };
  spacing = record { x = twoᶠ; y = twoᶠ; z = twoᶠ };
}

abbrev falling : List Float
falling = oneᶠ ∷ minus_one ∷ oneᶠ ∷ minus_one ∷ oneᶠ ∷ minus_one ∷ oneᶠ ∷ minus_one ∷ []

abbrev maximum : Float
maximum = of_bits binary64 0x3ff0_0000_0000_0003

abbrev past : Float
past = of_bits binary64 0x3ff0_0000_0000_0004

abbrev across : Ray
across = record {
  origin = record { x = of_bits binary64 0xbcb8_0000_0000_0000; y = halfᶠ; z = halfᶠ };
  direction = record { x = oneᶠ; y = zeroᶠ; z = zeroᶠ };
  max_distance = maximum;
  near = zeroᶠ;
}

-- from 0 on, from between the crossings, from the second one itself, from behind it; and the hit past the maximum
pub near_answers :
    ray_level_set (down zeroᶠ) layers layered
    ∷ ray_level_set (down twoᶠ) layers layered
    ∷ ray_level_set (down two_and_half) layers layered
    ∷ ray_level_set (down threeᶠ) layers layered
    ∷ ray_level_set across halves falling
    ∷ []
    ≡ hit upward (of_bits binary64 0x3ff8_0000_0000_0000)
    ∷ hit downward two_and_half
    ∷ hit downward two_and_half
    ∷ none
    ∷ hit record { x = minus_one; y = zeroᶠ; z = zeroᶠ } past
    ∷ []
unfolding of_bits div neg add sub mul lt le eq ne is_nan of_int to_unsigned is_finite absolute sign_positive clamp_to minimum_of maximum_of
    total_order negative root_of root_round whole_root root_digits whole_by floor_of round_of finite_vec add_of scale_of min_of max_of
    dot_of length_of
    normalizable zero_vec dot_tells scaled_to_one over_length try_normalize digits_of scaled_by unit valid_side valid_box unit_length
    ray_admitted
    side_admitted spacing_admitted sides_admitted grid_admitted last_node last_corner grid_box kept cut slab_from slab started
    ray_aabb_interval up_to
    slack floor_cell leaves_node whole_cell cell_at cell_on_axis ray_cell_indices node_ahead boundary_distance boundary_by axis_boundary
    next_cell_boundary top_of clamped_to clamped clamped_point cell_below place_of place_at locate_axis locate_inside locate value_at
    face_at checked
    blend
    lerp checked_difference over lerp_face value_on slope_on gathered sample_faces sample_cell sample cubic_by cubic_of finite_cubic
    evaluate
    root_tolerance between_ends kept_point kept_points vertex turning_by turning_points extrema insert sorted points middle_of halve_at
    halve
    halvings settled root_between search_on search_from search_list root_of_cubic first_cubic_root point_at along hit_with hit_along
    touch_at value_along
    samples_of samples_along goes_on cell_by cell_cast goes_to walk_step cell_limit walk_from level_set_cast ray_level_set
near_answers = refl

pub past_the_maximum : lt maximum past ≡ true
unfolding of_bits lt
past_the_maximum = refl

-- the law at the second ray: whatever its hit, its distance is a number and not below 2
pub second_from_near : (normal : Vec3) (distance : Float) → ray_level_set (down twoᶠ) layers layered ≡ hit normal distance
    → FromNear (down twoᶠ) distance
second_from_near = ray_level_set_from_near (down twoᶠ) layers layered (of_bits-fits binary64 0x4000_0000_0000_0000)
    (of_bits-fits binary64 0x4014_0000_0000_0000)
