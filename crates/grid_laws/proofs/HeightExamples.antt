-- Casts at height grids computed from the definition alone. Assumes nothing.
use mathlib.Core.Path.{◌≡◌, refl}
use mathlib.Core.Bool.{false}
use mathlib.Core.List.{[], ◌∷◌}
use lib.Ieee.{Float, nan, inf, binary64, span, climb, size, odd, units, round, neg, sum, add, sub, mul, div, lt, eq, le, of_int}
use lib.Ieee.{to_unsigned}
use lib.Ieee.{is_nan, of_fields, of_bits}
use Rattle.arithmetic.specs.Basic.{is_finite, absolute, clamp_to}
use Rattle.arithmetic.specs.Extremes.{minimum_of, maximum_of}
use Rattle.arithmetic.specs.Root.{root_digits, whole_root, root_round, root_of}
use Rattle.arithmetic.specs.Rounding.{whole_by, floor_of}
use Rattle.vectors.specs.Numbers.{zeroᶠ, oneᶠ}
use Rattle.arithmetic.specs.Scaling.{unit, digits_of, scaled_by}
use Rattle.vectors.specs.Vector.{finite_vec, add_of, sub_of, neg_of, scale_of, min_of, max_of, abs_of, max_element, dot_of, checked_dot}
use Rattle.vectors.specs.Vector.{cross_of}
use Rattle.vectors.specs.Vector.{length_of, normalizable, zero_vec, dot_tells, scaled_to_one, over_length, try_normalize}
use Rattle.geometry.specs.Box.{valid_side, valid_box, touch_side, touches, corners_box}
use Rattle.geometry.specs.Segment.{unit_length, ray_admitted, segment_end, segment_box}
use Rattle.geometry.specs.declared.ray.Ray.{Ray}
use Rattle.casts.specs.Answer.{hit, none, refused}
use Rattle.casts.specs.Surface.{off_segment, facing}
use Rattle.triangle_cast.specs.Triangle.{flat, triangle_normal, triangle_above, triangle_at, triangle_of}
use Rattle.nearest_hit.specs.Nearest.{next_of, fold_from, without_index}
use Rattle.height_field.specs.declared.field.Field.{Field}
use Rattle.geometry.specs.Spacing.{spacing_admitted}
use Rattle.height_field.specs.Grid.{side_admitted, field_admitted, float_of, vertex_at, cell_at, cell_row, cell_column, corners_at}
use Rattle.height_field.specs.Grid.{feature_corners}
use Rattle.height_field.specs.Cells.{span_of, scaled_range, cell_range, run, range_cells, grid_cells, column_range, row_range}
use Rattle.height_field.specs.Cells.{visited_cells}
use Rattle.height_field.specs.Listing.{both, list_all, all_finite, cell_finite, feature_box, list_cell, grid_listing}
use Rattle.lists.specs.Lists.{keep}
use Rattle.height_field.specs.Cast.{answer_of, cast_listed, span_finite, height_cast, ray_height_field}

-- numbers that are not named elsewhere: 1/4, 3/4, 3/2, 2 and 2^532, whose square is not finite
abbrev quarter : Float
quarter = of_bits binary64 0x3fd0_0000_0000_0000

abbrev three_quarters : Float
three_quarters = of_bits binary64 0x3fe8_0000_0000_0000

abbrev one_and_half : Float
one_and_half = of_bits binary64 0x3ff8_0000_0000_0000

abbrev two : Float
two = of_bits binary64 0x4000_0000_0000_0000

abbrev vast : Float
vast = of_bits binary64 0x6130_0000_0000_0000

-- a ray straight down from height 1 at x and 1/4, with maximum 2
abbrev down : Float → Ray
down x = record {
  origin = record { x = x; y = quarter; z = oneᶠ };
  direction = record { x = zeroᶠ; y = zeroᶠ; z = of_bits binary64 0xbff0_0000_0000_0000 };
  max_distance = two;
  near = zeroᶠ;
}

abbrev grid : Field
grid = record { rows = 2; columns = 2; spacing_x = oneᶠ; spacing_y = oneᶠ }

-- A steep grid, rising by 2^532 from row 0 to row 1: the cross of a triangle's edges is infinite, its determinant is not. The ray comes
-- down between the first cell and the second, so that both are visited.
abbrev steep : Field
steep = record { rows = 2; columns = 3; spacing_x = vast; spacing_y = of_bits binary64 0x4a50_0000_0000_0000 }

abbrev between : Ray
between = record {
  origin = record { x = vast; y = of_bits binary64 0x3370_0000_0000_0000; z = of_bits binary64 0x4a60_0000_0000_0000 };
  direction = record { x = zeroᶠ; y = zeroᶠ; z = of_bits binary64 0xbff0_0000_0000_0000 };
  max_distance = of_bits binary64 0x4a70_0000_0000_0000;
  near = zeroᶠ;
}

-- K12 of document 01: a hit at 1. Outside the grid no height is looked at. A triangle with no normal is 7, and 6 where a later cell has a
-- vertex that is not finite.
pub answers_agree :
    ray_height_field (down three_quarters) grid (zeroᶠ ∷ zeroᶠ ∷ zeroᶠ ∷ zeroᶠ ∷ [])
    ∷ ray_height_field (down one_and_half) grid (nan ∷ nan ∷ nan ∷ nan ∷ [])
    ∷ ray_height_field between steep (zeroᶠ ∷ zeroᶠ ∷ zeroᶠ ∷ vast ∷ vast ∷ vast ∷ [])
    ∷ ray_height_field between steep (zeroᶠ ∷ zeroᶠ ∷ zeroᶠ ∷ vast ∷ vast ∷ inf false ∷ [])
    ∷ []
    ≡ hit (record { x = zeroᶠ; y = zeroᶠ; z = oneᶠ }) oneᶠ ∷ none ∷ refused 7 ∷ refused 6 ∷ []
unfolding span climb size odd units round neg sum add sub mul div lt eq le of_int to_unsigned is_nan of_fields of_bits is_finite absolute
    clamp_to
    minimum_of maximum_of root_digits whole_root root_round root_of whole_by floor_of finite_vec add_of sub_of neg_of scale_of min_of max_of
    abs_of
    max_element dot_of checked_dot cross_of length_of normalizable zero_vec dot_tells scaled_to_one over_length try_normalize digits_of
    scaled_by unit
    valid_side valid_box touch_side touches corners_box unit_length ray_admitted segment_end segment_box off_segment facing flat
    triangle_normal
    triangle_above triangle_at triangle_of next_of fold_from without_index side_admitted spacing_admitted field_admitted float_of vertex_at
    cell_at
    cell_row cell_column corners_at feature_corners span_of scaled_range cell_range run range_cells grid_cells column_range row_range
    visited_cells both
    list_all keep all_finite cell_finite feature_box list_cell grid_listing answer_of cast_listed span_finite height_cast ray_height_field
answers_agree = refl
