-- Casts at ranges of heights computed from the definition alone. Assumes nothing.
use mathlib.Core.Path.{◌≡◌, refl}
use mathlib.Core.Bool.{false, true}
use mathlib.Core.List.{List, [], ◌∷◌}
use lib.Ieee.{Float, nan, inf, binary64, span, climb, size, odd, units, round, neg, sum, add, sub, mul, div, lt, eq, le, of_int}
use lib.Ieee.{to_unsigned, is_nan, of_fields, of_bits}
use Rattle.arithmetic.specs.Basic.{is_finite, absolute, clamp_to}
use Rattle.arithmetic.specs.Extremes.{minimum_of, maximum_of}
use Rattle.arithmetic.specs.Root.{root_digits, whole_root, root_round, root_of}
use Rattle.arithmetic.specs.Rounding.{whole_by, floor_of}
use Rattle.vectors.specs.Numbers.{zeroᶠ, oneᶠ}
use Rattle.vectors.specs.Vector.{finite_vec, add_of, sub_of, scale_of, min_of, max_of, dot_of, length_of}
use Rattle.geometry.specs.Box.{valid_side, valid_box, touch_side, touches, corners_box}
use Rattle.geometry.specs.Segment.{unit_length, ray_admitted, segment_end, segment_box}
use Rattle.geometry.specs.declared.ray.Ray.{Ray}
use Rattle.height_field.specs.declared.field.Field.{Field}
use Rattle.geometry.specs.Spacing.{spacing_admitted}
use Rattle.height_field.specs.Grid.{side_admitted, field_admitted, float_of, vertex_at, cell_at, cell_row, cell_column, corners_at}
use Rattle.height_field.specs.Grid.{feature_corners}
use Rattle.height_field.specs.Cells.{span_of, scaled_range, cell_range, run, range_cells, grid_cells, column_range, row_range}
use Rattle.height_field.specs.Cells.{visited_cells}
use Rattle.height_field.specs.Listing.{both, list_all, all_finite, cell_finite, feature_box, list_cell, grid_listing}
use Rattle.lists.specs.Lists.{keep, every}
use Rattle.height_field.specs.Cast.{span_finite}
use Rattle.height_ranges.specs.Answer.{clear, possible, refused}
use Rattle.height_ranges.specs.Ranges.{ranges_admitted, node_at, cell_nodes, nodes_of, node_in_order, nearest_heights}
use Rattle.height_ranges.specs.RangesCast.{answer_listed, visited_answer, ranges_cast, ray_height_ranges}

abbrev pub quarter : Float
quarter = of_bits binary64 0x3fd0_0000_0000_0000

abbrev pub two : Float
two = of_bits binary64 0x4000_0000_0000_0000

-- a ray straight down at x and 1/4, from height 1 to 3/4
abbrev pub down : Float → Ray
down x = record {
  origin = record { x = x; y = quarter; z = oneᶠ };
  direction = record { x = zeroᶠ; y = zeroᶠ; z = of_bits binary64 0xbff0_0000_0000_0000 };
  max_distance = quarter;
  near = zeroᶠ;
}

-- two rows of three columns with spacing 1: cells 0 and 1
abbrev pub grid : Field
grid = record { rows = 2; columns = 3; spacing_x = oneᶠ; spacing_y = oneᶠ }

-- the same height at every node, and one that differs at the last
abbrev pub level : Float → List Float
level h = h ∷ h ∷ h ∷ h ∷ h ∷ h ∷ []

abbrev ending : Float → Float → List Float
ending h last = h ∷ h ∷ h ∷ h ∷ h ∷ last ∷ []

-- From 0 to 2 the segment lies strictly within: neither the low nor the high grid touches, and a grid between does. Up to 1/4 it is clear.
-- A range that is not visited is not looked at; one that is, is 9 if it is NaN, infinite or out of order. Equal ends are in order, +0 to
-- -0 too.
-- The second cell is the first that touches, where the first cell's ranges lie below. Outside the grid all is clear.
pub answers_agree :
    ray_height_ranges (down quarter) grid (level zeroᶠ) (level two)
    ∷ ray_height_ranges (down quarter) grid (level zeroᶠ) (level quarter)
    ∷ ray_height_ranges (down quarter) grid (ending zeroᶠ nan) (level quarter)
    ∷ ray_height_ranges (down oneᶠ) grid (ending zeroᶠ nan) (level quarter)
    ∷ ray_height_ranges (down oneᶠ) grid (ending zeroᶠ (inf true)) (ending quarter (inf false))
    ∷ ray_height_ranges (down oneᶠ) grid (ending zeroᶠ oneᶠ) (level quarter)
    ∷ ray_height_ranges (down oneᶠ) grid (level zeroᶠ) (level (neg zeroᶠ))
    ∷ ray_height_ranges (down oneᶠ) grid (level zeroᶠ) (ending quarter two)
    ∷ ray_height_ranges (down (neg oneᶠ)) grid (level nan) (level nan)
    ∷ []
    ≡ possible 0 ∷ clear ∷ clear ∷ refused 9 ∷ refused 9 ∷ refused 9 ∷ clear ∷ possible 1 ∷ clear ∷ []
unfolding span climb size odd units round neg sum add sub mul div lt eq le of_int to_unsigned is_nan of_fields of_bits is_finite absolute
    clamp_to
    minimum_of maximum_of root_digits whole_root root_round root_of whole_by floor_of finite_vec add_of sub_of scale_of min_of max_of dot_of
    length_of
    valid_side valid_box touch_side touches corners_box unit_length ray_admitted segment_end segment_box side_admitted spacing_admitted
    field_admitted
    float_of vertex_at cell_at cell_row cell_column corners_at feature_corners span_of scaled_range cell_range run range_cells grid_cells
    column_range
    row_range visited_cells both list_all keep all_finite cell_finite feature_box list_cell grid_listing span_finite ranges_admitted node_at
    cell_nodes
    nodes_of node_in_order every nearest_heights answer_listed visited_answer ranges_cast ray_height_ranges
answers_agree = refl
