-- The cells that the height listing visits. Definitions only. Assumes nothing.
use Rattle.std.specs.Prelude.{ℕ, zero, suc, ◌+◌, ◌-◌, min, cond, List, [], ◌∷◌, ◌++◌, map, Float, Option, Some, None}
use Rattle.std.specs.Float.Ieee.{lt}
use Rattle.arithmetic.specs.Basic.{is_finite, clamp_to}
use Rattle.arithmetic.specs.Rounding.{floor_of, whole_of}
use Rattle.vectors.specs.Numbers.{◌*ᶠ◌, ◌/ᶠ◌, zeroᶠ}
use Rattle.geometry.specs.declared.aabb.Aabb.{Aabb}
use Rattle.height_field.specs.declared.field.Field.{Field}
use Rattle.height_field.specs.declared.cells.CellRange.{CellRange}
use Rattle.height_field.specs.declared.visited.Visited.{Visited}
use Rattle.height_field.specs.Grid.{float_of, cell_at}

-- ---- one axis

-- from a first and a last whole position: the range starts one cell early and ends at the last cell
abbrev pub range_of : ℕ → ℕ → Option CellRange
range_of first last = Some record { first = min (first - 1) last; last = last }

unfoldable pub scaled_range : Float → Float → ℕ → Option CellRange
scaled_range low high last =
    cond (is_finite low) (cond (is_finite high) (range_of (whole_of (floor_of low)) (min (whole_of (floor_of high)) last)) None) None

-- the extent of some cells
unfoldable pub span_of : Float → ℕ → Float
span_of spacing count = spacing *ᶠ float_of count

-- the side of a box against the span of the cells: outside it there is no cell; else the side in cells, clamped to the grid
unfoldable pub cell_range : Float → Float → Float → ℕ → Option CellRange
cell_range low high spacing count =
    cond (lt high zeroᶠ) None
    (cond (lt (span_of spacing count) low) None
    (scaled_range (clamp_to (low /ᶠ spacing) zeroᶠ (float_of (count - 1))) (clamp_to (high /ᶠ spacing) zeroᶠ (float_of (count - 1)))
    (count - 1)))

-- ---- the grid

-- `count` numbers from `first` on
unfoldable pub run : ℕ → ℕ → List ℕ
run first zero = []
run first (suc count) = first ∷ run (first + 1) count

unfoldable pub range_cells : Option CellRange → List ℕ
range_cells None = []
range_cells (Some range) = run range.first (range.last + 1 - range.first)

-- the cells of some rows and columns, "by row, then column"
unfoldable pub grid_cells : Field → List ℕ → List ℕ → List ℕ
grid_cells f [] columns = []
grid_cells f (row ∷ rows) columns = map (cell_at f row) columns ++ grid_cells f rows columns

-- columns lie along x, rows along y
unfoldable pub column_range : Field → Aabb → Option CellRange
column_range f box = cell_range box.min.x box.max.x f.spacing_x (f.columns - 1)

unfoldable pub row_range : Field → Aabb → Option CellRange
row_range f box = cell_range box.min.y box.max.y f.spacing_y (f.rows - 1)

-- the cells that the height listing visits for a box
unfoldable pub visited_cells : Field → Aabb → List ℕ
visited_cells f box = grid_cells f (range_cells (row_range f box)) (range_cells (column_range f box))

-- the same as the code has them: the rows and the columns
unfoldable pub visited_by : Option CellRange → Option CellRange → Option Visited
visited_by None along = None
visited_by (Some columns) None = None
visited_by (Some columns) (Some rows) = Some record { rows = rows; columns = columns }

unfoldable pub visited_range : Field → Aabb → Option Visited
visited_range f box = visited_by (column_range f box) (row_range f box)

unfoldable pub cells_of : Field → Option Visited → List ℕ
cells_of f None = []
cells_of f (Some cells) = grid_cells f (range_cells (Some cells.rows)) (range_cells (Some cells.columns))
