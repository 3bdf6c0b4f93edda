-- The rows that are left give what all of them give.
use Rattle.std.proofs.Common.{◌≡◌, ◌+◌, ◌-◌}
use Rattle.height_field.specs.Cells.{run, grid_cells}
use Rattle.height_ranges.specs.Ranges.{nearest_heights}
use Rattle.height_ranges.specs.Pass.{cell_touches, first_cell}
use Rattle.height_ranges.proofs.touching.first_in_rows.Given as goal

abbrev pub invariant-loop-row : goal.invariant-loop-row
invariant-loop-row l =
    first_cell (cell_touches l.ranges.field (nearest_heights l.bounds.min.z l.ranges.lows.now l.ranges.highs.now) l.bounds)
    (grid_cells l.ranges.field (run l.row (l.fn.cells.rows.last + 1 - l.row)) (run l.columns.first (l.columns.last + 1 - l.columns.first)))
    ≡ first_cell (cell_touches l.ranges.field (nearest_heights l.bounds.min.z l.ranges.lows.now l.ranges.highs.now) l.bounds)
    (grid_cells l.ranges.field (run l.fn.cells.rows.first (l.fn.cells.rows.last + 1 - l.fn.cells.rows.first))
    (run l.columns.first (l.columns.last + 1 - l.columns.first)))
