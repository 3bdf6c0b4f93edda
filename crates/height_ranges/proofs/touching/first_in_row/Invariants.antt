-- The columns that are left give what all of them give.
use Rattle.std.proofs.Common.{◌≡◌, ◌+◌, ◌-◌, map}
use Rattle.height_field.specs.Grid.{cell_at}
use Rattle.height_field.specs.Cells.{run}
use Rattle.height_ranges.specs.Ranges.{nearest_heights}
use Rattle.height_ranges.specs.Pass.{cell_touches, first_cell}
use Rattle.height_ranges.proofs.touching.first_in_row.Given as goal

abbrev pub invariant-loop-column : goal.invariant-loop-column
invariant-loop-column l =
    first_cell (cell_touches l.ranges.field (nearest_heights l.bounds.min.z l.ranges.lows.now l.ranges.highs.now) l.bounds)
    (map (cell_at l.ranges.field l.row) (run l.column (l.fn.columns.last + 1 - l.column)))
    ≡ first_cell (cell_touches l.ranges.field (nearest_heights l.bounds.min.z l.ranges.lows.now l.ranges.highs.now) l.bounds)
    (map (cell_at l.ranges.field l.row) (run l.fn.columns.first (l.fn.columns.last + 1 - l.fn.columns.first)))
