-- The rows that are left give what all of them give.
use Rattle.std.proofs.Common.{◌≡◌, ◌+◌, ◌-◌}
use Rattle.lists.specs.Lists.{every}
use Rattle.height_field.specs.Cells.{run}
use Rattle.height_ranges.specs.Ranges.{node_in_order}
use Rattle.height_ranges.specs.Pass.{grid_nodes}
use Rattle.height_ranges.proofs.order.rows_in_order.Given as goal

abbrev pub invariant-loop-row : goal.invariant-loop-row
invariant-loop-row l =
    every (node_in_order l.ranges.lows.now l.ranges.highs.now) (grid_nodes l.ranges.field (run l.row (l.fn.cells.rows.last + 1 + 1 - l.row))
    (run l.columns.first (l.columns.last + 1 + 1 - l.columns.first)))
    ≡ every (node_in_order l.ranges.lows.now l.ranges.highs.now)
    (grid_nodes l.ranges.field (run l.fn.cells.rows.first (l.fn.cells.rows.last + 1 + 1 - l.fn.cells.rows.first))
    (run l.columns.first (l.columns.last + 1 + 1 - l.columns.first)))
