-- The columns that are left give what all of them give.
use Rattle.std.proofs.Common.{◌≡◌, ◌+◌, ◌-◌, map}
use Rattle.lists.specs.Lists.{every}
use Rattle.height_field.specs.Cells.{run}
use Rattle.height_ranges.specs.Ranges.{node_at, node_in_order}
use Rattle.height_ranges.proofs.order.row_in_order.Given as goal

abbrev pub invariant-loop-column : goal.invariant-loop-column
invariant-loop-column l =
    every (node_in_order l.ranges.lows.now l.ranges.highs.now) (map (node_at l.ranges.field l.row)
    (run l.column (l.fn.columns.last + 1 + 1 - l.column)))
    ≡ every (node_in_order l.ranges.lows.now l.ranges.highs.now) (map (node_at l.ranges.field l.row)
    (run l.fn.columns.first (l.fn.columns.last + 1 + 1 - l.fn.columns.first)))
