-- The columns that are left, on top of what was found, give what all of them give.
use Rattle.std.proofs.Common.{◌≡◌, ◌+◌, ◌-◌, map}
use Rattle.nearest_hit.specs.Nearest.{says_indexed}
use Rattle.height_field.specs.Grid.{cell_at}
use Rattle.height_field.specs.Cells.{run}
use Rattle.height_field.specs.Listing.{list_cell, list_all}
use Rattle.height_field.specs.Cast.{answer_of}
use Rattle.height_field.specs.Pass.{pass_from}
use Rattle.height_field.proofs.pass.pass_row.Given as goal

abbrev pub invariant-loop-column : goal.invariant-loop-column
invariant-loop-column l =
    pass_from (answer_of l.ray l.grid.field l.grid.heights.now) (says_indexed l.best)
    (list_all (list_cell l.grid.field l.grid.heights.now l.bounds) (map (cell_at l.grid.field l.row)
    (run l.column (l.fn.columns.last + 1 - l.column))))
    ≡ pass_from (answer_of l.ray l.grid.field l.grid.heights.now) (says_indexed l.initial.best)
    (list_all (list_cell l.grid.field l.grid.heights.now l.bounds) (map (cell_at l.grid.field l.row)
    (run l.fn.columns.first (l.fn.columns.last + 1 - l.fn.columns.first))))

abbrev pub decreases-loop-column : goal.decreases-loop-column
decreases-loop-column l = l.fn.columns.last + 1 - l.column
