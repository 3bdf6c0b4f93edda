-- The rows that are left, on top of what was found, give what all of them give.
use Rattle.std.proofs.Common.{◌≡◌, ◌+◌, ◌-◌}
use Rattle.nearest_hit.specs.Nearest.{says_indexed}
use Rattle.height_field.specs.Cells.{run, grid_cells}
use Rattle.height_field.specs.Listing.{list_cell, list_all}
use Rattle.height_field.specs.Cast.{answer_of}
use Rattle.height_field.specs.Pass.{pass_from}
use Rattle.height_field.proofs.pass.pass_rows.Given as goal

abbrev pub invariant-loop-row : goal.invariant-loop-row
invariant-loop-row l =
    pass_from (answer_of l.ray l.grid.field l.grid.heights.now) (says_indexed l.best)
    (list_all (list_cell l.grid.field l.grid.heights.now l.bounds)
    (grid_cells l.grid.field (run l.row (l.fn.cells.rows.last + 1 - l.row)) (run l.columns.first (l.columns.last + 1 - l.columns.first))))
    ≡ pass_from (answer_of l.ray l.grid.field l.grid.heights.now) (says_indexed l.initial.best)
    (list_all (list_cell l.grid.field l.grid.heights.now l.bounds)
    (grid_cells l.grid.field (run l.fn.cells.rows.first (l.fn.cells.rows.last + 1 - l.fn.cells.rows.first))
    (run l.columns.first (l.columns.last + 1 - l.columns.first))))
