-- The rows that are left: the first of them, then the rest. Assumes nothing.
use Rattle.std.proofs.Common.{ℕ, Option, Ok, ◌+◌, ◌-◌, ◌<◌, ◌≤◌, sym, ap, ◌∙◌, arith}
use Rattle.height_field.specs.Cells.{run}
use Rattle.height_ranges.specs.Answer.{says}
use Rattle.height_ranges.specs.Ranges.{nearest_heights}
use Rattle.height_ranges.specs.Pass.{cell_touches}
use Rattle.height_ranges.proofs.Turns.{cell_row_clear, cell_row_found, cell_rows_done}
use Rattle.height_ranges.proofs.touching.first_in_rows.Goals as goal

-- no cell of the row touches
pub loop-row-preserved : goal.loop-row-preserved
loop-row-preserved c =
    let a = c.args in
    let at = c.loop-row in
    let within : at.row ≤ a.cells.rows.last = omega arith in
    sym (cell_row_clear (cell_touches a.ranges.field (nearest_heights a.bounds.min.z a.ranges.lows.now a.ranges.highs.now) a.bounds)
    a.ranges.field (run a.cells.columns.first (a.cells.columns.last + 1 - a.cells.columns.first)) at.row a.cells.rows.last within
    (sym c.first_in_row.ensures ∙ ap (λ (found : Option ℕ). says (Ok found)) c.in_default.is)) ∙ at.invariant

-- one does
pub returns-in-Some : goal.returns-in-Some
returns-in-Some c =
    let a = c.args in
    let at = c.loop-row in
    let within : at.row ≤ a.cells.rows.last = omega arith in
    sym (cell_row_found (cell_touches a.ranges.field (nearest_heights a.bounds.min.z a.ranges.lows.now a.ranges.highs.now) a.bounds)
    a.ranges.field (run a.cells.columns.first (a.cells.columns.last + 1 - a.cells.columns.first)) at.row a.cells.rows.last within _
    (sym c.first_in_row.ensures ∙ ap (λ (found : Option ℕ). says (Ok found)) c.in-Some.is)) ∙ at.invariant

-- no row is left
pub returns : goal.returns
returns c =
    let a = c.args in
    let at = c.loop-row in
    let past : a.cells.rows.last < at.row = omega arith in
    sym (cell_rows_done (cell_touches a.ranges.field (nearest_heights a.bounds.min.z a.ranges.lows.now a.ranges.highs.now) a.bounds)
    a.ranges.field (run a.cells.columns.first (a.cells.columns.last + 1 - a.cells.columns.first)) at.row a.cells.rows.last past)
    ∙ at.invariant
