-- The rows that are left: the first of them, then the rest. Assumes nothing.
use Rattle.std.proofs.Common.{◌≡◌, ◌+◌, ◌-◌, ◌<◌, ◌≤◌, sym, ap, ◌∙◌, arith}
use Rattle.std.proofs.lemmas.Result.{err_from_is_err_and}
use Rattle.nearest_hit.specs.Nearest.{says_indexed}
use Rattle.height_field.specs.Cells.{run}
use Rattle.height_field.specs.Listing.{list_cell}
use Rattle.height_field.specs.Cast.{answer_of}
use Rattle.height_field.specs.Pass.{says_pass}
use Rattle.height_field.proofs.ListingPass.{pass_goes, pass_ends, pass_done, rows_cons, rows_none}
use Rattle.height_field.proofs.pass.pass_rows.Goals as goal

pub returns-in_err-best : goal.returns-in_err-best
returns-in_err-best c =
    let a = c.args in
    let columns = a.cells.columns in
    let at = c.loop-row in
    let within : at.row ≤ a.cells.rows.last = omega arith in
    let said = err_from_is_err_and c.from_residual.result c.from_residual.ensures.1 in
    let same : c.from_residual.result ≡ c.pass_row.result = rw (said.1, said.2) (sym c.in_err-best.was) in
    ap says_pass same ∙ sym (pass_ends (answer_of a.ray a.grid.field a.grid.heights.now) (says_indexed at.best) _ _ _
    (says_pass c.pass_row.result)
    (rows_cons (list_cell a.grid.field a.grid.heights.now a.bounds) a.grid.field at.row a.cells.rows.last
    (run columns.first (columns.last + 1 - columns.first)) within)
    c.pass_row.ensures _ (ap says_pass c.in_err-best.was)) ∙ at.invariant

pub loop-row-preserved : goal.loop-row-preserved
loop-row-preserved c =
    let a = c.args in
    let columns = a.cells.columns in
    let at = c.loop-row in
    let within : at.row ≤ a.cells.rows.last = omega arith in
    sym (pass_goes (answer_of a.ray a.grid.field a.grid.heights.now) (says_indexed at.best) _ _ _
    (says_pass c.pass_row.result)
    (rows_cons (list_cell a.grid.field a.grid.heights.now a.bounds) a.grid.field at.row a.cells.rows.last
    (run columns.first (columns.last + 1 - columns.first)) within)
    c.pass_row.ensures _ (ap says_pass c.in_ok-best.was)) ∙ at.invariant

pub returns : goal.returns
returns c =
    let a = c.args in
    let columns = a.cells.columns in
    let at = c.loop-row in
    let past : a.cells.rows.last < at.row = omega arith in
    sym (pass_done (answer_of a.ray a.grid.field a.grid.heights.now) (says_indexed at.best) _
    (rows_none (list_cell a.grid.field a.grid.heights.now a.bounds) a.grid.field at.row a.cells.rows.last
    (run columns.first (columns.last + 1 - columns.first)) past)) ∙ at.invariant
