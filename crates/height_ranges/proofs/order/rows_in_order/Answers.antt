-- The rows that are left: the first of them, then the rest. Assumes nothing.
use Rattle.std.proofs.Common.{◌+◌, ◌-◌, ◌<◌, ◌≤◌, sym, ◌∙◌, arith}
use Rattle.height_field.specs.Cells.{run}
use Rattle.height_ranges.specs.Ranges.{node_in_order}
use Rattle.height_ranges.proofs.Turns.{node_row_passes, node_row_fails, node_rows_done}
use Rattle.height_ranges.proofs.order.rows_in_order.Goals as goal

pub returns-then-not-row_in_order : goal.returns-then-not-row_in_order
returns-then-not-row_in_order c =
    let a = c.args in
    let at = c.loop-row in
    let within : at.row ≤ (a.cells.rows.last + 1) = omega arith in
    sym (node_row_fails (node_in_order a.ranges.lows.now a.ranges.highs.now)
    a.ranges.field (run a.cells.columns.first (a.cells.columns.last + 1 + 1 - a.cells.columns.first)) at.row
    (a.cells.rows.last + 1) within (sym c.row_in_order.ensures ∙ c.if-not-row_in_order.true)) ∙ at.invariant

pub loop-row-preserved : goal.loop-row-preserved
loop-row-preserved c =
    let a = c.args in
    let at = c.loop-row in
    let within : at.row ≤ (a.cells.rows.last + 1) = omega arith in
    sym (node_row_passes (node_in_order a.ranges.lows.now a.ranges.highs.now)
    a.ranges.field (run a.cells.columns.first (a.cells.columns.last + 1 + 1 - a.cells.columns.first)) at.row
    (a.cells.rows.last + 1) within (sym c.row_in_order.ensures ∙ c.if-not-row_in_order.false)) ∙ at.invariant

pub returns : goal.returns
returns c =
    let a = c.args in
    let at = c.loop-row in
    let past : (a.cells.rows.last + 1) < at.row = omega arith in
    sym (node_rows_done (node_in_order a.ranges.lows.now a.ranges.highs.now)
    a.ranges.field (run a.cells.columns.first (a.cells.columns.last + 1 + 1 - a.cells.columns.first)) at.row
    (a.cells.rows.last + 1) past) ∙ at.invariant
