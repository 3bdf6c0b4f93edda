-- The columns that are left: the first of them, then the rest. Assumes nothing.
use Rattle.std.proofs.Common.{◌+◌, ◌<◌, ◌≤◌, sym, ◌∙◌, arith}
use Rattle.height_field.specs.Grid.{cell_at}
use Rattle.height_field.proofs.Sizes.{cell_small}
use Rattle.height_ranges.specs.Ranges.{nearest_heights}
use Rattle.height_ranges.specs.Pass.{cell_touches}
use Rattle.height_ranges.proofs.Turns.{cell_passes, cell_fails, cells_done}
use Rattle.height_ranges.proofs.touching.first_in_row.Goals as goal

-- the cell's number is small
pub overflow_mul-result : goal.overflow_mul-result
overflow_mul-result c =
    let column : c.loop-column.column + 1 < c.args.ranges.field.columns = omega arith in
    let small = cell_small c.args.ranges.field c.args.ranges.lows.now c.args.row c.loop-column.column c.args.ranges.lows_sized
    c.requires.0 column in
    omega (arith, small)

pub overflow_add-result : goal.overflow_add-result
overflow_add-result c =
    let column : c.loop-column.column + 1 < c.args.ranges.field.columns = omega arith in
    let small = cell_small c.args.ranges.field c.args.ranges.lows.now c.args.row c.loop-column.column c.args.ranges.lows_sized
    c.requires.0 column in
    omega (arith, small)

pub overflow_cast-result : goal.overflow_cast-result
overflow_cast-result c =
    let column : c.loop-column.column + 1 < c.args.ranges.field.columns = omega arith in
    let small = cell_small c.args.ranges.field c.args.ranges.lows.now c.args.row c.loop-column.column c.args.ranges.lows_sized
    c.requires.0 column in
    omega (arith, small)

-- the cell touches
pub returns-then-cell_touches : goal.returns-then-cell_touches
unfolding cell_at
returns-then-cell_touches c =
    let a = c.args in
    let at = c.loop-column in
    let within : at.column ≤ a.columns.last = omega arith in
    sym (cell_passes (cell_touches a.ranges.field (nearest_heights a.bounds.min.z a.ranges.lows.now a.ranges.highs.now) a.bounds)
    (cell_at a.ranges.field a.row) at.column a.columns.last within (sym c.cell_touches.ensures ∙ c.if-cell_touches.true)) ∙ at.invariant

-- it does not
pub loop-column-preserved : goal.loop-column-preserved
loop-column-preserved c =
    let a = c.args in
    let at = c.loop-column in
    let within : at.column ≤ a.columns.last = omega arith in
    sym (cell_fails (cell_touches a.ranges.field (nearest_heights a.bounds.min.z a.ranges.lows.now a.ranges.highs.now) a.bounds)
    (cell_at a.ranges.field a.row) at.column a.columns.last within (sym c.cell_touches.ensures ∙ c.if-cell_touches.false)) ∙ at.invariant

-- no column is left
pub returns : goal.returns
returns c =
    let a = c.args in
    let at = c.loop-column in
    let past : a.columns.last < at.column = omega arith in
    sym (cells_done (cell_touches a.ranges.field (nearest_heights a.bounds.min.z a.ranges.lows.now a.ranges.highs.now) a.bounds)
    (cell_at a.ranges.field a.row) at.column a.columns.last past) ∙ at.invariant
