-- The columns that are left: the first of them, then the rest. Assumes nothing.
use Rattle.std.proofs.Common.{◌+◌, ◌<◌, ◌≤◌, sym, ◌∙◌, arith}
use Rattle.height_ranges.specs.Ranges.{node_at, node_in_order}
use Rattle.height_ranges.proofs.Places.{place_of_lem}
use Rattle.height_ranges.proofs.Turns.{node_passes, node_fails, nodes_done}
use Rattle.height_ranges.proofs.order.row_in_order.Goals as goal

pub overflow_mul-row : goal.overflow_mul-row
overflow_mul-row c =
    let column : c.loop-column.column < c.args.ranges.field.columns = omega arith in
    let place = place_of_lem c.args.ranges.field c.args.ranges.lows.now c.args.ranges.highs.now c.args.row c.loop-column.column
    c.args.ranges.lows_sized c.args.ranges.highs_sized c.requires.0 column in
    omega (arith, place)

pub overflow_add-row : goal.overflow_add-row
overflow_add-row c =
    let column : c.loop-column.column < c.args.ranges.field.columns = omega arith in
    let place = place_of_lem c.args.ranges.field c.args.ranges.lows.now c.args.ranges.highs.now c.args.row c.loop-column.column
    c.args.ranges.lows_sized c.args.ranges.highs_sized c.requires.0 column in
    omega (arith, place)

pub node_in_order-requires : goal.node_in_order-requires
node_in_order-requires c =
    let column : c.loop-column.column < c.args.ranges.field.columns = omega arith in
    let place = place_of_lem c.args.ranges.field c.args.ranges.lows.now c.args.ranges.highs.now c.args.row c.loop-column.column
    c.args.ranges.lows_sized c.args.ranges.highs_sized c.requires.0 column in
    (place.in_lows, place.in_highs)

pub returns-then-not-node_in_order : goal.returns-then-not-node_in_order
unfolding node_at
returns-then-not-node_in_order c =
    let a = c.args in
    let at = c.loop-column in
    let within : at.column ≤ (a.columns.last + 1) = omega arith in
    sym (node_fails (node_in_order a.ranges.lows.now a.ranges.highs.now) (node_at a.ranges.field a.row) at.column (a.columns.last + 1)
    within
    (sym c.node_in_order.ensures ∙ c.if-not-node_in_order.true)) ∙ at.invariant

pub loop-column-preserved : goal.loop-column-preserved
unfolding node_at
loop-column-preserved c =
    let a = c.args in
    let at = c.loop-column in
    let within : at.column ≤ (a.columns.last + 1) = omega arith in
    sym (node_passes (node_in_order a.ranges.lows.now a.ranges.highs.now) (node_at a.ranges.field a.row) at.column (a.columns.last + 1)
    within
    (sym c.node_in_order.ensures ∙ c.if-not-node_in_order.false)) ∙ at.invariant

pub returns : goal.returns
returns c =
    let a = c.args in
    let at = c.loop-column in
    let past : (a.columns.last + 1) < at.column = omega arith in
    sym (nodes_done (node_in_order a.ranges.lows.now a.ranges.highs.now) (node_at a.ranges.field a.row) at.column (a.columns.last + 1)
    past) ∙ at.invariant
