-- No visited cell is clear, and the visited cells stand in the grid. Assumes nothing.
use Rattle.std.proofs.Common.{sym, ◌∙◌, arith}
use Rattle.height_field.proofs.Ranges.{visited_stands}
use Rattle.lists.proofs.JoinedTests.{test_passed, test_failed}
use Rattle.height_ranges.proofs.VisitedAnswer.{lows_sized, highs_sized, outside, out_of_order, ordered_first}
use Rattle.height_ranges.proofs.cast.visited_answer.Goals as goal

-- both slices have the grid's size
pub invariant_of-grid : goal.invariant_of-grid
invariant_of-grid c = record { sized = lows_sized c.args.ray c.args.field c.args.lows.now c.args.highs.now c.requires.0 }

pub invariant_of-ranges : goal.invariant_of-ranges
invariant_of-ranges c = record {
  lows_sized = lows_sized c.args.ray c.args.field c.args.lows.now c.args.highs.now c.requires.0;
  highs_sized = highs_sized c.args.ray c.args.field c.args.lows.now c.args.highs.now c.requires.0;
}

-- no cell is visited
pub returns-in_default : goal.returns-in_default
returns-in_default c =
    sym (outside c.args.field c.args.lows.now c.args.highs.now c.args.bounds (sym c.visited_cells.ensures ∙ c.in_default.is))

pub rows_in_order-requires : goal.rows_in_order-requires
rows_in_order-requires c =
    let standing = visited_stands _ _ _ (sym c.visited_cells.ensures ∙ c.in-Some.is) in
    let size = lows_sized c.args.ray c.args.field c.args.lows.now c.args.highs.now c.requires.0 in
    (omega (arith, size, standing), omega (arith, size, standing))

-- a visited range is out of order
pub returns-then-not-rows_in_order : goal.returns-then-not-rows_in_order
returns-then-not-rows_in_order c =
    sym (out_of_order c.args.field c.args.lows.now c.args.highs.now c.args.bounds _
    (sym c.visited_cells.ensures ∙ c.in-Some.is)
    (lows_sized c.args.ray c.args.field c.args.lows.now c.args.highs.now c.requires.0).some_columns
    (test_failed c.rows_in_order.ensures c.if-not-rows_in_order.true))

pub first_in_rows-requires : goal.first_in_rows-requires
first_in_rows-requires c =
    let standing = visited_stands _ _ _ (sym c.visited_cells.ensures ∙ c.in-Some.is) in
    let size = lows_sized c.args.ray c.args.field c.args.lows.now c.args.highs.now c.requires.0 in
    (omega (arith, size, standing), omega (arith, size, standing))

-- the first cell that touches
pub returns : goal.returns
returns c =
    c.first_in_rows.ensures
    ∙ sym (ordered_first c.args.field c.args.lows.now c.args.highs.now c.args.bounds _
    (sym c.visited_cells.ensures ∙ c.in-Some.is)
    (lows_sized c.args.ray c.args.field c.args.lows.now c.args.highs.now c.requires.0).some_columns c.args.ray c.requires.1 c.requires.0
    (test_passed c.rows_in_order.ensures c.if-not-rows_in_order.false))
