-- `exact_triangle::grid::within` meets its contract. Assumes nothing.
use Rattle.exact_triangle.proofs.Within.{above_out, low_tells}
use Rattle.exact_triangle.proofs.grid.within.Goals as goal

-- at most b, and at least -b or not
pub returns-then-x-b : goal.returns-then-x-b
returns-then-x-b c = low_tells c.args.b c.args.x c.if-x-b.true

-- above b
pub returns : goal.returns
returns c = above_out c.args.b c.args.x c.if-x-b.false
