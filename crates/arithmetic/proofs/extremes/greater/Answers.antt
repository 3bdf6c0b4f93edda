-- One comparison tells, where neither is NaN.
use Rattle.arithmetic.proofs.ExtremesOrder.{greater_second, greater_first}
use Rattle.arithmetic.proofs.extremes.greater.Goals as goal

pub returns-then-y-x : goal.returns-then-y-x
returns-then-y-x c = greater_second c.args.x c.args.y c.if-y-x.true

pub returns : goal.returns
returns c = (greater_first c.args.x c.args.y c.if-y-x.false c.requires, c.requires)
