-- One comparison tells, where neither is NaN.
use Rattle.arithmetic.proofs.ExtremesOrder.{lesser_second, lesser_first}
use Rattle.arithmetic.proofs.extremes.lesser.Goals as goal

pub returns-then-x-y : goal.returns-then-x-y
returns-then-x-y c = lesser_second c.args.x c.args.y c.if-x-y.true

pub returns : goal.returns
returns c = (lesser_first c.args.x c.args.y c.if-x-y.false c.requires, c.requires)
