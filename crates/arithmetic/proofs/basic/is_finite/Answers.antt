-- No number is above infinity or below its negative.
use Rattle.std.proofs.Common.{◌∙◌}
use lib.Ieee.{of_bits, neg}
use Rattle.arithmetic.proofs.Numbers.{above_minus_infinity, not_below_infinity}
use Rattle.arithmetic.proofs.basic.is_finite.Goals as goal

pub returns-then-x : goal.returns-then-x
unfolding of_bits neg
returns-then-x c = above_minus_infinity _ c.if-x.true

pub returns-else-x : goal.returns-else-x
unfolding of_bits
returns-else-x c = c.if-x.false ∙ not_below_infinity _ c.if-x.false
