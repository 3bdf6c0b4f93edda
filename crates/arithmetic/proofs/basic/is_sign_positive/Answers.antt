-- Below zero, at zero by its sign, and above it.
use lib.Ieee.{of_bits}
use Rattle.arithmetic.proofs.Signs.{below_zero_negative, zero_sign, above_zero_positive}
use Rattle.arithmetic.proofs.basic.is_sign_positive.Goals as goal

pub returns-then-x : goal.returns-then-x
unfolding of_bits
returns-then-x c = below_zero_negative _ c.if-x.true

pub returns-then-x-2 : goal.returns-then-x-2
unfolding of_bits
returns-then-x-2 c = zero_sign _ c.if-x-2.true

pub returns : goal.returns
unfolding of_bits
returns c = above_zero_positive _ c.if-x.false c.if-x-2.false
