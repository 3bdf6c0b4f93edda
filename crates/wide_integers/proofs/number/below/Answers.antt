-- `wide_integers::number::below` meets its contract. Assumes nothing.
use Rattle.std.proofs.Common.{◌∙◌, arith}
use Rattle.wide_integers.proofs.WordOrder.{wide_order}
use Rattle.wide_integers.proofs.number.below.Goals as goal

pub returns : goal.returns
returns c =
    c.lt.ensures
    ∙ wide_order c.args.a c.args.b (record { high = omega arith; middle = omega arith; low = omega arith })
    (record { high = omega arith; middle = omega arith; low = omega arith })
