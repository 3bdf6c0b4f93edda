-- `wide_integers::long::below` meets its contract. Assumes nothing.
use Rattle.std.proofs.Common.{◌∙◌, arith}
use Rattle.wide_integers.proofs.WordOrder.{long_order}
use Rattle.wide_integers.proofs.long.below.Goals as goal

pub returns : goal.returns
returns c =
    c.lt.ensures
    ∙ long_order c.args.a c.args.b (record { high = omega arith; middle = omega arith; low = omega arith })
    (record { high = omega arith; middle = omega arith; low = omega arith })
    (record { high = omega arith; middle = omega arith; low = omega arith })
    (record { high = omega arith; middle = omega arith; low = omega arith })
