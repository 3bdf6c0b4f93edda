-- The pattern that it puts together is no NaN's and is the root's.
use Rattle.std.proofs.Common.{arith}
use Rattle.arithmetic.proofs.RootScaled.{assembled}
use Rattle.arithmetic.proofs.square_root.scaled_root.Goals as goal

pub overflow_add-result : goal.overflow_add-result
overflow_add-result c =
    omega (
      arith,
      assembled c.args.m c.args.k c.halved_root.result c.requires.0 c.requires.1 c.requires.2 c.halved_root.ensures,
    )

pub float_from_bits-result : goal.float_from_bits-result
float_from_bits-result c =
    (assembled c.args.m c.args.k c.halved_root.result c.requires.0 c.requires.1 c.requires.2 c.halved_root.ensures).number

pub returns : goal.returns
returns c = (assembled c.args.m c.args.k c.halved_root.result c.requires.0 c.requires.1 c.requires.2 c.halved_root.ensures).is
