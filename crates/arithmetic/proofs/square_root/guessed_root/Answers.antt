-- `guessed_root` is safe: the patterns that it makes are no NaN's. Assumes nothing.
use Rattle.std.proofs.Common.{arith}
use Rattle.arithmetic.proofs.RootCases.{below_no_nan}
use Rattle.arithmetic.proofs.RootScaled.{no_nan}
use Rattle.arithmetic.proofs.square_root.guessed_root.Goals as goal

pub float_from_bits-x : goal.float_from_bits-x
float_from_bits-x c = no_nan c.args.b (omega (arith, c.requires))

pub float_to_bits-t : goal.float_to_bits-t
float_to_bits-t c = below_no_nan _ _ c.if-s.true

pub float_from_bits-t : goal.float_from_bits-t
float_from_bits-t c = no_nan _ (omega arith)
