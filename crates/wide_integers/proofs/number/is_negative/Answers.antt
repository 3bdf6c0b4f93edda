-- `wide_integers::number::is_negative` meets its contract. Assumes nothing.
use Rattle.std.proofs.Common.{arith}
use Rattle.wide_integers.proofs.OperationLaws.{negative_told}
use Rattle.wide_integers.proofs.number.is_negative.Goals as goal

pub returns : goal.returns
returns c = negative_told c.args.a (omega arith) (omega arith)
