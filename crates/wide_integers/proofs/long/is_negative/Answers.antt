-- `wide_integers::long::is_negative` meets its contract. Assumes nothing.
use Rattle.std.proofs.Common.{◌∙◌, arith}
use Rattle.wide_integers.proofs.LongLaws.{negative_decides}
use Rattle.wide_integers.proofs.long.is_negative.Goals as goal

pub returns : goal.returns
returns c = c.is_negative.ensures ∙ negative_decides c.args.a (record { high = omega arith; middle = omega arith; low = omega arith })
