-- `wide_integers::number::at_most` meets its contract. Assumes nothing.
use Rattle.std.proofs.Common.{not, ap, ◌∙◌}
use Rattle.wide_integers.specs.Value.{value}
use Rattle.wide_integers.proofs.OperationLaws.{at_most_told}
use Rattle.wide_integers.proofs.number.at_most.Goals as goal

pub returns : goal.returns
returns c = ap not c.below.ensures ∙ at_most_told (value c.args.a) (value c.args.b)
