-- `wide_integers::long::at_most` meets its contract. Assumes nothing.
use Rattle.std.proofs.Common.{Bool, not, ap, ◌∙◌}
use Rattle.wide_integers.proofs.OperationLaws.{at_most_told}
use Rattle.wide_integers.specs.LongValue.{long_value}
use Rattle.wide_integers.proofs.long.at_most.Goals as goal

pub returns : goal.returns
returns c = ap (λ (x : Bool). not x) c.below.ensures ∙ at_most_told (long_value c.args.a) (long_value c.args.b)
