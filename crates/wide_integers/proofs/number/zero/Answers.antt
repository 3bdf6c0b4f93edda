-- `wide_integers::number::zero` meets its contract. Assumes nothing.
use Rattle.std.proofs.Common.{refl}
use Rattle.wide_integers.specs.Value.{value}
use Rattle.wide_integers.proofs.number.zero.Goals as goal

pub returns : goal.returns
unfolding value
returns c = refl
