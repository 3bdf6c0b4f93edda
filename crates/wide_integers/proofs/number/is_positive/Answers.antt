-- `wide_integers::number::is_positive` meets its contract. Assumes nothing.
use Rattle.std.proofs.Common.{ℤ, ap, ◌∙◌}
use lib.Signed.{lt_z}
use Rattle.wide_integers.specs.Value.{value}
use Rattle.wide_integers.proofs.number.is_positive.Goals as goal

pub returns : goal.returns
returns c = c.below.ensures ∙ ap (λ (x : ℤ). lt_z x (value c.args.a)) c.zero.ensures
