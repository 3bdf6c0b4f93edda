-- `results::ray_from` meets its contract: each number stands in its own field. Assumes nothing.
use mathlib.Core.Path.{refl}
use Rattle.results.proofs.ray_from.Statement.{statement}
use Rattle.results.proofs.ray_from.Tie as tie

returns : tie.Need-returns
returns c = refl

pub ray_from_spec : {M : Type 1} → statement M
ray_from_spec = tie.close (tie.spec returns)
