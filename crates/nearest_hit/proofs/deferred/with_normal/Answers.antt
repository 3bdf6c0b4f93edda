-- `nearest_hit::deferred::with_normal` meets its contract. Assumes nothing.
use mathlib.Core.Path.{sym}
use Rattle.nearest_hit.specs.Deferred.{faced}
use Rattle.nearest_hit.proofs.deferred.with_normal.Goals as goal

-- the normal
pub returns : goal.returns
unfolding faced
returns c =
    simp (c.in_ok-hit.was, c.in-Some.is, sym c.unit_of-normal.ensures, sym c.dot.ensures, sym c.facing_as.ensures)
