-- `nearest_hit::deferred::next_within` meets its contract. Assumes nothing.
use mathlib.Core.Path.{sym, ap, ◌∙◌}
use Rattle.nearest_hit.specs.Nearest.{next_of}
use Rattle.triangle_cast.proofs.ReachLaws.{from_distance, no_distance}
use Rattle.nearest_hit.proofs.NextLaws.{next_none}
use Rattle.nearest_hit.proofs.deferred.next_within.Goals as goal

-- a miss
pub returns-in_default-clause-result_value : goal.returns-in_default-clause-result_value
returns-in_default-clause-result_value c =
    next_none _ _ ∙ ap (next_of _ _) (no_distance _ _ _ _ c.args.within.determinant _ _ (sym c.in_default.ensures))

-- the rest at a distance
pub returns-clause-result_value : goal.returns-clause-result_value
returns-clause-result_value c =
    c.next_at.ensures.result_value c.args.ray
    ∙ ap (next_of _ _) (from_distance _ _ _ _ c.args.within.determinant _ _ _ (sym c.in-Some.ensures))
