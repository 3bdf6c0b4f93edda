-- `nearest_hit::deferred::next_deferred` meets its contract. Assumes nothing.
use mathlib.Core.Path.{ap, ◌∙◌}
use Rattle.nearest_hit.specs.Nearest.{next_of}
use Rattle.nearest_hit.specs.Deferred.{says_near, faced_indexed}
use Rattle.nearest_hit.proofs.NextLaws.{next_none}
use Rattle.nearest_hit.proofs.DeferredLaws.{next_faced}
use Rattle.nearest_hit.proofs.deferred.next_deferred.Goals as goal

-- it misses
pub returns-in-Ok-None-clause-result_value : goal.returns-in-Ok-None-clause-result_value
returns-in-Ok-None-clause-result_value c =
    next_none _ _ ∙ ap (next_of _ _) (rw c.in-Ok-None.field-0-is at c.in-Ok-None.ensures)

-- it refuses
pub returns-in-Err-clause-result_value : goal.returns-in-Err-clause-result_value
returns-in-Err-clause-result_value c =
    let a = c.args in
    ap (faced_indexed a.ray) (c.stopped.ensures.by_index a.index) ∙ next_faced a.ray (says_near a.best) a.index _
    ∙ ap (next_of _ _) c.in-Err.ensures
