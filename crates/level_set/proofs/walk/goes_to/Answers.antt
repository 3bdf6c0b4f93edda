-- `level_set::walk::goes_to` meets its contract. Assumes nothing.
use Rattle.level_set.specs.Walk.{ended}
use Rattle.level_set.proofs.walk.goes_to.Goals as goal

pub returns-then-next-current-clause-kept : goal.returns-then-next-current-clause-kept
returns-then-next-current-clause-kept c = ended
