-- `level_set::walk::walk_step` meets its contract. Assumes nothing.
use Rattle.level_set.specs.Walk.{ended}
use Rattle.level_set.proofs.walk.walk_step.Goals as goal

pub returns-then-current-exit-clause-kept : goal.returns-then-current-exit-clause-kept
returns-then-current-exit-clause-kept c = ended

pub returns-in_default-clause-kept : goal.returns-in_default-clause-kept
returns-in_default-clause-kept c = ended

pub returns-in_default-reached-clause-kept : goal.returns-in_default-reached-clause-kept
returns-in_default-reached-clause-kept c = ended
