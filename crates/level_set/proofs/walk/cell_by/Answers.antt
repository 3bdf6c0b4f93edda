-- `level_set::walk::cell_by` meets its contract. Assumes nothing.
use Rattle.level_set.specs.Walk.{ended}
use Rattle.level_set.proofs.SampleLaws.{carried_kept}
use Rattle.level_set.proofs.walk.cell_by.Goals as goal

pub returns-in-Err-clause-kept : goal.returns-in-Err-clause-kept
returns-in-Err-clause-kept c = ended

pub returns-in-Ok-None-clause-kept : goal.returns-in-Ok-None-clause-kept
returns-in-Ok-None-clause-kept c = carried_kept _ _ _ _ _ c.requires c.goes_on.ensures.carries

pub returns-in-Ok-Some-clause-kept : goal.returns-in-Ok-Some-clause-kept
returns-in-Ok-Some-clause-kept c = ended
