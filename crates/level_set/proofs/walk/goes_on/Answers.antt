-- `level_set::walk::goes_on` meets its contract. Assumes nothing.
use Rattle.level_set.specs.Walk.{ends, goes}
use Rattle.level_set.proofs.walk.goes_on.Goals as goal

pub returns-then-end-exit-clause-carries : goal.returns-then-end-exit-clause-carries
returns-then-end-exit-clause-carries c = ends

pub returns-clause-carries : goal.returns-clause-carries
returns-clause-carries c = goes
