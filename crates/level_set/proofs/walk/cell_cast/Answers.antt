-- `level_set::walk::cell_cast` meets its contract. Assumes nothing.
use Rattle.std.proofs.Common.{refl}
use Rattle.level_set.specs.Walk.{ended}
use Rattle.level_set.proofs.SampleLaws.{last_remembered}
use Rattle.level_set.proofs.walk.cell_cast.Goals as goal

pub returns-in_default-clause-kept : goal.returns-in_default-clause-kept
returns-in_default-clause-kept c = ended

pub cell_by-requires : goal.cell_by-requires
cell_by-requires c =
    last_remembered c.args.ray c.args.field.now.grid c.args.field.now.values.now c.args.current c.args.end _ _ c.along.ensures
    c.in-Some.ensures refl
