-- `level_set::hits::value_known` meets its contract. Assumes nothing.
use Rattle.level_set.proofs.SampleLaws.{remembered_value}
use Rattle.level_set.proofs.hits.value_known.Goals as goal

pub returns-then-is_same : goal.returns-then-is_same
returns-then-is_same c =
    remembered_value c.args.ray c.args.field.now.grid c.args.field.now.values.now c.args.known c.args.distance c.requires
    (c.is_same.ensures.number c.if-is_same.true) (c.is_same.ensures.same c.if-is_same.true)
