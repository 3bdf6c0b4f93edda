use Rattle.records.proofs.Answers.{values_cast}
use Rattle.records.proofs.shapes.values_answer.Goals as goal

pub returns : goal.returns
returns c = values_cast _ _ c.args.counts.now c.args.numbers.now _ c.ray_level_set.ensures c.grid_by-grid.ensures
