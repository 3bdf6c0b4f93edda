use Rattle.records.proofs.Answers.{heights_cast}
use Rattle.records.proofs.shapes.heights_answer.Goals as goal

pub returns : goal.returns
returns c = heights_cast _ _ c.args.counts.now c.args.numbers.now _ c.ray_height_field.ensures c.field_by-field.ensures
