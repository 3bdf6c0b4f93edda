-- `exports::shapes::probe_ray_height_field` meets its contract. Assumes nothing.
use Rattle.exports.proofs.shapes.probe_ray_height_field.Goals as goal

pub returns : goal.returns
returns c = c.answer_height_field.ensures
