-- `exports::shapes::probe_ray_level_set` meets its contract. Assumes nothing.
use Rattle.exports.proofs.shapes.probe_ray_level_set.Goals as goal

pub returns : goal.returns
returns c = c.answer_level_set.ensures
