-- `exports::near::probe_ray_level_set_near` meets its contract. Assumes nothing.
use Rattle.exports.proofs.near.probe_ray_level_set_near.Goals as goal

pub returns : goal.returns
returns c = c.answer_level_set.ensures
