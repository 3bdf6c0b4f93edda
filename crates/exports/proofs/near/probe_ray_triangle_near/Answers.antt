-- `exports::near::probe_ray_triangle_near` meets its contract. Assumes nothing.
use Rattle.exports.proofs.near.probe_ray_triangle_near.Goals as goal

pub returns : goal.returns
returns c = c.answer_triangle.ensures
