-- `exports::near::probe_ray_plane_near` meets its contract. Assumes nothing.
use Rattle.exports.proofs.near.probe_ray_plane_near.Goals as goal

pub returns : goal.returns
returns c = c.answer_plane.ensures
