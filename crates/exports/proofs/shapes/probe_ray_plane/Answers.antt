-- `exports::shapes::probe_ray_plane` meets its contract. Assumes nothing.
use Rattle.exports.proofs.shapes.probe_ray_plane.Goals as goal

pub returns : goal.returns
returns c = c.answer_plane.ensures
