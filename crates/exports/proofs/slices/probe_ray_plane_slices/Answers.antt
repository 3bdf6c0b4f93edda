-- `exports::slices::probe_ray_plane_slices` meets its contract. Assumes nothing.
use Rattle.exports.proofs.slices.probe_ray_plane_slices.Goals as goal

pub returns : goal.returns
returns c = c.answer_plane.ensures
