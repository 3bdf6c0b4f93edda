-- `exports::slices::probe_ray_triangle_slices` meets its contract. Assumes nothing.
use Rattle.exports.proofs.slices.probe_ray_triangle_slices.Goals as goal

pub returns : goal.returns
returns c = c.answer_triangle.ensures
