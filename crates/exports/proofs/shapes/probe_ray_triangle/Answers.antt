-- `exports::shapes::probe_ray_triangle` meets its contract. Assumes nothing.
use Rattle.exports.proofs.shapes.probe_ray_triangle.Goals as goal

pub returns : goal.returns
returns c = c.answer_triangle.ensures
