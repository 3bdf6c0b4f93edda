-- `exports::near::answer_plane` meets its contract. Assumes nothing.
use Rattle.exports.proofs.near.answer_plane.Goals as goal

pub returns : goal.returns
returns c = simp (c.put_answer.ensures, c.ray_plane.ensures, c.ray_from-ray.ensures)
