-- `exports::near::answer_triangle` meets its contract. Assumes nothing.
use Rattle.exports.proofs.near.answer_triangle.Goals as goal

pub returns : goal.returns
returns c = simp (c.put_answer.ensures, c.ray_triangle.ensures, c.ray_from-ray.ensures)
