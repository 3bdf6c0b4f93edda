-- `exports::near::answer_height_field` meets its contract. Assumes nothing.
use Rattle.exports.proofs.near.answer_height_field.Goals as goal

pub returns : goal.returns
returns c = simp (c.put_answer.ensures, c.ray_height_field.ensures, c.ray_from-ray.ensures)
