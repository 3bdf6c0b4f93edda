-- `exports::near::answer_level_set` meets its contract. Assumes nothing.
use Rattle.exports.proofs.near.answer_level_set.Goals as goal

pub returns : goal.returns
returns c = simp (c.put_answer.ensures, c.ray_level_set.ensures, c.ray_from-ray.ensures)
