-- `many_drills::places::ray_at` meets its contract. Assumes nothing.
use Rattle.many_drills.specs.Many.{ray_at}
use Rattle.many_drills.proofs.places.ray_at.Goals as goal

-- two vectors and two numbers, each at its place
pub returns : goal.returns
unfolding ray_at
returns c = simp (c.vector_at.ensures, c.vector_at-2.ensures)
