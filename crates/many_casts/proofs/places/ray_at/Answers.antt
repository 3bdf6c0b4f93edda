-- `many_casts::places::ray_at` meets its contract. Assumes nothing.
use Rattle.many_casts.specs.Many.{ray_at}
use Rattle.many_casts.proofs.places.ray_at.Goals as goal

-- two vectors and two numbers, each at its place
pub returns : goal.returns
unfolding ray_at
returns c = simp (c.vector_at.ensures, c.vector_at-2.ensures)
