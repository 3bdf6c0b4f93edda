-- `many_drills::at_mesh::drill_at` meets its contract. Assumes nothing.
use mathlib.Core.Path.{◌∙◌}
use Rattle.many_drills.proofs.at_mesh.drill_at.Goals as goal

pub ray_at-ray-requires : goal.ray_at-ray-requires
ray_at-ray-requires c = c.requires.0

pub radius_at-radius-requires : goal.radius_at-radius-requires
radius_at-radius-requires c = c.requires.0

pub put_at-requires : goal.put_at-requires
put_at-requires c = c.requires.1

-- the drill's answer at its places
pub returns : goal.returns
returns c = c.put_at.ensures ∙ simp (c.drill_through-found.ensures.0, c.ray_at-ray.ensures, c.radius_at-radius.ensures)
