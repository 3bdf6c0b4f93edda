-- `many_casts::at_exact::cast_at` meets its contract. Assumes nothing.
use mathlib.Core.Path.{◌∙◌}
use Rattle.many_casts.proofs.at_exact.cast_at.Goals as goal

pub ray_at-ray-requires : goal.ray_at-ray-requires
ray_at-ray-requires c = c.requires.0.0

pub put_at-requires : goal.put_at-requires
put_at-requires c = c.requires.0.1

pub cast_ray-found-requires : goal.cast_ray-found-requires
cast_ray-found-requires c = c.requires.1

-- the ray's answer at its places
pub returns : goal.returns
returns c = c.put_at.ensures ∙ simp (c.cast_ray-found.ensures, c.ray_at-ray.ensures)
