-- The cast at one triangle on the grid, with its normal. Definitions only. Assumes nothing.
use Rattle.std.specs.Prelude.{cond, List, Float}
use Rattle.vectors.specs.Vector.{dot_of}
use Rattle.vectors.specs.declared.vec3.Vec3.{Vec3}
use Rattle.geometry.specs.declared.ray.Ray.{Ray}
use Rattle.geometry.specs.Box.{corner}
use Rattle.casts.specs.Answer.{Answer, hit, none, refused, with_normal, no_normal, out_of_range}
use Rattle.casts.specs.Surface.{facing}
use Rattle.casts.specs.Reach.{Reach, At, Miss, Refused}
use Rattle.exact_depth.specs.declared.projection.Point.{Point}
use Rattle.exact_triangle.specs.Grid.{grid_point}
use Rattle.exact_triangle.specs.Reach.{corners_read, grid_reach}
use Rattle.exact_triangle.specs.Normal.{cross_of, normal_of}

-- "The normal faces the ray": normalised first (7), then flipped
unfoldable pub grid_normal : Ray → Point → Float → Answer
grid_normal r n distance =
    with_normal (normal_of n) no_normal (λ (v : Vec3). hit (facing v (dot_of r.direction v)) distance)

abbrev pub reach_hit : Ray → Point → Reach → Answer
reach_hit r n (At x) = grid_normal r n x
reach_hit r n Miss = none
reach_hit r n (Refused number) = refused number

-- the cross of the corners' edges on the grid
abbrev pub cross_at : List Vec3 → Point
cross_at vs = cross_of (grid_point (corner vs 0)) (grid_point (corner vs 1)) (grid_point (corner vs 2))

-- a hit at a distance; 12 where a corner is out of range
unfoldable pub grid_hit : Ray → List Vec3 → Float → Answer
grid_hit r vs distance = cond (corners_read vs) (grid_normal r (cross_at vs) distance) (refused out_of_range)

unfoldable pub grid_triangle : Ray → List Vec3 → Answer
grid_triangle r vs = reach_hit r (cross_at vs) (grid_reach r vs)
