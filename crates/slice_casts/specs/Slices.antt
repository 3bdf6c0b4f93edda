-- What the casts answer whose ray and shape are slices of their numbers. Definitions only. Assumes nothing.
use Rattle.std.specs.Prelude.{ℕ, ◌&&◌, List, [], ◌∷◌, eqb, Float, length}
use Rattle.lists.specs.Refusals.{refusing, unless_refused}
use Rattle.vectors.specs.declared.vec3.Vec3.{Vec3}
use Rattle.geometry.specs.Segment.{ray_admitted}
use Rattle.geometry.specs.declared.ray.Ray.{Ray}
use Rattle.casts.specs.Answer.{Answer, refused, invalid_input, bad_shape}
use Rattle.casts.specs.Plane.{ray_plane}
use Rattle.casts.specs.declared.plane.Plane.{Plane}
use Rattle.triangle_cast.specs.Triangle.{ray_triangle}
use Rattle.tree.specs.Layout.{number_at, vector_at}

-- ---- what the numbers of a slice mean, in the order of the calls that take them one by one

-- origin, direction, maximum, near
unfoldable pub ray_in : List Float → Ray
ray_in ns = record { origin = vector_at ns 0; direction = vector_at ns 3; max_distance = number_at ns 6; near = number_at ns 7 }

-- normal, distance
unfoldable pub plane_in : List Float → Plane
plane_in ns = record { normal = vector_at ns 0; distance = number_at ns 3 }

-- three corners
unfoldable pub corners_in : List Float → List Vec3
corners_in ns = vector_at ns 0 ∷ vector_at ns 3 ∷ vector_at ns 6 ∷ []

-- ---- the answers

-- "1 is tested before 2": a slice that has not eight numbers is no ray, and a shape of another length than stated is 2
unfoldable pub of_slices : ℕ → List Float → List Float → Answer → Answer
of_slices stated ray shape answer =
    unless_refused refused
    (refusing invalid_input (eqb (length ray) 8 && ray_admitted (ray_in ray)) ∷ refusing bad_shape (eqb (length shape) stated) ∷ []) answer

unfoldable pub plane_of_slices : List Float → List Float → Answer
plane_of_slices ray plane = of_slices 4 ray plane (ray_plane (plane_in plane) (ray_in ray))

unfoldable pub triangle_of_slices : List Float → List Float → Answer
triangle_of_slices ray triangle = of_slices 9 ray triangle (ray_triangle (ray_in ray) (corners_in triangle))
