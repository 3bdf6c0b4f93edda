-- The cast at a plane. Definitions only. Assumes nothing.
use Rattle.std.specs.Prelude.{Bool, ◌&&◌, cond, Float}
use Rattle.std.specs.Float.{binary64}
use Rattle.std.specs.Float.Ieee.{of_bits, le}
use Rattle.arithmetic.specs.Basic.{is_finite, absolute}
use Rattle.vectors.specs.Numbers.{◌-ᶠ◌, ◌/ᶠ◌}
use Rattle.vectors.specs.Vector.{checked_dot}
use Rattle.geometry.specs.Segment.{close_to_unit_length, ray_admitted}
use Rattle.geometry.specs.declared.ray.Ray.{Ray}
use Rattle.casts.specs.Answer.{Answer, hit, none, refused, with_value, invalid_input, bad_shape, overflow}
use Rattle.casts.specs.Surface.{off_segment, facing}
use Rattle.casts.specs.declared.plane.Plane.{Plane}

-- 32·EPS, which is 2^-47
abbrev pub parallel : Float
parallel = of_bits binary64 0x3d00_0000_0000_0000

-- "A plane normal's length is within 1e-12 of 1 and its distance finite"
unfoldable pub plane_admitted : Plane → Bool
plane_admitted plane = close_to_unit_length plane.normal && is_finite plane.distance

-- "a distance that is not finite is 6; below 0 or above the maximum is none", below near in place of 0
unfoldable pub plane_at : Plane → Ray → Float → Float → Answer
plane_at plane r denominator distance =
    cond (is_finite distance) (cond (off_segment r distance) none (hit (facing plane.normal denominator) distance)) (refused overflow)

-- "miss if the absolute denominator is at most 32·EPS": before the origin's dot can refuse
unfoldable pub plane_cast : Plane → Ray → Answer
plane_cast plane r =
    with_value (checked_dot r.direction plane.normal)
    (λ (denominator : Float).
    cond (le (absolute denominator) parallel) none
    (with_value (checked_dot r.origin plane.normal)
    (λ (height : Float). plane_at plane r denominator ((plane.distance -ᶠ height) /ᶠ denominator))))

-- refusal 1 before 2, then the cast
unfoldable pub ray_plane : Plane → Ray → Answer
ray_plane plane r = cond (ray_admitted r) (cond (plane_admitted plane) (plane_cast plane r) (refused bad_shape)) (refused invalid_input)
