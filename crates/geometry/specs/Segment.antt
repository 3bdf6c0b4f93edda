-- Rays: which are admitted, and the segment up to the maximum. Definitions only. Assumes nothing.
use Rattle.std.specs.Prelude.{Bool, ◌&&◌, not}
use Rattle.std.specs.Float.Ieee.{lt, le}
use Rattle.arithmetic.specs.Basic.{is_finite, absolute}
use Rattle.vectors.specs.Numbers.{◌-ᶠ◌, zeroᶠ, oneᶠ, tolerance}
use Rattle.vectors.specs.Vector.{finite_vec, length_of, add_of, scale_of, min_of, max_of}
use Rattle.vectors.specs.declared.vec3.Vec3.{Vec3}
use Rattle.geometry.specs.declared.aabb.Aabb.{Aabb}
use Rattle.geometry.specs.declared.ray.Ray.{Ray}

-- not "its length more than 1e-12 from 1"
unfoldable pub unit_length : Vec3 → Bool
unit_length direction = not (lt tolerance (absolute (length_of direction -ᶠ oneᶠ)))

-- "length is within 1e-12 of 1", as a plane normal's is asked to be: a NaN length is not
abbrev pub close_to_unit_length : Vec3 → Bool
close_to_unit_length vector = le (absolute (length_of vector -ᶠ oneᶠ)) tolerance

-- the range's part of refusal 1: not "maximum not finite, maximum below 0", and a near distance "finite, from 0 to the maximum"
abbrev pub range_admitted : Ray → Bool
range_admitted r =
    is_finite r.max_distance
    && (not (lt r.max_distance zeroᶠ)
    && (is_finite r.near && (not (lt r.near zeroᶠ) && not (lt r.max_distance r.near))))

-- not refusal 1: "origin or maximum not finite, maximum below 0, direction not finite, or its length more than 1e-12 from 1"
unfoldable pub ray_admitted : Ray → Bool
ray_admitted r =
    finite_vec r.origin
    && (finite_vec r.direction && (unit_length r.direction && range_admitted r))

-- "A segment's end is origin + direction·maximum, product and then sum rounded once per component"
unfoldable pub segment_end : Ray → Vec3
segment_end r = add_of r.origin (scale_of r.direction r.max_distance)

-- "its box has the minimum and maximum of origin and end in each component"
unfoldable pub segment_box : Ray → Aabb
segment_box r = record { min = min_of r.origin (segment_end r); max = max_of r.origin (segment_end r) }
