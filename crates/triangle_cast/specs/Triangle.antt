-- The cast at a triangle, after Möller and Trumbore, each operation rounded once. Definitions only. Assumes nothing.
use Rattle.std.specs.Prelude.{Bool, cond, List, Float}
use Rattle.std.specs.Float.{binary64}
use Rattle.std.specs.Float.Ieee.{of_bits, le, lt, is_nan}
use Rattle.arithmetic.specs.Basic.{absolute}
use Rattle.arithmetic.specs.Extremes.{maximum_of}
use Rattle.vectors.specs.Numbers.{◌+ᶠ◌, ◌*ᶠ◌, ◌/ᶠ◌, zeroᶠ, oneᶠ, epsilon}
use Rattle.vectors.specs.Vector.{sub_of, cross_of, dot_of, checked_dot, abs_of, max_element, normalizable, try_normalize}
use Rattle.geometry.specs.Box.{corner}
use Rattle.geometry.specs.Segment.{ray_admitted}
use Rattle.vectors.specs.declared.vec3.Vec3.{Vec3}
use Rattle.geometry.specs.declared.ray.Ray.{Ray}
use Rattle.casts.specs.Answer.{Answer, hit, none, refused, with_value, with_normal, invalid_input, overflow, no_normal}
use Rattle.casts.specs.Surface.{off_segment, facing}

abbrev pub thirty_two : Float
thirty_two = of_bits binary64 0x4040_0000_0000_0000

-- "Scale is the largest of 1 and the edges' absolute components; miss if the absolute determinant is at most scale·EPS·32, grouped as in
-- the Rust"
unfoldable pub flat : Float → Vec3 → Vec3 → Bool
flat determinant a b =
    le (absolute determinant) (maximum_of (maximum_of (max_element (abs_of a)) (max_element (abs_of b))) oneᶠ *ᶠ epsilon *ᶠ thirty_two)

-- "The normal faces the ray": normalised first (7), then flipped
unfoldable pub triangle_normal : Ray → Vec3 → Vec3 → Float → Answer
triangle_normal r a b distance =
    with_normal (try_normalize (cross_of a b)) no_normal
    (λ (normal : Vec3). hit (facing normal (dot_of r.direction normal)) distance)

-- whether the edges' normal can be told: "It fails only for a zero vector or a component that is not finite."
unfoldable pub has_normal : Vec3 → Vec3 → Bool
has_normal a b = normalizable (cross_of a b)

-- v below 0 or u + v above 1 is a miss (a NaN v is not); "A distance equal to the maximum is kept";
-- "A triangle cast whose distance is NaN is now refused"; "number 6, after the maximum test and before the normal"
unfoldable pub triangle_above : Ray → Vec3 → Vec3 → Vec3 → Float → Float → Answer
triangle_above r offset a b inverse u =
    cond (lt (dot_of r.direction (cross_of offset a) *ᶠ inverse) zeroᶠ) none
    (cond (lt oneᶠ (u +ᶠ (dot_of r.direction (cross_of offset a) *ᶠ inverse))) none
    (cond (off_segment r (dot_of b (cross_of offset a) *ᶠ inverse)) none
    (cond (is_nan (dot_of b (cross_of offset a) *ᶠ inverse)) (refused overflow)
    (triangle_normal r a b (dot_of b (cross_of offset a) *ᶠ inverse)))))

-- u outside 0 to 1 is a miss, and so is a NaN u
unfoldable pub triangle_at : Ray → Vec3 → Vec3 → Vec3 → Vec3 → Float → Answer
triangle_at r offset a b p determinant =
    cond (le zeroᶠ (dot_of offset p *ᶠ (oneᶠ /ᶠ determinant)))
    (cond (le (dot_of offset p *ᶠ (oneᶠ /ᶠ determinant)) oneᶠ)
    (triangle_above r offset a b (oneᶠ /ᶠ determinant) (dot_of offset p *ᶠ (oneᶠ /ᶠ determinant)))
    none)
    none

-- the cast at three corners: the edges from the first, "Determinant not finite is 6"
unfoldable pub triangle_of : Ray → Vec3 → Vec3 → Vec3 → Answer
triangle_of r first second third =
    with_value (checked_dot (sub_of second first) (cross_of r.direction (sub_of third first)))
    (λ (determinant : Float).
    cond (flat determinant (sub_of second first) (sub_of third first)) none
    (triangle_at r (sub_of r.origin first) (sub_of second first) (sub_of third first) (cross_of r.direction (sub_of third first))
    determinant))

abbrev pub triangle_cast : Ray → List Vec3 → Answer
triangle_cast r vs = triangle_of r (corner vs 0) (corner vs 1) (corner vs 2)

-- refusal 1, then the cast
unfoldable pub ray_triangle : Ray → List Vec3 → Answer
ray_triangle r vs = cond (ray_admitted r) (triangle_cast r vs) (refused invalid_input)
