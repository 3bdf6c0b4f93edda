-- Inner contracts only: what the triangle cast answers, once the first of its tests is made, and once its distance is known. Definitions
-- only. Assumes nothing.
use Rattle.std.specs.Prelude.{cond, Float, Option, Some, None, Result, Ok, Err}
use Rattle.std.specs.Float.Ieee.{lt, is_nan}
use Rattle.vectors.specs.Numbers.{◌+ᶠ◌, ◌*ᶠ◌, zeroᶠ, oneᶠ}
use Rattle.vectors.specs.Vector.{cross_of, dot_of}
use Rattle.vectors.specs.declared.vec3.Vec3.{Vec3}
use Rattle.geometry.specs.declared.ray.Ray.{Ray}
use Rattle.casts.specs.Answer.{Answer, none, refused, overflow, number_of}
use Rattle.casts.specs.declared.answer.Refusal.{Refusal}
use Rattle.triangle_cast.specs.declared.parts.Within.{Within}
use Rattle.casts.specs.Surface.{off_segment}
use Rattle.triangle_cast.specs.Triangle.{flat, triangle_normal, triangle_above}

-- what the first test leaves, by its parts
abbrev pub within : Vec3 → Vec3 → Vec3 → Float → Float → Float → Within
within offset a b determinant inverse u =
    record { offset = offset; a = a; b = b; determinant = determinant; inverse = inverse; u = u }

-- a flat determinant is a miss; else the tests of v, of the sum and of the distance are left
abbrev pub within_answer : Ray → Within → Answer
within_answer r w = cond (flat w.determinant w.a w.b) none (triangle_above r w.offset w.a w.b w.inverse w.u)

abbrev pub crossing_answer : Ray → Result (Option Within) Refusal → Answer
crossing_answer r (Ok (Some w)) = within_answer r w
crossing_answer r (Ok None) = none
crossing_answer r (Err refusal) = refused (number_of refusal)

-- the distance that the tests of v, of the sum and of the range leave
unfoldable pub distance_within : Ray → Vec3 → Vec3 → Vec3 → Float → Float → Option Float
distance_within r offset a b inverse u =
    cond (lt (dot_of r.direction (cross_of offset a) *ᶠ inverse) zeroᶠ) None
    (cond (lt oneᶠ (u +ᶠ (dot_of r.direction (cross_of offset a) *ᶠ inverse))) None
    (cond (off_segment r (dot_of b (cross_of offset a) *ᶠ inverse)) None
    (Some (dot_of b (cross_of offset a) *ᶠ inverse))))

-- what is left at a distance: flat, NaN, the normal
abbrev pub settled_answer : Ray → Float → Vec3 → Vec3 → Float → Answer
settled_answer r determinant a b distance =
    cond (flat determinant a b) none (cond (is_nan distance) (refused overflow) (triangle_normal r a b distance))
