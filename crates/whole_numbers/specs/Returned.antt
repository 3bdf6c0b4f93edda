-- A triangle on whole millimetres: what the exported triangle calls answer and leave in the hit slice. Definitions only. Assumes nothing.
use Rattle.std.specs.Prelude.{ℕ, ◌≤◌, ◌≡◌, ◌⊎◌, List, ℤ, nat_abs, Float, length}
use Rattle.vectors.specs.declared.vec3.Vec3.{Vec3}
use Rattle.geometry.specs.declared.ray.Ray.{Ray}
use Rattle.triangle_cast.specs.Triangle.{ray_triangle}
use Rattle.tree.specs.Layout.{number_at}
use Rattle.results.specs.Results.{Returned, ray_from, ray_of, corners_of, hit_code, none_code, answered}
use Rattle.whole_numbers.specs.WholeTriangle.{Drawing, WholeTriangle, Degenerate, Crossing, Within}
use Rattle.whole_numbers.specs.WholeMesh.{Met, Missed}

-- what the contract of a triangle call says of its number and of the hit slice before and after
abbrev pub Says : Ray → List Vec3 → ℕ → List Float → List Float → Type 0
Says r vs number before after = ◌≡◌ {A = Returned} (record { number = number; hit = after }) (answered (ray_triangle r vs) before)

-- ---- the promise, in whole numbers and in what a caller sees
pub record ReturnedExact (g : Drawing) (number : ℕ) (before after : List Float) : Type 0 where
  -- 256 or 257, so never a refusal's number
  pub answers : (number ≡ hit_code) ⊎ (number ≡ none_code)
  -- "the triangle cast hits whenever the exact crossing lies in the triangle, not on the side opposite the first corner, at an exact
  -- depth from 0 to below the maximum"
  pub hits : (D : ℕ) (u v t : ℤ) → Met g D u v t → number ≡ hit_code
  -- "it answers none whenever the line is parallel to the triangle's plane, the triangle is degenerate, the crossing is strictly
  -- outside, or the depth is below 0 or above the maximum"
  pub misses : Missed g → number ≡ none_code
  pub degenerate : Degenerate g → number ≡ none_code
  -- none writes nothing
  pub unchanged : number ≡ none_code → after ≡ before
  -- "The distance of a hit lies within 2^-51 times the exact depth of that depth.": it stands fourth in the slice
  pub near : number ≡ hit_code → (D : ℕ) (u v t : ℤ) → Crossing g D u v t → Within (number_at after 3) (nat_abs t) D

-- with a hit slice of at least four places: of `probe_ray_triangle_near`, whose ray has eight numbers
abbrev pub NearCallExact : Type 0
NearCallExact =
    (ox oy oz dx dy dz maximum near ax ay az bx by bz cx cy cz : Float) (g : Drawing) (number : ℕ) (before after : List Float)
    → WholeTriangle (ray_from ox oy oz dx dy dz maximum near) (corners_of ax ay az bx by bz cx cy cz) g → 4 ≤ length before
    → Says (ray_from ox oy oz dx dy dz maximum near) (corners_of ax ay az bx by bz cx cy cz) number before after
    → ReturnedExact g number before after

-- and of `probe_ray_triangle`, whose near distance is +0
abbrev pub CallExact : Type 0
CallExact =
    (ox oy oz dx dy dz maximum ax ay az bx by bz cx cy cz : Float) (g : Drawing) (number : ℕ) (before after : List Float)
    → WholeTriangle (ray_of ox oy oz dx dy dz maximum) (corners_of ax ay az bx by bz cx cy cz) g → 4 ≤ length before
    → Says (ray_of ox oy oz dx dy dz maximum) (corners_of ax ay az bx by bz cx cy cz) number before after
    → ReturnedExact g number before after
