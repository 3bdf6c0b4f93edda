-- The value and the gradient at a point of the grid: trilinear in a cell, each step refused unless finite. Definitions only. Assumes
-- nothing.
use Rattle.std.specs.Prelude.{ℕ, ◌+◌, cond, List, Float, Option, Some, None}
use Rattle.vectors.specs.Vector.{finite_vec}
use Rattle.vectors.specs.declared.vec3.Vec3.{Vec3}
use Rattle.casts.specs.Answer.{overflow}
use Rattle.distance_grid.specs.Places.{Located, LocatedAt, NotLocated, locate}
use Rattle.distance_grid.specs.Faces.{face_at, low_x, high_x, low_y, high_y}
use Rattle.distance_grid.specs.Steps.{lerp, value_on, slope_on}
use Rattle.distance_grid.specs.declared.grid.Grid.{Grid}
use Rattle.distance_grid.specs.declared.faces.Face.{Face}
use Rattle.distance_grid.specs.declared.sampling.Sampled.{Sampled as CodeSample}

-- a value and its gradient, or a refusal's number
pub data Sampled : Type 0 where
  SampledAt : Float → Vec3 → Sampled
  SampleRefused : ℕ → Sampled

-- what the code's answer says: it gives no sample only where a number is not finite
abbrev pub says_sampled : Option CodeSample → Sampled
says_sampled (Some s) = SampledAt s.value s.gradient
says_sampled None = SampleRefused overflow

abbrev pub with_step : Option Float → (Float → Sampled) → Sampled
with_step (Some x) next = next x
with_step None next = SampleRefused overflow

-- the first step that refuses counts: the value's, then the gradient's axes, then the gradient as a whole
unfoldable pub gathered : Option Float → Option Float → Option Float → Option Float → Sampled
gathered value on_x on_y on_z =
    with_step value
    (λ (v : Float).
    with_step on_x
    (λ (dx : Float).
    with_step on_y
    (λ (dy : Float).
    with_step on_z
    (λ (dz : Float). cond (finite_vec record { x = dx; y = dy; z = dz }) (SampledAt v record { x = dx; y = dy; z = dz })
    (SampleRefused overflow)))))

-- in a cell, from its faces toward lower and higher z
unfoldable pub sample_faces : Face → Face → Vec3 → Vec3 → Sampled
sample_faces low high spacing at =
    gathered (lerp (value_on low at.x at.y) (value_on high at.x at.y) at.z)
    (slope_on (low_x low high) (high_x low high) spacing.x at.y at.z)
    (slope_on (low_y low high) (high_y low high) spacing.y at.x at.z)
    (slope_on low high spacing.z at.x at.y)

unfoldable pub sample_cell : Grid → List Float → ℕ → ℕ → ℕ → Vec3 → Sampled
sample_cell g values x y z at = sample_faces (face_at g values x y z) (face_at g values x y (z + 1)) g.spacing at

abbrev pub with_located : Located → (ℕ → ℕ → ℕ → Vec3 → Sampled) → Sampled
with_located (LocatedAt x tx y ty z tz) next = next x y z record { x = tx; y = ty; z = tz }
with_located (NotLocated number) next = SampleRefused number

unfoldable pub sample : Grid → List Float → Vec3 → Sampled
sample g values p = with_located (locate g p) (λ (x y z : ℕ) (at : Vec3). sample_cell g values x y z at)
