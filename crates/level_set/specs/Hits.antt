-- The value and the hit at a distance of the ray. Definitions only. Assumes nothing.
use Rattle.std.specs.Prelude.{ℕ, zero, suc, false, cond, ◌≡◌, List, Float, get_or, Option, Some, None}
use Rattle.std.specs.Float.{binary64, nan}
use Rattle.std.specs.Float.Ieee.{of_bits, eq, is_nan}
use Rattle.vectors.specs.Numbers.{◌+ᶠ◌, ◌-ᶠ◌, ◌*ᶠ◌, zeroᶠ, oneᶠ}
use Rattle.vectors.specs.Vector.{add_of, scale_of, try_normalize}
use Rattle.vectors.specs.declared.vec3.Vec3.{Vec3}
use Rattle.geometry.specs.declared.ray.Ray.{Ray}
use Rattle.casts.specs.Answer.{Answer, hit, none, refused, with_normal, overflow, not_convergent}
use Rattle.distance_grid.specs.Sampling.{Sampled, SampledAt, SampleRefused, sample}
use Rattle.distance_grid.specs.Valued.{Valued, ValuedAt, NoValue, value_of}
use Rattle.distance_grid.specs.declared.grid.Grid.{Grid}
use Rattle.level_set.specs.declared.hits.Known.{Known}

-- the values at 0, 1/3, 2/3 and 1 of the way through a cell, or a refusal's number
pub data Samples : Type 0 where
  All : Float → Float → Float → Float → Samples
  SamplesRefused : ℕ → Samples

-- what the code's answer says: it gives no samples only where a number is not finite
abbrev pub says_samples : Option (List Float) → Samples
says_samples (Some ys) = All (get_or ys 0 nan) (get_or ys 1 nan) (get_or ys 2 nan) (get_or ys 3 nan)
says_samples None = SamplesRefused overflow

unfoldable pub point_at : Ray → Float → Vec3
point_at r distance = add_of r.origin (scale_of r.direction distance)

-- from `current` a part of the way to `end`
unfoldable pub along : Float → Float → Float → Float
along current end fraction = current +ᶠ (end -ᶠ current) *ᶠ fraction

abbrev pub with_sample : Sampled → (Float → Vec3 → Answer) → Answer
with_sample (SampledAt value gradient) next = next value gradient
with_sample (SampleRefused number) next = refused number

-- "A gradient at the hit that cannot be normalised is 8." The normal is not turned to face the ray.
unfoldable pub hit_with : Vec3 → Float → Answer
hit_with gradient distance = with_normal (try_normalize gradient) not_convergent (λ (normal : Vec3). hit normal distance)

unfoldable pub hit_along : Ray → Grid → List Float → Float → Answer
hit_along r g values distance =
    with_sample (sample g values (point_at r distance)) (λ (value : Float) (gradient : Vec3). hit_with gradient distance)

-- where a cell has no length, its value is tested against zero exactly
unfoldable pub touch_at : Ray → Grid → List Float → Float → Answer
touch_at r g values distance =
    with_sample (sample g values (point_at r distance))
    (λ (value : Float) (gradient : Vec3). cond (eq value zeroᶠ) (hit_with gradient distance) none)

unfoldable pub value_along : Ray → Grid → List Float → Float → Valued
value_along r g values distance = value_of (sample g values (point_at r distance))

-- ---- four samples of a cell

-- 1/3 and 2/3, rounded
abbrev pub third : Float
third = of_bits binary64 0x3fd5_5555_5555_5555

abbrev pub two_thirds : Float
two_thirds = of_bits binary64 0x3fe5_5555_5555_5555

-- the first that refuses counts
unfoldable pub samples_of : Valued → Valued → Valued → Valued → Samples
samples_of (ValuedAt y0) (ValuedAt y1) (ValuedAt y2) (ValuedAt y3) = All y0 y1 y2 y3
samples_of (ValuedAt y0) (ValuedAt y1) (ValuedAt y2) (NoValue number) = SamplesRefused number
samples_of (ValuedAt y0) (ValuedAt y1) (NoValue number) h3 = SamplesRefused number
samples_of (ValuedAt y0) (NoValue number) h2 h3 = SamplesRefused number
samples_of (NoValue number) h1 h2 h3 = SamplesRefused number

-- "Four samples per cell at 0, 1/3, 2/3, 1"
unfoldable pub samples_along : Ray → Grid → List Float → Float → Float → Samples
samples_along r g values current end =
    samples_of (value_along r g values (along current end zeroᶠ)) (value_along r g values (along current end third))
    (value_along r g values (along current end two_thirds))
    (value_along r g values (along current end oneᶠ))

-- ---- how the code takes them

-- the parts of the way, by their number
unfoldable pub fraction_of : ℕ → Float
fraction_of zero = zeroᶠ
fraction_of (suc zero) = third
fraction_of (suc (suc zero)) = two_thirds
fraction_of (suc (suc (suc n))) = oneᶠ

-- what is remembered of the cell before is true
pub record Remembered (r : Ray) (g : Grid) (values : List Float) (known : Known) : Type 0 where
  pub holds : is_nan known.distance ≡ false → value_along r g values known.distance ≡ ValuedAt known.value
