-- The value of a sample without its gradient, and a cheap test after which no step of a sample refuses. Definitions only. Assumes nothing.
use Rattle.std.specs.Prelude.{ℕ, Bool, ◌&&◌, Float, Option, Some, None}
use Rattle.std.specs.Float.{binary64}
use Rattle.std.specs.Float.Ieee.{of_bits, neg, le}
use Rattle.vectors.specs.declared.vec3.Vec3.{Vec3}
use Rattle.casts.specs.Answer.{overflow}
use Rattle.distance_grid.specs.Steps.{blend}
use Rattle.distance_grid.specs.declared.faces.Face.{Face}
use Rattle.distance_grid.specs.Sampling.{Sampled, SampledAt, SampleRefused}

-- the value of a sample, or a refusal's number
pub data Valued : Type 0 where
  ValuedAt : Float → Valued
  NoValue : ℕ → Valued

-- what the code's answer says: it gives no value only where a number is not finite
abbrev pub says_valued : Option Float → Valued
says_valued (Some value) = ValuedAt value
says_valued None = NoValue overflow

-- the gradient is forgotten; what it refuses is not
abbrev pub value_of : Sampled → Valued
value_of (SampledAt value gradient) = ValuedAt value
value_of (SampleRefused number) = NoValue number

-- ---- the value with no test of its steps
unfoldable pub across : Face → Float → Float → Float
across f s t = blend (blend f.a00 f.a10 s) (blend f.a01 f.a11 s) t

unfoldable pub cell_value : Face → Face → Vec3 → Float
cell_value low high at = blend (across low at.x at.y) (across high at.x at.y) at.z

-- ---- the test: values of at most 2^500 in size, spacings from 2^-500 to 2^500
abbrev pub most : Float
most = of_bits binary64 0x5f30_0000_0000_0000

abbrev pub least : Float
least = of_bits binary64 0x20b0_0000_0000_0000

unfoldable pub small_value : Float → Bool
small_value x = le x most && le (neg most) x

unfoldable pub small_face : Face → Bool
small_face f = small_value f.a00 && (small_value f.a10 && (small_value f.a01 && small_value f.a11))

unfoldable pub fair_side : Float → Bool
fair_side spacing = le least spacing && le spacing most

unfoldable pub fair_spacing : Vec3 → Bool
fair_spacing spacing = fair_side spacing.x && (fair_side spacing.y && fair_side spacing.z)
