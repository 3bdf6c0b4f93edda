-- Vectors: what is done on one axis is done on each. Definitions only. Assumes nothing.
use Rattle.std.specs.Prelude.{ℕ, ◌≡◌, Bool, false, ◌&&◌, not, cond, eqb, Float, Option, Some, None}
use Rattle.std.specs.Float.Ieee.{lt, le, eq, neg, is_nan}
use Rattle.arithmetic.specs.Extremes.{minimum_of, maximum_of}
use Rattle.arithmetic.specs.Basic.{is_finite, absolute}
use Rattle.arithmetic.specs.Root.{root_of}
use Rattle.arithmetic.specs.Scaling.{digits_of, scaled_by}
use Rattle.vectors.specs.Numbers.{◌+ᶠ◌, ◌-ᶠ◌, ◌*ᶠ◌, ◌/ᶠ◌, zeroᶠ, min_positive, least_square, greatest_square}
use Rattle.vectors.specs.declared.vec3.Vec3.{Vec3}

-- ---- axes

-- 0 is x, 1 is y, any other number z
unfoldable pub component : ℕ → Vec3 → Float
component k v = cond (eqb k 0) v.x (cond (eqb k 1) v.y v.z)

-- an operation on each axis by itself
abbrev pub each : (Float → Float) → Vec3 → Vec3
each f v = record { x = f v.x; y = f v.y; z = f v.z }

abbrev pub each_of : (Float → Float → Float) → Vec3 → Vec3 → Vec3
each_of f v w = record { x = f v.x w.x; y = f v.y w.y; z = f v.z w.z }

-- a vector by its numbers
abbrev pub vector : Float → Float → Float → Vec3
vector x y z = record { x = x; y = y; z = z }

-- ---- the operations

unfoldable pub finite_vec : Vec3 → Bool
finite_vec v = is_finite v.x && (is_finite v.y && is_finite v.z)

-- whether no component is NaN
unfoldable pub has_numbers : Vec3 → Bool
has_numbers v = not (is_nan v.x) && (not (is_nan v.y) && not (is_nan v.z))

-- no component is NaN, so that minimum and maximum take one comparison a component
pub record Numbers (v : Vec3) : Type 0 where
  pub first : is_nan v.x ≡ false
  pub second : is_nan v.y ≡ false
  pub third : is_nan v.z ≡ false

unfoldable pub add_of : Vec3 → Vec3 → Vec3
add_of = each_of ◌+ᶠ◌

unfoldable pub sub_of : Vec3 → Vec3 → Vec3
sub_of = each_of ◌-ᶠ◌

unfoldable pub neg_of : Vec3 → Vec3
neg_of = each neg

unfoldable pub scale_of : Vec3 → Float → Vec3
scale_of v factor = each (λ (c : Float). c *ᶠ factor) v

unfoldable pub min_of : Vec3 → Vec3 → Vec3
min_of = each_of minimum_of

unfoldable pub max_of : Vec3 → Vec3 → Vec3
max_of = each_of maximum_of

unfoldable pub abs_of : Vec3 → Vec3
abs_of = each absolute

unfoldable pub max_element : Vec3 → Float
max_element v = maximum_of (maximum_of v.x v.y) v.z

-- "Dot is x, y, z products added left to right"
unfoldable pub dot_of : Vec3 → Vec3 → Float
dot_of v w = ((v.x *ᶠ w.x) +ᶠ (v.y *ᶠ w.y)) +ᶠ (v.z *ᶠ w.z)

-- "checked dot refuses unless finite"
unfoldable pub checked_dot : Vec3 → Vec3 → Option Float
checked_dot v w = cond (is_finite (dot_of v w)) (Some (dot_of v w)) None

-- "Cross is (y·z'-z·y', z·x'-x·z', x·y'-y·x')"
unfoldable pub cross_of : Vec3 → Vec3 → Vec3
cross_of v w = record {
  x = (v.y *ᶠ w.z) -ᶠ (v.z *ᶠ w.y);
  y = (v.z *ᶠ w.x) -ᶠ (v.x *ᶠ w.z);
  z = (v.x *ᶠ w.y) -ᶠ (v.y *ᶠ w.x);
}

-- "Length is the root of dot"
unfoldable pub length_of : Vec3 → Float
length_of v = root_of (dot_of v v)

-- all components are 0, of either sign
unfoldable pub zero_vec : Vec3 → Bool
zero_vec v = eq v.x zeroᶠ && (eq v.y zeroᶠ && eq v.z zeroᶠ)

-- whether a vector can be normalised: "It fails only for a zero vector or a component that is not finite."
unfoldable pub normalizable : Vec3 → Bool
normalizable v = finite_vec v && not (zero_vec v)

-- not "Where the dot is not finite or below 2^-1022"
unfoldable pub dot_tells : Vec3 → Bool
dot_tells v = is_finite (dot_of v v) && not (lt (dot_of v v) min_positive)

-- the test that the code makes of a dot first; where it passes, the dot tells (`between_tells`)
unfoldable pub tells_length : Float → Bool
tells_length square = le least_square square && le square greatest_square

-- "the power of two that brings its largest absolute component to at least 1 and below 2, each component rounded once"
unfoldable pub scaled_to_one : Vec3 → Vec3
scaled_to_one v = each (scaled_by (digits_of (max_element (abs_of v)))) v

-- "Normalising divides each component by the length"
unfoldable pub over_length : Vec3 → Vec3
over_length v = each (λ (c : Float). c /ᶠ length_of v) v

-- "Where the dot is not finite or below 2^-1022, normalising first scales the vector .. and then proceeds."
unfoldable pub try_normalize : Vec3 → Option Vec3
try_normalize v = cond (normalizable v) (Some (over_length (cond (dot_tells v) v (scaled_to_one v)))) None
