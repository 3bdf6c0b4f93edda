-- Floats read on the grid of 2^-15 mm. Definitions only. Assumes nothing.
use Rattle.std.specs.Prelude.{ℕ, ◌*◌, ◌≤◌, Bool, true, false, ◌&&◌, ℤ, pos, ◌-ℤ◌, ◌*ℤ◌, neg_ℤ, from_bits, unsigned_abs, Float}
use Rattle.std.specs.Float.{nan, inf, fin, binary64}
use Rattle.std.specs.Float.Ieee.{up, down, add, sub, mul, le, to_signed}
use Rattle.std.specs.Float.Ieee.Nearest.{closest}
use Rattle.arithmetic.specs.Basic.{absolute}
use Rattle.vectors.specs.declared.vec3.Vec3.{Vec3}
use Rattle.geometry.specs.declared.ray.Ray.{Ray}
use Rattle.exact_depth.specs.declared.projection.Point.{Point}
use Rattle.exact_triangle.specs.Line.{parts, Line}

-- 2^15 units are a millimetre
abbrev pub units : ℕ
units = 32768

-- ±n
abbrev pub signed : Bool → ℕ → ℤ
signed false n = pos n
signed true n = neg_ℤ (pos n)

-- the whole number that is nearest to k x, and of two the even one; what is not finite counts as 0
unfoldable pub nearest_to : ℕ → Float → ℤ
nearest_to k nan = pos 0
nearest_to k (inf s) = pos 0
nearest_to k (fin s m e) = signed s (closest (m * up e * k) (down e))

-- k x, for x = ±a / d, is half a unit from z at most: 2 |k a - z d| ≤ d
abbrev pub HalfFrom : ℕ → Float → ℤ → Type 0
HalfFrom k nan z = ⊥
HalfFrom k (inf s) z = ⊥
HalfFrom k (fin s m e) z =
    unsigned_abs (pos 2 *ℤ (signed s (m * up e * k) -ℤ z *ℤ pos (down e))) ≤ down e

abbrev pub point_to : ℕ → Vec3 → Point
point_to k v = record { x = nearest_to k v.x; y = nearest_to k v.y; z = nearest_to k v.z }

-- x from -b to b; a NaN is not
abbrev pub within : Float → Float → Bool
within b x = le (absolute x) b

abbrev pub all_within : Float → Vec3 → Bool
all_within b v = within b v.x && (within b v.y && within b v.z)

-- 2, 8,192 and 32,768
abbrev pub two : Float
two = from_bits binary64 0x4000_0000_0000_0000

abbrev pub furthest : Float
furthest = from_bits binary64 0x40c0_0000_0000_0000

abbrev pub longest : Float
longest = from_bits binary64 0x40e0_0000_0000_0000

-- A ray that is read on the grid: its origin within 8,192 mm, each component of its direction within 2, and near and its maximum within
-- 32,768 mm.
unfoldable pub grid_admitted : Ray → Bool
grid_admitted r =
    all_within furthest r.origin
    && (all_within two r.direction && (within longest r.near && within longest r.max_distance))

-- a corner on the grid
abbrev pub grid_point : Vec3 → Point
grid_point = point_to units

-- a ray's segment on the grid
unfoldable pub grid_line : Ray → Line
grid_line r = record {
  origin = grid_point r.origin;
  direction = point_to parts r.direction;
  near = unsigned_abs (nearest_to units r.near);
  far = unsigned_abs (nearest_to units r.max_distance);
}

-- ---- how code reads it: times a power of two, exactly; 1.5 · 2^52 added, which rounds, and taken off again; and cast
abbrev pub rounder : Float
rounder = from_bits binary64 0x4338_0000_0000_0000

-- 2^15 and 2^30
abbrev pub unitsᶠ : Float
unitsᶠ = from_bits binary64 0x40e0_0000_0000_0000

abbrev pub partsᶠ : Float
partsᶠ = from_bits binary64 0x41d0_0000_0000_0000

unfoldable pub read_by : Float → Float → ℤ
read_by factor x = to_signed 63 (sub binary64 (add binary64 (mul binary64 x factor) rounder) rounder)
