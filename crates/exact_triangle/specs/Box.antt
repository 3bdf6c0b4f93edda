-- The box that every triangle has to touch which a segment on the grid meets. Definitions only. Assumes nothing.
use Rattle.std.specs.Prelude.{ℕ, suc, true, false, cond, ℤ, pos, negsuc, ◌+ℤ◌, ◌-ℤ◌, ◌*ℤ◌, int_le, Float}
use Rattle.std.specs.Int.Signed.{shr_z}
use Rattle.std.specs.Float.{binary64}
use Rattle.std.specs.Float.Ieee.{round}
use Rattle.geometry.specs.declared.aabb.Aabb.{Aabb}
use Rattle.exact_triangle.specs.Line.{parts, Line}
use Rattle.exact_triangle.specs.Grid.{units}

-- z units in millimetres; exact up to 2^53 units
abbrev pub in_millimetres : ℤ → Float
in_millimetres (pos n) = round binary64 false n units
in_millimetres (negsuc n) = round binary64 true (suc n) units

-- one coordinate of the line's point at s units, rounded down
abbrev pub floor_at : ℤ → ℤ → ℕ → ℤ
floor_at o d s = shr_z (pos parts *ℤ o +ℤ pos s *ℤ d) parts

abbrev pub lesser : ℤ → ℤ → ℤ
lesser x y = cond (int_le x y) x y

abbrev pub greater : ℤ → ℤ → ℤ
greater x y = cond (int_le x y) y x

-- the lower of the segment's two ends, one unit lower; the higher, one unit higher
unfoldable pub low_side : ℤ → ℤ → ℕ → ℕ → Float
low_side o d near far = in_millimetres (lesser (floor_at o d near) (floor_at o d far) -ℤ pos 1)

unfoldable pub high_side : ℤ → ℤ → ℕ → ℕ → Float
high_side o d near far = in_millimetres (greater (floor_at o d near) (floor_at o d far) +ℤ pos 1)

unfoldable pub certain_box : Line → Aabb
certain_box l =
    let o = l.origin in
    let d = l.direction in
    record {
      min = record {
        x = low_side o.x d.x l.near l.far;
        y = low_side o.y d.y l.near l.far;
        z = low_side o.z d.z l.near l.far;
      };
      max = record {
        x = high_side o.x d.x l.near l.far;
        y = high_side o.y d.y l.near l.far;
        z = high_side o.z d.z l.near l.far;
      };
    }
