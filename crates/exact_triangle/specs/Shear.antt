-- A triangle as a line in any direction sees it, and the first point of the segment in it. Definitions only. Assumes nothing.
use Rattle.std.specs.Prelude.{Option, Some, None}
use Rattle.exact_depth.specs.declared.projection.Fraction.{Fraction}
use Rattle.std.specs.Prelude.{ℕ, ◌*◌, cond, ◌&&◌, ℤ, pos, negsuc, ◌-ℤ◌, ◌*ℤ◌, neg_ℤ, nat_le, unsigned_abs}
use Rattle.exact_depth.specs.declared.projection.Projected.{Projected}
use Rattle.exact_depth.specs.FirstPoint.{first_point}
use Rattle.exact_depth.specs.declared.projection.Point.{Point}
use Rattle.exact_triangle.specs.Line.{parts, Line}

-- the axis that the depth is measured along
pub data Main : Type 0 where
  alongX alongY alongZ : Main

-- the one along which a direction goes furthest; of equal ones x before y before z
unfoldable pub main_of : Point → Main
main_of d =
    cond (nat_le (unsigned_abs d.y) (unsigned_abs d.x) && nat_le (unsigned_abs d.z) (unsigned_abs d.x)) alongX
    (cond (nat_le (unsigned_abs d.z) (unsigned_abs d.y)) alongY alongZ)

-- a point's coordinate on that axis is its depth, and the two others, in cyclic order, are across and up
abbrev pub facing : Main → Point → Projected
facing alongX p = record { across = p.y; up = p.z; depth = p.x }
facing alongY p = record { across = p.z; up = p.x; depth = p.y }
facing alongZ p = record { across = p.x; up = p.y; depth = p.z }

-- 2^30 with the sign of the direction's depth
abbrev pub ahead : ℤ → ℤ
ahead (pos n) = pos parts
ahead (negsuc n) = neg_ℤ (pos parts)

-- The space sheared so that the line with the direction d is where across and up are 0; the point s d / 2^30 gets the depth s |d's depth|
abbrev pub sheared : Projected → Projected → Projected
sheared d p = record {
  across = p.across *ℤ d.depth -ℤ p.depth *ℤ d.across;
  up = p.up *ℤ d.depth -ℤ p.depth *ℤ d.up;
  depth = ahead d.depth *ℤ p.depth;
}

-- what lies where p does, from the origin o
abbrev pub from : Point → Point → Point
from o p = record { x = p.x -ℤ o.x; y = p.y -ℤ o.y; z = p.z -ℤ o.z }

abbrev pub heading : Line → Projected
heading l = facing (main_of l.direction) l.direction

-- a corner as the line sees it
abbrev pub projected_of : Line → Point → Projected
projected_of l p = sheared (heading l) (facing (main_of l.direction) (from l.origin p))

-- how much depth there is to a unit of the grid along the line
abbrev pub gain : Line → ℕ
gain l = unsigned_abs (heading l).depth

-- a depth as a number of the grid's units along the line
abbrev pub in_units : ℕ → Option Fraction → Option Fraction
in_units g (Some f) = Some (record { t = f.t; w = f.w *ℤ pos g })
in_units g None = None

-- the first point of the segment in the closed triangle
unfoldable pub depth_of : Line → Point → Point → Point → Option Fraction
depth_of l a b c =
    in_units (gain l) (first_point (projected_of l a) (projected_of l b) (projected_of l c) (pos (l.near * gain l)) (pos (l.far * gain l)))
