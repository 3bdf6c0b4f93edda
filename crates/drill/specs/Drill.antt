-- The points of a triangle in a drill: a closed, flat-ended cylinder about a segment on the grid. Definitions only. Assumes nothing.
use Rattle.std.specs.Prelude.{ℕ, ◌+◌, ◌*◌, ◌<◌, ◌≡◌, Bool, true, false, ℤ, pos, ◌+ℤ◌, ◌-ℤ◌, ◌*ℤ◌}
use Rattle.std.specs.Int.Signed.{le_z}
use Rattle.exact_depth.specs.declared.projection.Point.{Point}
use Rattle.exact_depth.specs.Meeting.{mix}
use Rattle.exact_triangle.specs.Line.{parts, Line}
use Rattle.exact_triangle.specs.Shear.{from}

abbrev pub dot : Point → Point → ℤ
dot p q = p.x *ℤ q.x +ℤ p.y *ℤ q.y +ℤ p.z *ℤ q.z

abbrev pub square : Point → ℤ
square p = dot p p

-- The point X / D, from the origin, lies in the drill: its foot on the axis, at 2^30 (X · d) / (|d|² D) units, is from near to far, and
-- the square of its distance to the axis, (|X|² |d|² - (X · d)²) / (|d|² D²), is at most ρ².
pub record Within (l : Line) (ρ D : ℕ) (X : Point) : Type 0 where
  pub least : le_z (pos l.near *ℤ square l.direction *ℤ pos D) (pos parts *ℤ dot X l.direction) ≡ true
  pub most : le_z (pos parts *ℤ dot X l.direction) (pos l.far *ℤ square l.direction *ℤ pos D) ≡ true
  pub close : le_z (square X *ℤ square l.direction -ℤ dot X l.direction *ℤ dot X l.direction)
      (pos (ρ * ρ) *ℤ square l.direction *ℤ (pos D *ℤ pos D)) ≡ true

-- i p + j q + k r
abbrev pub mixed : ℕ → ℕ → ℕ → Point → Point → Point → Point
mixed i j k p q r = record {
  x = mix i j k p.x q.x r.x;
  y = mix i j k p.y q.y r.y;
  z = mix i j k p.z q.z r.z;
}

-- the closed triangle a, b, c, with area or without, has a point in the drill: the corners' mean with weights that are not below 0
pub record InDrill (l : Line) (ρ : ℕ) (a b c : Point) : Type 0 where
  pub i : ℕ
  pub j : ℕ
  pub k : ℕ
  pub positive : 0 < i + j + k
  pub within : Within l ρ (i + j + k) (mixed i j k (from l.origin a) (from l.origin b) (from l.origin c))

-- what an answer says: true gives such a point, false excludes every one
pub record Decides (l : Line) (ρ : ℕ) (a b c : Point) (answer : Bool) : Type 0 where
  pub touched : answer ≡ true → InDrill l ρ a b c
  pub clear : answer ≡ false → InDrill l ρ a b c → ⊥
