-- What one triangle's answer says of the points of a segment in any direction, on the grid. Definitions only. Assumes nothing.
use Rattle.std.specs.Prelude.{Option, Some, None}
use Rattle.std.specs.Prelude.{◌≡◌, ℕ, ◌+◌, ◌<◌, true, ℤ, pos, ◌-ℤ◌, ◌*ℤ◌, int_le}
use Rattle.exact_depth.specs.declared.projection.Fraction.{Fraction}
use Rattle.wide_integers.specs.Determinant.{determinant}
use Rattle.exact_depth.specs.Meeting.{mix}
use Rattle.exact_depth.specs.declared.projection.Point.{Point}
use Rattle.exact_triangle.specs.Line.{parts, Line}

-- origin + (t / D) direction / 2^30 = (i / D) a + (j / D) b + (k / D) c with i + j + k = D: the line's point at t / D units lies in the
-- closed triangle, whose points are the corners' means with weights that are not below 0
pub record Lies (l : Line) (a b c : Point) (D : ℕ) (t : ℤ) : Type 0 where
  pub i : ℕ
  pub j : ℕ
  pub k : ℕ
  pub total : i + j + k ≡ D
  pub x : pos parts *ℤ mix i j k (a.x -ℤ l.origin.x) (b.x -ℤ l.origin.x) (c.x -ℤ l.origin.x) ≡ t *ℤ l.direction.x
  pub y : pos parts *ℤ mix i j k (a.y -ℤ l.origin.y) (b.y -ℤ l.origin.y) (c.y -ℤ l.origin.y) ≡ t *ℤ l.direction.y
  pub z : pos parts *ℤ mix i j k (a.z -ℤ l.origin.z) (b.z -ℤ l.origin.z) (c.z -ℤ l.origin.z) ≡ t *ℤ l.direction.z

-- .. and on the closed segment, from near to far
pub record Surface (l : Line) (a b c : Point) (D : ℕ) (t : ℤ) : Type 0 where
  pub positive : 0 < D
  pub lies : Lies l a b c D t
  pub least : int_le (pos l.near *ℤ pos D) t ≡ true
  pub most : int_le t (pos l.far *ℤ pos D) ≡ true

-- a triangle with area: the cross of its edges from the first corner is not 0
pub record Flat (a b c : Point) : Type 0 where
  pub x : determinant (b.y -ℤ a.y) (b.z -ℤ a.z) (c.y -ℤ a.y) (c.z -ℤ a.z) ≡ pos 0
  pub y : determinant (b.z -ℤ a.z) (b.x -ℤ a.x) (c.z -ℤ a.z) (c.x -ℤ a.x) ≡ pos 0
  pub z : determinant (b.x -ℤ a.x) (b.y -ℤ a.y) (c.x -ℤ a.x) (c.y -ℤ a.y) ≡ pos 0

abbrev pub Apart : Point → Point → Point → Type 0
Apart a b c = Flat a b c → ⊥

-- f is the depth of such a point, in units of the grid, and no such point lies less deep
pub record FirstSurface (l : Line) (a b c : Point) (f : Fraction) : Type 0 where
  pub W : ℕ
  pub positive : 0 < W
  pub denominator : f.w ≡ pos W
  pub D : ℕ
  pub t : ℤ
  pub on : Surface l a b c D t
  pub same : t *ℤ pos W ≡ f.t *ℤ pos D
  pub least : (D' : ℕ) (t' : ℤ) → Surface l a b c D' t' → int_le (f.t *ℤ pos D') (t' *ℤ pos W) ≡ true

-- none exactly if no point of the closed segment lies in the closed triangle with area, and else the first
pub record Certain (l : Line) (a b c : Point) (answer : Option Fraction) : Type 0 where
  pub none : answer ≡ None → Apart a b c → (D : ℕ) (t : ℤ) → Surface l a b c D t → ⊥
  pub area : (f : Fraction) → answer ≡ Some f → Apart a b c
  pub first : (f : Fraction) → answer ≡ Some f → FirstSurface l a b c f
