-- The drill and a triangle as drawn: the floats as the fractions that they are, no number rounded. Definitions only. Assumes nothing.
use Rattle.std.specs.Prelude.{◌≡◌, ℕ, ◌+◌, ◌*◌, ◌<◌, ◌≤◌, true, ℤ, pos, ◌+ℤ◌, ◌-ℤ◌, ◌*ℤ◌, int_le, Float}
use Rattle.std.specs.Float.{nan, inf, fin}
use Rattle.std.specs.Float.Ieee.{up, down}
use Rattle.vectors.specs.declared.vec3.Vec3.{Vec3}
use Rattle.geometry.specs.declared.ray.Ray.{Ray}
use Rattle.exact_depth.specs.declared.projection.Point.{Point}
use Rattle.exact_triangle.specs.Line.{parts, Line}
use Rattle.exact_triangle.specs.Shear.{from}
use Rattle.exact_triangle.specs.Grid.{units, signed}
use Rattle.drill.specs.Drill.{dot, square, mixed}

-- k x = z / W
abbrev pub Equals : ℕ → ℕ → Float → ℤ → Type 0
Equals k W nan z = ⊥
Equals k W (inf s) z = ⊥
Equals k W (fin s m e) z = signed s (m * up e * k) *ℤ pos W ≡ z *ℤ pos (down e)

pub record EqualsAt (k W : ℕ) (v : Vec3) (p : Point) : Type 0 where
  pub x : Equals k W v.x p.x
  pub y : Equals k W v.y p.y
  pub z : Equals k W v.z p.z

-- A ray, a radius x and a triangle on a grid W times finer, so fine that no number of theirs is rounded: lengths are whole numbers of
-- 2^-15 / W mm, the direction's components of 2^-30 / W.
pub record Drawing (r : Ray) (x : Float) (a b c : Vec3) : Type 0 where
  pub W : ℕ
  pub positive : 0 < W
  pub line : Line
  pub radius : ℕ
  pub first : Point
  pub second : Point
  pub third : Point
  pub origin_is : EqualsAt units W r.origin line.origin
  pub direction_is : EqualsAt parts W r.direction line.direction
  pub near_is : Equals units W r.near (pos line.near)
  pub far_is : Equals units W r.max_distance (pos line.far)
  pub radius_is : Equals units W x (pos radius)
  pub first_is : EqualsAt units W a first
  pub second_is : EqualsAt units W b second
  pub third_is : EqualsAt units W c third

-- `Within` of Drill, on that grid. The point X / D, from the origin, lies in the drill of radius R from lo to hi: its foot on the axis with
-- the
-- direction d, at 2^30 W (X · d) / (|d|² D), is from lo to hi, and the square of its distance to the axis, (|X|² |d|² - (X · d)²) / (|d|²
-- D²),
-- is at most R².
pub record WithinAsDrawn (W : ℕ) (d : Point) (lo hi : ℤ) (R D : ℕ) (X : Point) : Type 0 where
  pub least : int_le (lo *ℤ square d *ℤ pos D) (pos (parts * W) *ℤ dot X d) ≡ true
  pub most : int_le (pos (parts * W) *ℤ dot X d) (hi *ℤ square d *ℤ pos D) ≡ true
  pub close : int_le (square X *ℤ square d -ℤ dot X d *ℤ dot X d) (pos (R * R) *ℤ square d *ℤ (pos D *ℤ pos D)) ≡ true

-- The same by the foot itself, the axis' point at t / T units of the grid: the vector from it to X / D, here D T 2^30 times it, is at right
-- angles to the axis and at most R long. (`foot_within`: such a point is within.)
abbrev pub to_point : Point → ℕ → Point → ℤ → ℕ → Point
to_point d D X t T = record {
  x = pos T *ℤ pos parts *ℤ X.x -ℤ t *ℤ pos D *ℤ d.x;
  y = pos T *ℤ pos parts *ℤ X.y -ℤ t *ℤ pos D *ℤ d.y;
  z = pos T *ℤ pos parts *ℤ X.z -ℤ t *ℤ pos D *ℤ d.z;
}

pub record FootAsDrawn (W : ℕ) (d : Point) (lo hi : ℤ) (R D : ℕ) (X : Point) (t : ℤ) (T : ℕ) : Type 0 where
  pub positive : 0 < T
  pub least : int_le (lo *ℤ pos T) (t *ℤ pos W) ≡ true
  pub most : int_le (t *ℤ pos W) (hi *ℤ pos T) ≡ true
  pub right_angle : dot (to_point d D X t T) d ≡ pos 0
  pub close : int_le (square (to_point d D X t T)) (pos (R * D * T * parts) *ℤ pos (R * D * T * parts)) ≡ true

-- the closed triangle as drawn has such a point
pub record InDrillAsDrawn {r : Ray} {x : Float} {a b c : Vec3} (g : Drawing r x a b c) (lo hi : ℤ) (R : ℕ) : Type 0 where
  pub i : ℕ
  pub j : ℕ
  pub k : ℕ
  pub positive : 0 < i + j + k
  pub within : WithinAsDrawn g.W g.line.direction lo hi R (i + j + k)
      (mixed i j k (from g.line.origin g.first) (from g.line.origin g.second) (from g.line.origin g.third))

-- 4 units of the grid, 2^-13 mm: 0.00012207 mm
abbrev pub margin : ℕ
margin = 4

abbrev pub margin_of : {r : Ray} {x : Float} {a b c : Vec3} → Drawing r x a b c → ℤ
margin_of g = pos (margin * g.W)

-- What 'clear' says of the triangle as drawn: it has no point whose foot on the axis as drawn is from near + 4 units to the maximum - 4
-- units
-- and whose distance to it is at most the radius - 4 units.
abbrev pub ClearAsDrawn : Ray → Float → Vec3 → Vec3 → Vec3 → Type 0
ClearAsDrawn r x a b c =
    (g : Drawing r x a b c) (R : ℕ) → R + margin * g.W ≤ g.radius
    → InDrillAsDrawn g (pos g.line.near +ℤ margin_of g) (pos g.line.far -ℤ margin_of g) R → ⊥

-- What 'touched' says of it: it has a point whose foot is from near - 4 units to the maximum + 4 units and whose distance is at most the
-- radius + 4 units.
abbrev pub TouchedAsDrawn : Ray → Float → Vec3 → Vec3 → Vec3 → Type 0
TouchedAsDrawn r x a b c =
    (g : Drawing r x a b c)
    → InDrillAsDrawn g (pos g.line.near -ℤ margin_of g) (pos g.line.far +ℤ margin_of g) (g.radius + margin * g.W)
