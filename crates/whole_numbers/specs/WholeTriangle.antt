-- A triangle on whole millimetres, cast at along an axis: the exact crossing, and what the cast answers. Definitions only. Assumes nothing.
use Rattle.std.specs.Prelude.{ℕ, ◌+◌, ◌*◌, ◌^◌, ◌≤◌, ◌<◌, ◌≡◌, true, List, ℤ, pos, negsuc, nat_abs, ◌+ℤ◌, ◌*ℤ◌, ◌≤ℤ◌, ◌<ℤ◌, Float}
use Rattle.std.specs.Float.{nan, inf, fin, binary64}
use Rattle.std.specs.Float.Ieee.{up, down, eq, of_int}
use Rattle.geometry.specs.Box.{corner}
use Rattle.vectors.specs.declared.vec3.Vec3.{Vec3}
use Rattle.geometry.specs.declared.ray.Ray.{Ray}
use Rattle.casts.specs.Answer.{hit, none, refused}
use Rattle.triangle_cast.specs.Triangle.{ray_triangle}
use Rattle.whole_numbers.specs.Points.{Point, sub_p, cross_p, dot_p}

-- ---- what is drawn
-- x equals the whole number z, which is from -B to B; 0 may be -0
pub record Drawn (B : ℕ) (x : Float) (z : ℤ) : Type 0 where
  pub equal : eq x (of_int binary64 z) ≡ true
  pub bound : nat_abs z ≤ B

pub record DrawnAt (B : ℕ) (v : Vec3) (p : Point) : Type 0 where
  pub first : Drawn B v.x p.x
  pub second : Drawn B v.y p.y
  pub third : Drawn B v.z p.z

-- the six axis directions
pub data Axis : Type 0 where
  east west north south upward downward : Axis

abbrev pub along : Axis → Point
along east = record { x = pos 1; y = pos 0; z = pos 0 }
along west = record { x = negsuc 0; y = pos 0; z = pos 0 }
along north = record { x = pos 0; y = pos 1; z = pos 0 }
along south = record { x = pos 0; y = negsuc 0; z = pos 0 }
along upward = record { x = pos 0; y = pos 0; z = pos 1 }
along downward = record { x = pos 0; y = pos 0; z = negsuc 0 }

-- origin o, direction, maximum, and the corners a, b and c, in order
pub record Drawing : Type 0 where
  pub o : Point
  pub direction : Axis
  pub maximum : ℕ
  pub a : Point
  pub b : Point
  pub c : Point

-- "Let corners and origin be whole numbers from -4,096 to 4,096, the direction one of the six axis directions, near 0 and the maximum
-- a whole number from 1 to 16,384."
pub record WholeTriangle (r : Ray) (vs : List Vec3) (g : Drawing) : Type 0 where
  pub origin : DrawnAt 4096 r.origin g.o
  pub direction : DrawnAt 1 r.direction (along g.direction)
  pub near : Drawn 0 r.near (pos 0)
  pub maximum : Drawn 16384 r.max_distance (pos g.maximum)
  pub positive : 1 ≤ g.maximum
  pub first : DrawnAt 4096 (corner vs 0) g.a
  pub second : DrawnAt 4096 (corner vs 1) g.b
  pub third : DrawnAt 4096 (corner vs 2) g.c

-- ---- the exact crossing
abbrev pub scale_p : ℤ → Point → Point
scale_p k p = record { x = k *ℤ p.x; y = k *ℤ p.y; z = k *ℤ p.z }

abbrev pub add_p : Point → Point → Point
add_p p q = record { x = p.x +ℤ q.x; y = p.y +ℤ q.y; z = p.z +ℤ q.z }

-- the edges from the first corner, and their normal
abbrev pub first_edge : Drawing → Point
first_edge g = sub_p g.b g.a

abbrev pub second_edge : Drawing → Point
second_edge g = sub_p g.c g.a

-- the "triangle is degenerate": its edges' cross is 0
abbrev pub Degenerate : Drawing → Type 0
Degenerate g = cross_p (first_edge g) (second_edge g) ≡ record { x = pos 0; y = pos 0; z = pos 0 }

-- "the line is parallel to the triangle's plane": the direction is at right angles to that cross, as it is to that of a degenerate one
abbrev pub Parallel : Drawing → Type 0
Parallel g = dot_p (along g.direction) (cross_p (first_edge g) (second_edge g)) ≡ pos 0

-- The point where the line meets the triangle's plane, over the fractions with the divisor D: it is at the depth t / D, and it is
-- a + (u / D) (b - a) + (v / D) (c - a).
-- origin + (t / D) direction = a + (u / D) (b - a) + (v / D) (c - a), times D
pub record Crossing (g : Drawing) (D : ℕ) (u v t : ℤ) : Type 0 where
  pub divisor : 0 < D
  pub meets : add_p (scale_p (pos D) (sub_p g.o g.a)) (scale_p t (along g.direction))
      ≡ add_p (scale_p u (first_edge g)) (scale_p v (second_edge g))

-- in the triangle and not on the side opposite the first corner; strictly outside
pub record Inside (D : ℕ) (u v : ℤ) : Type 0 where
  pub first : pos 0 ≤ℤ u
  pub second : pos 0 ≤ℤ v
  pub sum : (u +ℤ v) <ℤ pos D

pub data Outside (D : ℕ) (u v : ℤ) : Type 0 where
  first : u <ℤ pos 0 → Outside D u v
  second : v <ℤ pos 0 → Outside D u v
  sum : pos D <ℤ (u +ℤ v) → Outside D u v

-- x lies within 2^-51 times t / D of t / D; where that is 0 x may be -0
abbrev pub Within : Float → ℕ → ℕ → Type 0
Within nan t D = ⊥
Within (inf s) t D = ⊥
Within (fin s m e) t D =
    (s ≡ true → t ≡ 0) ×
    ((2 ^ 51 * (m * up e * D) ≤ 2 ^ 51 * (t * down e) + t * down e) × (2 ^ 51 * (t * down e) ≤ 2 ^ 51 * (m * up e * D) + t * down e))

-- ---- the promise
pub record ExactOnWholeNumbers (r : Ray) (vs : List Vec3) (g : Drawing) : Type 0 where
  -- there is a crossing where the line is not parallel
  pub crosses : (Parallel g → ⊥) → (D : ℕ) × (u : ℤ) × (v : ℤ) × (t : ℤ) × Crossing g D u v t
  -- "the triangle cast hits whenever the exact crossing lies in the triangle, not on the side opposite the first corner, at an exact
  -- depth from 0 to below the maximum"
  pub hits : (Parallel g → ⊥) → (D : ℕ) (u v t : ℤ) → Crossing g D u v t → Inside D u v → pos 0 ≤ℤ t → t <ℤ pos (g.maximum * D)
      → (normal : Vec3) × (distance : Float) × (ray_triangle r vs ≡ hit normal distance)
  -- "it answers none whenever the line is parallel to the triangle's plane, the triangle is degenerate, the crossing is strictly
  -- outside, or the depth is below 0 or above the maximum"
  pub parallel : Parallel g → ray_triangle r vs ≡ none
  pub degenerate : Degenerate g → ray_triangle r vs ≡ none
  pub outside : (D : ℕ) (u v t : ℤ) → Crossing g D u v t → Outside D u v → ray_triangle r vs ≡ none
  pub behind : (D : ℕ) (u v t : ℤ) → Crossing g D u v t → t <ℤ pos 0 → ray_triangle r vs ≡ none
  pub beyond : (D : ℕ) (u v t : ℤ) → Crossing g D u v t → pos (g.maximum * D) <ℤ t → ray_triangle r vs ≡ none
  -- a board is never refused
  pub answers : (number : ℕ) → ray_triangle r vs ≡ refused number → ⊥
  -- "The distance of a hit lies within 2^-51 times the exact depth of that depth."
  pub near : (normal : Vec3) (distance : Float) → ray_triangle r vs ≡ hit normal distance → (D : ℕ) (u v t : ℤ) → Crossing g D u v t
      → Within distance (nat_abs t) D
