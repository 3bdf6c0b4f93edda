-- Inner contracts only: what the law of the nodes that are opened asks of the triangles' answers. Definitions only. Assumes nothing.
use Rattle.std.specs.Prelude.{ℕ, ◌*◌, ◌<◌, ◌≡◌, true, false, pos, Float}
use Rattle.std.specs.Float.{binary64}
use Rattle.std.specs.Float.Ieee.{neg, round}
use Rattle.geometry.specs.Box.{encloses}
use Rattle.vectors.specs.declared.vec3.Vec3.{Vec3}
use Rattle.geometry.specs.declared.aabb.Aabb.{Aabb}
use Rattle.casts.specs.Answer.{Answer, hit, refused}
use Rattle.tree.specs.Mesh.{Mesh, corner_at, triangle_box, triangle_count}
use Rattle.exact_triangle.specs.Line.{Line}
use Rattle.exact_triangle.specs.Grid.{units, all_within, furthest, grid_point}
use Rattle.exact_triangle.specs.Surface.{Surface}

-- the box of what is read on the grid
abbrev pub grid_box : Aabb
grid_box = record {
  min = record { x = neg furthest; y = neg furthest; z = neg furthest };
  max = record { x = furthest; y = furthest; z = furthest };
}

-- a hit is at a point of the closed segment and the closed triangle, whose corners are read on the grid; its distance is the float nearest
-- to that point's depth, t / D units, which is p / W
pub record HitPoint (l : Line) (a b c : Vec3) (distance : Float) : Type 0 where
  pub first : all_within furthest a ≡ true
  pub second : all_within furthest b ≡ true
  pub third : all_within furthest c ≡ true
  pub D : ℕ
  pub t : ℕ
  pub on : Surface l (grid_point a) (grid_point b) (grid_point c) D (pos t)
  pub W : ℕ
  pub p : ℕ
  pub positive : 0 < W
  pub same : t * W ≡ p * D
  pub nearest : distance ≡ round binary64 false p (W * units)

pub record GridAnswers (l : Line) (m : Mesh) (answer : ℕ → Answer) : Type 0 where
  -- a triangle whose box is within the grid's range does not refuse
  pub answered : (x number : ℕ) → x < triangle_count m → encloses grid_box (triangle_box m.vertices m.triangles x) ≡ true
      → answer x ≡ refused number → ⊥
  pub deep : (x : ℕ) → x < triangle_count m → (normal : Vec3) (distance : Float) → answer x ≡ hit normal distance
      → HitPoint l (corner_at m.vertices m.triangles x 0) (corner_at m.vertices m.triangles x 1)
      (corner_at m.vertices m.triangles x 2) distance
