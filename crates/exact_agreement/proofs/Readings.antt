-- What is drawn on whole millimetres is read on the grid without error. Assumes nothing.
use Prim.Native.Nat.{ℕ, ◌^◌, ◌≤◌, ◌<◌}
use mathlib.Core.Path.{◌≡◌, sym, ap, subst}
use lib.Dec.{lit≤}
use lib.IntN.{ℤ, pos, nat_abs}
use Rattle.vectors.specs.declared.vec3.Vec3.{Vec3}
use Rattle.geometry.specs.declared.ray.Ray.{Ray}
use Rattle.tree.specs.Mesh.{Mesh}
use Rattle.exact_depth.specs.declared.projection.Point.{Point}
use Rattle.exact_triangle.specs.Line.{parts, Line}
use Rattle.exact_triangle.specs.Grid.{units, point_to, grid_line}
use Rattle.exact_triangle.specs.Surface.{Surface, Apart}
use Rattle.exact_triangle.proofs.Readings.{reads}
use Rattle.mesh_exact.specs.Certain.{corner_on}
use Rattle.whole_numbers.specs.Points as Points
use Rattle.whole_numbers.specs.WholeTriangle.{Drawing, DrawnAt, along}
use Rattle.whole_numbers.specs.WholeMesh.{Plan, drawing_of, WholeMesh}
use Rattle.whole_numbers.proofs.Drawings.{drawn}
use Rattle.exact_agreement.specs.Agreement.{WholeCorners}
use Rattle.exact_agreement.proofs.Points.{times, line_on}

drawn_read : (k B : ℕ) (v : Vec3) (p : Points.Point) → B ≤ 2 ^ 53 → DrawnAt B v p → point_to k v ≡ times k p
drawn_read k B v p l d =
    let x = reads k v.x p.x (drawn B v.x p.x l d.first).value in
    let y = reads k v.y p.y (drawn B v.y p.y l d.second).value in
    let z = reads k v.z p.z (drawn B v.z p.z l d.third).value in
    λ s. record { x = x s; y = y s; z = z s }

-- a line and a triangle on the grid
record Placed : Type 0 where
  line : Line
  a : Point
  b : Point
  c : Point

module _ (r : Ray) (m : Mesh) (p : Plan) (whole_mesh : WholeMesh r m p) where
  line_read : (i : ℕ) → grid_line r ≡ line_on (drawing_of p i)
  unfolding grid_line
  line_read i =
      let o = drawn_read units 4096 r.origin p.o (lit≤ tt) whole_mesh.origin in
      let d = drawn_read parts 1 r.direction (along p.direction) (lit≤ tt) whole_mesh.direction in
      let n = ap nat_abs (reads units r.near (pos 0) (drawn 0 r.near (pos 0) (lit≤ tt) whole_mesh.near).value) in
      let far = r.max_distance in
      let f = ap nat_abs (reads units far (pos p.maximum) (drawn 16384 far (pos p.maximum) (lit≤ tt) whole_mesh.maximum).value) in
      λ s. record { origin = o s; direction = d s; near = n s; far = f s }

  module _ (i : ℕ) (drawing : WholeCorners m p i) where
    abbrev g : Drawing
    g = drawing_of p i

    corner_read : (k : ℕ) → k < 3 → corner_on m i k ≡ times units (p.corner i k)
    corner_read k h = drawn_read units 4096 _ (p.corner i k) (lit≤ tt) (drawing.corners k h)

    abbrev read : Placed
    read = record { line = grid_line r; a = corner_on m i 0; b = corner_on m i 1; c = corner_on m i 2 }

    abbrev placed : Placed
    placed = record { line = line_on g; a = times units g.a; b = times units g.b; c = times units g.c }

    same : read ≡ placed
    same =
        let l = line_read i in
        let a = corner_read 0 (lit≤ tt) in
        let b = corner_read 1 (lit≤ tt) in
        let c = corner_read 2 (lit≤ tt) in
        λ s. record { line = l s; a = a s; b = b s; c = c s }

    abbrev SurfaceOf : ℕ → ℤ → Placed → Type 0
    SurfaceOf D t q = Surface q.line q.a q.b q.c D t

    pub surface_drawn : (D : ℕ) (t : ℤ) → Surface (grid_line r) (corner_on m i 0) (corner_on m i 1) (corner_on m i 2) D t
        → Surface (line_on g) (times units g.a) (times units g.b) (times units g.c) D t
    surface_drawn D t s = subst (SurfaceOf D t) same s

    pub surface_read : (D : ℕ) (t : ℤ) → Surface (line_on g) (times units g.a) (times units g.b) (times units g.c) D t
        → Surface (grid_line r) (corner_on m i 0) (corner_on m i 1) (corner_on m i 2) D t
    surface_read D t s = subst (SurfaceOf D t) (sym same) s

    pub area_read : Apart (times units g.a) (times units g.b) (times units g.c)
        → Apart (corner_on m i 0) (corner_on m i 1) (corner_on m i 2)
    area_read f = subst (λ (q : Placed). Apart q.a q.b q.c) (sym same) f
