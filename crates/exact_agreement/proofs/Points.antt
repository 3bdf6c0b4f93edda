-- A drawing on the grid: a point of the segment in its closed triangle there is a crossing in millimetres, and back. Assumes nothing.
use Prim.Native.Nat.{ℕ, ◌+◌, ◌-◌, ◌*◌, ◌≤◌, ◌<◌}
use mathlib.Core.Path.{◌≡◌, ap, ◌∙◌}
use native.Mathlib.Nat.{mul-pos}
use native.Mathlib.Omega.{arith}
use lib.Dec.{lit<}
use lib.IntN.{ℤ, pos, ◌+ℤ◌, ◌*ℤ◌, *ℤ-zero}
use Rattle.exact_depth.specs.declared.projection.Point.{Point}
use Rattle.exact_triangle.specs.Line.{parts, Line}
use Rattle.exact_triangle.specs.Grid.{units}
use Rattle.exact_triangle.specs.Surface.{Lies, Apart}
use Rattle.whole_numbers.specs.Points.{cross_p}
use Rattle.whole_numbers.specs.Points as Points
use Rattle.whole_numbers.specs.WholeTriangle.{Drawing, Parallel, Crossing, along, first_edge, second_edge}
use Rattle.exact_agreement.proofs.Crossings.{to_millimetres, to_units, determinant_zero}

-- k times a point
abbrev pub times : ℕ → Points.Point → Point
times k p = record { x = pos k *ℤ p.x; y = pos k *ℤ p.y; z = pos k *ℤ p.z }

-- the drawing's segment and its corners, in units of the grid
abbrev pub line_on : Drawing → Line
line_on g = record { origin = times units g.o; direction = times parts (along g.direction); near = 0; far = units * g.maximum }

abbrev pub LiesOn : Drawing → ℕ → ℤ → Type 0
LiesOn g = Lies (line_on g) (times units g.a) (times units g.b) (times units g.c)

module _ (g : Drawing) (D : ℕ) (t : ℤ) where
  abbrev o : Points.Point
  o = g.o

  abbrev a : Points.Point
  a = g.a

  abbrev b : Points.Point
  b = g.b

  abbrev c : Points.Point
  c = g.c

  abbrev d : Points.Point
  d = along g.direction

  pub lies_crossing : 0 < D → (s : LiesOn g D t) → Crossing g (D * units) (pos (s.j * units)) (pos (s.k * units)) t
  lies_crossing p s =
      let x = to_millimetres s.i s.j s.k D s.total a.x b.x c.x o.x t d.x s.x in
      let y = to_millimetres s.i s.j s.k D s.total a.y b.y c.y o.y t d.y s.y in
      let z = to_millimetres s.i s.j s.k D s.total a.z b.z c.z o.z t d.z s.z in
      record { divisor = mul-pos p (lit< {m = 0} {n = units} tt); meets = λ n. record { x = x n; y = y n; z = z n } }

  pub crossing_lies : (j k : ℕ) → j + k ≤ D → Crossing g D (pos j) (pos k) t → LiesOn g D (pos units *ℤ t)
  crossing_lies j k n q =
      let i = D - (j + k) in
      let total : i + j + k ≡ D = omega (arith, n) in
      let m = q.meets in
      record {
        i = i;
        j = j;
        k = k;
        total = total;
        x = to_units i j k D total a.x b.x c.x o.x t d.x (ap (λ (p : Points.Point). p.x) m);
        y = to_units i j k D total a.y b.y c.y o.y t d.y (ap (λ (p : Points.Point). p.y) m);
        z = to_units i j k D total a.z b.z c.z o.z t d.z (ap (λ (p : Points.Point). p.z) m);
      }

-- ---- a triangle that the line is not parallel to has area on the grid
module _ (g : Drawing) where
  abbrev normal : Points.Point
  normal = cross_p (first_edge g) (second_edge g)

  times_none : (d x : ℤ) → x ≡ pos 0 → d *ℤ x ≡ pos 0
  times_none d x e = ap (λ (z : ℤ). d *ℤ z) e ∙ *ℤ-zero d

  level : normal.x ≡ pos 0 → normal.y ≡ pos 0 → normal.z ≡ pos 0 → Parallel g
  level x y z =
      let d = along g.direction in
      λ s. times_none d.x normal.x x s +ℤ times_none d.y normal.y y s +ℤ times_none d.z normal.z z s

  pub has_area : (Parallel g → ⊥) → Apart (times units g.a) (times units g.b) (times units g.c)
  has_area f h =
      let a = g.a in
      let b = g.b in
      let c = g.c in
      f (level (determinant_zero a.y b.y c.y a.z b.z c.z h.x)
      (determinant_zero a.z b.z c.z a.x b.x c.x h.y)
      (determinant_zero a.x b.x c.x a.y b.y c.y h.z))
