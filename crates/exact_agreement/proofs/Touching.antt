-- A triangle on whole millimetres that the segment meets on the grid is a candidate: its box touches the segment's. Assumes nothing.
use mathlib.Core.Path.{◌≡◌, sym, ap, ◌∙◌, subst}
use mathlib.Core.Bool.{true}
use Prim.Native.Nat.{ℕ, ◌+◌, ◌*◌, ◌≤◌, ◌<◌}
use native.Mathlib.Nat.{mul-le-mul_right, mul-pos}
use native.Mathlib.Omega.{arith}
use lib.Dec.{lit≤, lit<}
use lib.IntN.{ℤ, pos, negsuc, ◌-ℤ◌, ◌*ℤ◌}
use lib.Ieee.{Float, binary64, add, mul}
use Rattle.lists.proofs.JoinedTests.{and_three}
use Rattle.arithmetic.specs.Extremes.{minimum_of, maximum_of}
use Rattle.arithmetic.proofs.WholeValues.{Is, same}
use Rattle.vectors.specs.Vector.{add_of, scale_of, min_of, max_of}
use Rattle.geometry.specs.Box.{touch_side, touches}
use Rattle.geometry.specs.Segment.{segment_end, segment_box}
use Rattle.geometry.specs.declared.ray.Ray.{Ray}
use Rattle.tree.specs.Mesh.{Mesh, corner_at, triangle_box}
use Rattle.wide_integers.specs.Sizes.{Sized}
use Rattle.exact_depth.specs.Meeting.{mix}
use Rattle.wide_integers.proofs.Integers.{pp, np, size_is}
use Rattle.wide_integers.proofs.Polynomials.{own, own_pos, rep_mul}
use Rattle.wide_integers.proofs.Order.{rep_le}
use Rattle.exact_depth.proofs.Standing.{Stands}
use Rattle.exact_triangle.specs.Grid.{units, grid_line}
use Rattle.exact_triangle.specs.Surface.{Surface}
use Rattle.mesh_exact.specs.Certain.{corner_on}
use Rattle.mesh_exact.proofs.OneTriangle.{depth_whole}
use Rattle.whole_numbers.specs.Points.{Point}
use Rattle.whole_numbers.specs.WholeTriangle.{Axis, east, west, north, south, upward, downward, along}
use Rattle.whole_numbers.specs.WholeMesh.{Plan, drawing_of, WholeMesh}
use Rattle.whole_numbers.proofs.Whole.{WholeVec}
use Rattle.whole_numbers.proofs.Drawings.{drawn, drawn_at}
use Rattle.exact_agreement.specs.Agreement.{WholeCorners}
use Rattle.exact_agreement.proofs.Crossings.{three, mean_millimetres}
use Rattle.exact_agreement.proofs.Readings.{surface_drawn}
use Rattle.exact_agreement.proofs.Sides.{ahead, behind, across}
use Rattle.exact_agreement.proofs.Ends.{end_is}

-- ---- one axis: the direction's component is 1, -1 or 0
data Step : ℤ → Type 0 where
  forth : Step (pos 1)
  back : Step (negsuc 0)
  still : Step (pos 0)

record Steps (p : Point) : Type 0 where
  x : Step p.x
  y : Step p.y
  z : Step p.z

steps : (axis : Axis) → Steps (along axis)
steps east = record { x = forth; y = still; z = still }
steps west = record { x = back; y = still; z = still }
steps north = record { x = still; y = forth; z = still }
steps south = record { x = still; y = back; z = still }
steps upward = record { x = still; y = still; z = forth }
steps downward = record { x = still; y = still; z = back }

module _ (o d far : Float) (O : ℤ) (vo : Stands o O) (small : Sized 4096 O) (F : ℕ) (vf : Is far F 0) (size : F ≤ 16384) where
  abbrev end : Float
  end = add binary64 o (mul binary64 d far)

  -- the end is u - v times the maximum from the origin
  end_at : (u v p n : ℕ) → Is d u v → u ≤ 1 → v ≤ 1 → pp O + u * F + n ≡ p + (np O + v * F) → Is end p n
  end_at u v p n vd l m e =
      let l' : u * F ≤ 1 * F = mul-le-mul_right F l in
      let m' : v * F ≤ 1 * F = mul-le-mul_right F m in
      same end (pp O + u * F) (np O + v * F) p n e
      (end_is o d far (pp O) (np O) u v F vo vd vf (subst (λ (s : ℕ). s ≤ 4096) (size_is O) small.size) size (omega (arith, l', size))
      (omega (arith, m', size)))

  ahead_at : Stands d (pos 1) → Is end (pp O + F) (np O)
  ahead_at vd = end_at 1 0 (pp O + F) (np O) vd (omega arith) (omega arith) (omega arith)

  behind_at : Stands d (negsuc 0) → Is end (pp O) (np O + F)
  behind_at vd = end_at 0 1 (pp O) (np O + F) vd (omega arith) (omega arith) (omega arith)

  across_at : Stands d (pos 0) → Is end (pp O) (np O)
  across_at vd = end_at 0 0 (pp O) (np O) vd (omega arith) (omega arith) (omega arith)

  module _ (a b c : Float) (A B C : ℤ) (va : Stands a A) (vb : Stands b B) (vc : Stands c C) (i j k : ℕ) (t : ℤ) (some : 0 < i + j + k)
      (least : np t ≤ pp t) (most : pp t ≤ F * (i + j + k) + np t) where
    side_touches_lem : (δ : ℤ) → Step δ → Stands d δ → mix i j k (A -ℤ O) (B -ℤ O) (C -ℤ O) ≡ t *ℤ δ
        → touch_side (minimum_of (minimum_of a b) c) (maximum_of (maximum_of a b) c) (minimum_of o end) (maximum_of o end) ≡ true
    side_touches_lem δ forth vd h = ahead a b c o end A B C O va vb vc vo F i j k t some least most (ahead_at vd) h
    side_touches_lem δ back vd h = behind a b c o end A B C O va vb vc vo F i j k t some least most (behind_at vd) h
    side_touches_lem δ still vd h = across a b c o end A B C O va vb vc vo F i j k t some least most (across_at vd) h

-- ---- every axis
module _ (r : Ray) (m : Mesh) (p : Plan) (whole_mesh : WholeMesh r m p) (i : ℕ) (drawing : WholeCorners m p i) where
  corner_whole : (k : ℕ) → k < 3 → WholeVec 4096 (corner_at m.vertices m.triangles i k) (p.corner i k)
  corner_whole k h = drawn_at 4096 _ (p.corner i k) (lit≤ tt) (drawing.corners k h)

  -- the maximum bounds t / D
  reach_most : (D : ℕ) (t : ℤ) (s : Surface (grid_line r) (corner_on m i 0) (corner_on m i 1) (corner_on m i 2) D t) (n : ℕ) → n ≡ D * units
      → pp t ≤ p.maximum * n + np t
  reach_most D t s n e =
      let q = surface_drawn r m p whole_mesh i drawing D t s in
      let h = rep_le (own t) (rep_mul (own_pos (units * p.maximum)) (own_pos D)) q.most in
      subst (λ (n : ℕ). pp t ≤ p.maximum * n + np t) (sym e) (omega (arith, h))

  pub whole_touches : (D : ℕ) (t : ℤ) → Surface (grid_line r) (corner_on m i 0) (corner_on m i 1) (corner_on m i 2) D t
      → touches (triangle_box m.vertices m.triangles i) (segment_box r) ≡ true
  unfolding touches triangle_box segment_box segment_end add_of scale_of min_of max_of
  whole_touches D t s =
      let g = drawing_of p i in
      let o = drawn_at 4096 r.origin p.o (lit≤ tt) whole_mesh.origin in
      let d = drawn_at 1 r.direction (along p.direction) (lit≤ tt) whole_mesh.direction in
      let f = drawn 16384 r.max_distance (pos p.maximum) (lit≤ tt) whole_mesh.maximum in
      let a = corner_whole 0 (lit≤ tt) in
      let b = corner_whole 1 (lit≤ tt) in
      let c = corner_whole 2 (lit≤ tt) in
      let q = (surface_drawn r m p whole_mesh i drawing D t s).lies in
      let I = q.i * units in
      let J = q.j * units in
      let K = q.k * units in
      let F = p.maximum in
      let total : I + J + K ≡ D * units = three q.i q.j q.k units ∙ ap (λ (n : ℕ). n * units) q.total in
      let some : 0 < I + J + K = subst (λ (n : ℕ). 0 < n) (sym total) (mul-pos s.positive (lit< {m = 0} {n = units} tt)) in
      let whole = ap np (depth_whole (grid_line r) _ _ _ D t s) in
      let least : np t ≤ pp t = omega (arith, whole) in
      let most : pp t ≤ F * (I + J + K) + np t = reach_most D t s (I + J + K) total in
      let step = steps p.direction in
      let e = along p.direction in
      and_three _ _ _
      (side_touches_lem _ _ _ p.o.x o.first.value (record { size = o.first.bound }) F f.value f.bound _ _ _
      g.a.x g.b.x g.c.x a.first.value b.first.value c.first.value I J K t some least most e.x step.x
      d.first.value (mean_millimetres q.i q.j q.k D q.total g.a.x g.b.x g.c.x g.o.x t e.x q.x))
      (side_touches_lem _ _ _ p.o.y o.second.value (record { size = o.second.bound }) F f.value f.bound _ _ _
      g.a.y g.b.y g.c.y a.second.value b.second.value c.second.value I J K t some least most e.y step.y
      d.second.value (mean_millimetres q.i q.j q.k D q.total g.a.y g.b.y g.c.y g.o.y t e.y q.y))
      (side_touches_lem _ _ _ p.o.z o.third.value (record { size = o.third.bound }) F f.value f.bound _ _ _
      g.a.z g.b.z g.c.z a.third.value b.third.value c.third.value I J K t some least most e.z step.z
      d.third.value (mean_millimetres q.i q.j q.k D q.total g.a.z g.b.z g.c.z g.o.z t e.z q.z))
