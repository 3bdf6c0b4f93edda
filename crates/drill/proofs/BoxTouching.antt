-- A triangle with a point in the drill has a box, of its own corners, that touches the drill's box. Assumes nothing.
use mathlib.Core.Path.{◌≡◌, sym}
use mathlib.Core.Bool.{true}
use mathlib.Core.List.{List}
use Prim.Native.Nat.{ℕ, ◌+◌, ◌*◌, ◌≤◌}
use lib.IntN.{ℤ, pos, neg_ℤ, ◌-ℤ◌, ◌*ℤ◌}
use Rattle.lists.proofs.JoinedTests.{and_three}
use Rattle.vectors.specs.Vector.{finite_vec, min_of, max_of}
use Rattle.geometry.specs.Box.{corner, corners_box, touches}
use Rattle.vectors.specs.declared.vec3.Vec3.{Vec3}
use Rattle.exact_depth.specs.declared.projection.Point.{Point}
use Rattle.exact_triangle.specs.Line.{parts, Line, Moves}
use Rattle.exact_triangle.specs.Shear.{from}
use Rattle.exact_triangle.specs.Grid.{grid_point}
use Rattle.exact_triangle.proofs.Touching.{Sizes, finite_at}
use Rattle.drill.specs.Drill.{dot, square, Within, mixed, InDrill}
use Rattle.drill.specs.Box.{drill_box}
use Rattle.wide_integers.proofs.Signs.{Nonneg, natural, nonneg_as, nonneg_sum, nonneg_times, square_nonneg, minus_of_le}
use Rattle.drill.proofs.Identities as Identities
use Rattle.drill.proofs.Drilling.{square_of, square_positive}
use Rattle.drill.proofs.BoxSides.{root_le, past_high, past_low, side_touches_lem}

-- ---- a point in the drill is at most ρ off the axis on each coordinate
module _ (l : Line) (ρ D : ℕ) (X : Point) (w : Within l ρ D X) where
  abbrev d : Point
  d = l.direction

  abbrev q : ℤ
  q = square l.direction

  abbrev h : ℤ
  h = dot X l.direction

  abbrev c : ℤ
  c = pos ρ *ℤ q *ℤ pos D

  abbrev yx : ℤ
  yx = q *ℤ X.x -ℤ h *ℤ d.x

  abbrev yy : ℤ
  yy = q *ℤ X.y -ℤ h *ℤ d.y

  abbrev yz : ℤ
  yz = q *ℤ X.z -ℤ h *ℤ d.z

  reach : Nonneg c
  reach = nonneg_times (nonneg_times (natural ρ) (square_of d)) (natural D)

  close : Nonneg (q *ℤ (pos ρ *ℤ pos ρ *ℤ q *ℤ (pos D *ℤ pos D) -ℤ (square X *ℤ q -ℤ h *ℤ h)))
  close =
      nonneg_times (square_of d)
      (minus_of_le (square X *ℤ q -ℤ h *ℤ h) (pos (ρ * ρ) *ℤ q *ℤ (pos D *ℤ pos D)) w.close)

  both : (y : ℤ) → Nonneg (c *ℤ c -ℤ y *ℤ y) → Nonneg (c -ℤ y) × Nonneg (c -ℤ neg_ℤ y)
  both y p = (root_le c y reach p, root_le c (neg_ℤ y) reach (nonneg_as (sym (Identities.root_back c y)) p))

  pub off_x : Nonneg (c -ℤ yx) × Nonneg (c -ℤ neg_ℤ yx)
  off_x =
      both yx (nonneg_as (Identities.reach_x (pos ρ) (pos D) X.x X.y X.z d.x d.y d.z)
      (nonneg_sum close (nonneg_sum (square_nonneg yy) (square_nonneg yz))))

  pub off_y : Nonneg (c -ℤ yy) × Nonneg (c -ℤ neg_ℤ yy)
  off_y =
      both yy (nonneg_as (Identities.reach_y (pos ρ) (pos D) X.x X.y X.z d.x d.y d.z)
      (nonneg_sum close (nonneg_sum (square_nonneg yx) (square_nonneg yz))))

  pub off_z : Nonneg (c -ℤ yz) × Nonneg (c -ℤ neg_ℤ yz)
  off_z =
      both yz (nonneg_as (Identities.reach_z (pos ρ) (pos D) X.x X.y X.z d.x d.y d.z)
      (nonneg_sum close (nonneg_sum (square_nonneg yx) (square_nonneg yy))))

  pub above_near : Nonneg (pos parts *ℤ h -ℤ pos l.near *ℤ q *ℤ pos D)
  above_near = minus_of_le (pos l.near *ℤ q *ℤ pos D) (pos parts *ℤ h) w.least

  pub below_far : Nonneg (pos l.far *ℤ q *ℤ pos D -ℤ pos parts *ℤ h)
  below_far = minus_of_le (pos parts *ℤ h) (pos l.far *ℤ q *ℤ pos D) w.most

-- ---- every axis
pub drill_touches : (l : Line) → Sizes l → Moves l.direction → (ρ : ℕ) → ρ ≤ 4194304 → (vs : List Vec3)
    → finite_vec (corner vs 0) ≡ true → finite_vec (corner vs 1) ≡ true → finite_vec (corner vs 2) ≡ true
    → InDrill l ρ (grid_point (corner vs 0)) (grid_point (corner vs 1)) (grid_point (corner vs 2))
    → touches (corners_box vs) (drill_box l ρ) ≡ true
unfolding touches corners_box drill_box min_of max_of
drill_touches l sizes moves ρ small vs fa fb fc g =
    let a = finite_at (corner vs 0) fa in
    let b = finite_at (corner vs 1) fb in
    let c = finite_at (corner vs 2) fc in
    let A = grid_point (corner vs 0) in
    let B = grid_point (corner vs 1) in
    let C = grid_point (corner vs 2) in
    let o = l.origin in
    let d = l.direction in
    let i = g.i in
    let j = g.j in
    let k = g.k in
    let X = mixed i j k (from o A) (from o B) (from o C) in
    let q = square d in
    let h = dot X d in
    let pq = square_positive d moves in
    let lo = above_near l ρ (i + j + k) X g.within in
    let hi = below_far l ρ (i + j + k) X g.within in
    let ox = off_x l ρ (i + j + k) X g.within in
    let oy = off_y l ρ (i + j + k) X g.within in
    let oz = off_z l ρ (i + j + k) X g.within in
    and_three _ _ _
    (side_touches_lem o.x d.x l.near l.far sizes.x ρ small (corner vs 0).x (corner vs 1).x (corner vs 2).x a.x b.x
    c.x
    (past_high A.x B.x C.x o.x d.x q h ρ l.near l.far i j k g.positive pq lo hi ox.0 ox.1)
    (past_low A.x B.x C.x o.x d.x q h ρ l.near l.far i j k g.positive pq lo hi ox.0 ox.1))
    (side_touches_lem o.y d.y l.near l.far sizes.y ρ small (corner vs 0).y (corner vs 1).y (corner vs 2).y a.y b.y
    c.y
    (past_high A.y B.y C.y o.y d.y q h ρ l.near l.far i j k g.positive pq lo hi oy.0 oy.1)
    (past_low A.y B.y C.y o.y d.y q h ρ l.near l.far i j k g.positive pq lo hi oy.0 oy.1))
    (side_touches_lem o.z d.z l.near l.far sizes.z ρ small (corner vs 0).z (corner vs 1).z (corner vs 2).z a.z b.z
    c.z
    (past_high A.z B.z C.z o.z d.z q h ρ l.near l.far i j k g.positive pq lo hi oz.0 oz.1)
    (past_low A.z B.z C.z o.z d.z q h ρ l.near l.far i j k g.positive pq lo hi oz.0 oz.1))
