-- The decision is exact: false excludes every point of the triangle in the drill, and true gives one. Assumes nothing.
use mathlib.Core.Path.{◌≡◌, refl, sym, ◌∙◌}
use mathlib.Core.Logic.{◌⊎◌, inl, inr}
use mathlib.Core.Bool.{Bool, true, false, ◌||◌, true≢false}
use Prim.Native.Nat.{ℕ, ◌*◌, ◌≤◌}
use lib.IntN.{ℤ, pos, neg_ℤ, ◌+ℤ◌, ◌-ℤ◌, ◌*ℤ◌}
use Rattle.lists.proofs.JoinedTests.{or_first, or_second}
use Rattle.exact_depth.specs.declared.projection.Point.{Point}
use Rattle.exact_triangle.specs.Line.{parts, Line, Moves}
use Rattle.exact_triangle.specs.Shear.{from}
use Rattle.drill.specs.Drill.{dot, square, InDrill, Decides}
use Rattle.drill.specs.Decision.{FromAxis, from_axis, cross, level, corner_in, crossing_in, foot_in, side_in, cap_in, plane_in, touched_by}
use Rattle.drill.specs.Decision.{touched}
use Rattle.wide_integers.proofs.Signs.{Nonneg, Positive, natural, nonneg_times, nonneg_as}
use Rattle.drill.proofs.Identities as Identities
use Rattle.drill.proofs.Weighing.{Weights, total, low_of, high_of, In}
use Rattle.drill.proofs.Multiples.{turned}
use Rattle.drill.proofs.Corners.{at_first, corner_in_lem}
use Rattle.drill.proofs.Crossings.{other_nonneg, crossing_point, near_crossing, far_crossing}
use Rattle.drill.proofs.AlongSides.{side_foot, Side-found, at_first_corner, at_second_corner, at_near, at_far, at_foot}
use Rattle.drill.proofs.Levels.{Sides-found, on_first, on_second, on_third}
use Rattle.drill.proofs.Footing.{foot}
use Rattle.drill.proofs.Interiors.{level_up, level_down, opposite, Plane-found, on_axis, on_axis_back, on_near, on_far, on_sides}
use Rattle.drill.proofs.Interiors.{interior_decides}
use Rattle.drill.proofs.AxisCorners.{crossed, facts}
use Rattle.drill.proofs.Feet.{reach, foot_in_lem, foot_decides}
use Rattle.drill.proofs.PlaneTests.{axis_passes, axis_back_passes, near_passes, far_passes, plane_says}
use Rattle.drill.proofs.Caps.{cap_point, cap_decides, cap_size, cap_zero, cap_in_lem}
use Rattle.drill.proofs.CapsFromAxis.{near_facts, far_facts}
use Rattle.drill.proofs.Drilling.{square_of, square_positive, ends_nonneg, ends_apart, weighed_point, point_of_lem}
use Rattle.drill.proofs.Seven.{either, OneOf, first_corner_lem, second_corner_lem, third_corner, first_side, second_side, third_side}
use Rattle.drill.proofs.Seven.{in_plane_lem}
use Rattle.drill.proofs.Seven.{seven, passes, passed}

module _ (l : Line) (ρ : ℕ) (p q r : Point) where
  abbrev d : Point
  d = l.direction

  abbrev D : ℤ
  D = square l.direction

  abbrev R : ℤ
  R = reach ρ l.direction

  abbrev a : FromAxis
  a = from_axis l p

  abbrev b : FromAxis
  b = from_axis l q

  abbrev c : FromAxis
  c = from_axis l r

  abbrev n : Weights
  n = crossed l.direction p q r

  abbrev T : ℤ
  T = pos parts *ℤ dot (cross p q) r

  abbrev f : ℤ
  f = T -ℤ pos l.near *ℤ total n

  abbrev h : ℤ
  h = pos l.far *ℤ total n -ℤ T

  abbrev g : Point
  g = level a.height b.height c.height p q r

  abbrev g' : Point
  g' = level (neg_ℤ a.height) (neg_ℤ b.height) (neg_ℤ c.height) p q r

  abbrev near_test : Bool
  near_test = cap_in ρ d g f a.at b.at c.at a.low b.low c.low

  abbrev far_test : Bool
  far_test = cap_in ρ d g' h a.at b.at c.at a.high b.high c.high

  abbrev plane_test : Bool
  plane_test = plane_in near_test far_test n.i n.j n.k f h

  abbrev One : Type 0
  One = OneOf (corner_in R a) (corner_in R b) (corner_in R c) (side_in ρ d R a b) (side_in ρ d R b c) (side_in ρ d R c a) plane_test

  abbrev all : Bool
  all = seven (corner_in R a) (corner_in R b) (corner_in R c) (side_in ρ d R a b) (side_in ρ d R b c) (side_in ρ d R c a) plane_test

  tests_are : touched_by l ρ a b c ≡ all
  unfolding touched_by from_axis
  tests_are = refl

  -- ---- the axis' point
  low_is : low_of a b c n ≡ D *ℤ f
  unfolding from_axis
  low_is = Identities.axis_low (pos parts) (pos l.near) p.x p.y p.z q.x q.y q.z r.x r.y r.z d.x d.y
      d.z

  high_is : high_of a b c n ≡ D *ℤ h
  unfolding from_axis
  high_is = Identities.axis_high (pos parts) (pos l.far) p.x p.y p.z q.x q.y q.z r.x r.y r.z d.x d.y
      d.z

  abbrev M : ℤ
  M = pos l.far -ℤ pos l.near

  ends_are : f +ℤ h ≡ M *ℤ total n
  ends_are = Identities.both_ends T (pos l.far) (pos l.near) (total n)

  R-nonneg : Nonneg R
  R-nonneg = nonneg_times (natural (ρ * ρ)) (square_of d)

  -- ---- a point in the drill makes a test pass
  module _ (pd : Positive D) (ends : l.near ≤ l.far) where
    foot_one : (o s : Point) (t : FromAxis)
        → In R (from_axis l o) (from_axis l s) t (side_foot (from_axis l o) (from_axis l s))
        → (corner_in R (from_axis l o) ≡ true) ⊎ ((corner_in R (from_axis l s) ≡ true)
        ⊎ (foot_in ρ d (from_axis l o) (from_axis l s) ≡ true))
    foot_one o s t k = foot_decides ρ l o s t pd k

    -- a side's tests
    side_one : (o s : Point) (t : FromAxis) → Side-found R (from_axis l o) (from_axis l s) t
        → (corner_in R (from_axis l o) ≡ true) ⊎ ((corner_in R (from_axis l s) ≡ true)
        ⊎ (side_in ρ d R (from_axis l o) (from_axis l s) ≡ true))
    side_one o s t found =
        pick (crossing_in R (from_axis l o).moment (from_axis l s).moment (from_axis l o).low (from_axis l s).low)
        (crossing_in R (from_axis l o).moment (from_axis l s).moment (from_axis l o).high (from_axis l s).high) refl refl found
      where
        pick : (u v : Bool) → crossing_in R (from_axis l o).moment (from_axis l s).moment (from_axis l o).low (from_axis l s).low ≡ u
            → crossing_in R (from_axis l o).moment (from_axis l s).moment (from_axis l o).high (from_axis l s).high ≡ v
            → Side-found R (from_axis l o) (from_axis l s) t
            → (corner_in R (from_axis l o) ≡ true) ⊎ ((corner_in R (from_axis l s) ≡ true) ⊎
            ((u || (v || foot_in ρ d (from_axis l o) (from_axis l s))) ≡ true))
        pick u v e k (at_first_corner m) = inl m
        pick u v e k (at_second_corner m) = inr (inl m)
        pick u v e k (at_near m) = inr (inr (or_first u (v || foot_in ρ d (from_axis l o) (from_axis l s)) (sym e ∙ m)))
        pick u v e k (at_far m) =
            inr (inr (or_second u (v || foot_in ρ d (from_axis l o) (from_axis l s))
            (or_first v (foot_in ρ d (from_axis l o) (from_axis l s)) (sym k ∙ m))))
        pick u v e k (at_foot m) = elim (foot_one o s t m) [
          | inl y ↦ inl y
          | inr (inl y) ↦ inr (inl y)
          | inr (inr y) ↦
              inr (inr (or_second u (v || foot_in ρ d (from_axis l o) (from_axis l s))
              (or_second v (foot_in ρ d (from_axis l o) (from_axis l s)) y)))
        ]

    sides_one : Sides-found R a b c → One
    sides_one (on_first s) = elim (side_one p q c s) [
      | inl m ↦ first_corner_lem m
      | inr (inl m) ↦ second_corner_lem m
      | inr (inr m) ↦ first_side m
    ]
    sides_one (on_second s) = elim (side_one q r a s) [
      | inl m ↦ second_corner_lem m
      | inr (inl m) ↦ third_corner m
      | inr (inr m) ↦ second_side m
    ]
    sides_one (on_third s) = elim (side_one r p b s) [
      | inl m ↦ third_corner m
      | inr (inl m) ↦ first_corner_lem m
      | inr (inr m) ↦ third_side m
    ]

    near_one : (z : Weights) → Positive (total z) → low_of a b c z ≡ pos 0
        → In R a b c (foot a b c z (level_up a b c)) → near_test ≡ true
    near_one z pz e k =
        cap_decides ρ d a b c a.low b.low c.low a.height b.height c.height f g (near_facts l p q r) z pz e pd k

    far_one : (z : Weights) → Positive (total z) → high_of a b c z ≡ pos 0
        → In R a b c (foot a b c z (level_down a b c)) → far_test ≡ true
    far_one z pz e k =
        cap_decides ρ d a b c a.high b.high c.high (neg_ℤ a.height) (neg_ℤ b.height) (neg_ℤ c.height) h g'
        (far_facts l p q r) z pz e pd k

    M-nonneg : Nonneg M
    M-nonneg = ends_nonneg l.near l.far ends

    one : Plane-found R a b c n → One
    one (on_axis k) =
        in_plane_lem (axis_passes R a b c n D f h M low_is high_is (facts l p q r).axis_x (facts l p q r).axis_y (facts l p q r).axis_z
        near_test far_test pd k)
    one (on_axis_back k) =
        in_plane_lem (axis_back_passes R a b c n D f h M low_is high_is (facts l p q r).axis_x (facts l p q r).axis_y
        (facts l p q r).axis_z near_test far_test pd k)
    one (on_near why z pz e k) =
        in_plane_lem (near_passes R a b c n D f h M low_is high_is (facts l p q r).axis_x (facts l p q r).axis_y (facts l p q r).axis_z
        near_test far_test pd why (near_one z pz e k))
    one (on_far why z pz e k) =
        in_plane_lem (far_passes R a b c n D f h M low_is high_is (facts l p q r).axis_x (facts l p q r).axis_y (facts l p q r).axis_z
        near_test far_test pd M-nonneg ends_are why (far_one z pz e k))
    one (on_sides s) = sides_one s

    pub fires : (x : Weights) → In R a b c x → touched_by l ρ a b c ≡ true
    fires x k =
        tests_are
        ∙ passes (corner_in R a) (corner_in R b) (corner_in R c) (side_in ρ d R a b) (side_in ρ d R b c) (side_in ρ d R c a)
        plane_test (one (interior_decides R a b c n (facts l p q r) R-nonneg x k))

  -- ---- a test that passes gives a point in the drill
  module _ (ends : l.near ≤ l.far) where
    abbrev L : ℤ
    L = pos l.far *ℤ D -ℤ pos l.near *ℤ D

    L-nonneg : Nonneg L
    L-nonneg = ends_apart l.near l.far D ends (square_of d)

    high_of_lem : (o : Point) → (from_axis l o).high ≡ L -ℤ (from_axis l o).low
    unfolding from_axis
    high_of_lem o = Identities.high_other (pos l.far *ℤ D) (pos l.near *ℤ D) (pos parts *ℤ dot o d)

    low_of_lem : (o : Point) → (from_axis l o).low ≡ L -ℤ (from_axis l o).high
    unfolding from_axis
    low_of_lem o = Identities.low_other (pos l.far *ℤ D) (pos l.near *ℤ D) (pos parts *ℤ dot o d)

    abbrev pub Some : FromAxis → FromAxis → FromAxis → Type 0
    Some x y z = (w : Weights) × In R x y z w

    turn : (x y z : FromAxis) → Some x y z → Some y z x
    turn x y z (w, k) = (record { i = w.j; j = w.k; k = w.i }, turned R x y z w k)

    side_some : (o s t : Point) → side_in ρ d R (from_axis l o) (from_axis l s) ≡ true
        → Some (from_axis l o) (from_axis l s) (from_axis l t)
    side_some o s t k =
        let x = from_axis l o in
        let y = from_axis l s in
        let z = from_axis l t in
        elim (either (crossing_in R x.moment y.moment x.low y.low)
        (crossing_in R x.moment y.moment x.high y.high || foot_in ρ d x y) k) [
          | inl m ↦
              let c' = crossing_point R x y z x.low y.low z.low m in
              (c'.w, near_crossing R x y z L L-nonneg (high_of_lem o) (high_of_lem s) (high_of_lem t) c')
          | inr m ↦ elim (either (crossing_in R x.moment y.moment x.high y.high) (foot_in ρ d x y) m) [
            | inl v ↦
                let c' = crossing_point R x y z x.high y.high z.high v in
                (c'.w, far_crossing R x y z L L-nonneg (low_of_lem o) (low_of_lem s) (low_of_lem t) c')
            | inr v ↦ (side_foot x y, foot_in_lem ρ l o s z v)
          ]
        ]

    near_some : near_test ≡ true → Some a b c
    near_some k =
        let F = near_facts l p q r in
        let w = cap_point a b c g a.low b.low c.low in
        let size : Positive (total w) =
        cap_size ρ d a b c a.low b.low c.low a.height b.height c.height f g F (square_of d) k in
        let zero : low_of a b c w ≡ pos 0 =
        cap_zero ρ d a b c a.low b.low c.low a.height b.height c.height f g F (square_of d) k in (
          w,
          cap_in_lem ρ d a b c a.low b.low c.low a.height b.height c.height f g F (square_of d) k
              (nonneg_as (sym zero) (natural 0))
              (other_nonneg w a.low b.low c.low a.high b.high c.high L (high_of_lem p) (high_of_lem q)
              (high_of_lem r) zero L-nonneg size),
        )

    far_some : far_test ≡ true → Some a b c
    far_some k =
        let F = far_facts l p q r in
        let w = cap_point a b c g' a.high b.high c.high in
        let size : Positive (total w) =
        cap_size ρ d a b c a.high b.high c.high (neg_ℤ a.height) (neg_ℤ b.height) (neg_ℤ c.height) h g' F (square_of d) k in
        let zero : high_of a b c w ≡ pos 0 =
        cap_zero ρ d a b c a.high b.high c.high (neg_ℤ a.height) (neg_ℤ b.height) (neg_ℤ c.height) h g' F (square_of d)
        k in (
          w,
          cap_in_lem ρ d a b c a.high b.high c.high (neg_ℤ a.height) (neg_ℤ b.height) (neg_ℤ c.height) h g' F (square_of d) k
              (other_nonneg w a.high b.high c.high a.low b.low c.low L (low_of_lem p) (low_of_lem q)
              (low_of_lem r) zero L-nonneg size)
              (nonneg_as (sym zero) (natural 0)),
        )

    some : One → Some a b c
    some (first_corner_lem k) = (at_first, corner_in_lem R a b c k)
    some (second_corner_lem k) = turn c a b (turn b c a (at_first, corner_in_lem R b c a k))
    some (third_corner k) = turn c a b (at_first, corner_in_lem R c a b k)
    some (first_side k) = side_some p q r k
    some (second_side k) = turn c a b (turn b c a (side_some q r p k))
    some (third_side k) = turn c a b (side_some r p q k)
    some (in_plane_lem k) = elim (plane_says R a b c n D f h M low_is high_is (facts l p q r).axis_x (facts l p q r).axis_y
        (facts l p q r).axis_z near_test far_test R-nonneg (square_of d) k) [
          | inl m ↦ near_some m
          | inr (inl m) ↦ far_some m
          | inr (inr (inl m)) ↦ (n, m)
          | inr (inr (inr m)) ↦ (opposite n, m)
        ]

    pub gives : touched_by l ρ a b c ≡ true → Some a b c
    gives k =
        some (passed (corner_in R a) (corner_in R b) (corner_in R c) (side_in ρ d R a b) (side_in ρ d R b c) (side_in ρ d R c a) plane_test
        (sym tests_are ∙ k))

-- ---- the theorem
module _ (l : Line) (ρ : ℕ) (a b c : Point) where
  -- false excludes every point
  pub clear_certain : Moves l.direction → l.near ≤ l.far → touched l ρ a b c ≡ false → InDrill l ρ a b c → ⊥
  unfolding touched
  clear_certain m ends e k =
      true≢false
      (sym (fires l ρ (from l.origin a) (from l.origin b) (from l.origin c) (square_positive l.direction m) ends
      (record { i = pos k.i; j = pos k.j; k = pos k.k }) (weighed_point l ρ a b c k)) ∙ e)

  -- true gives one
  pub touched_certain : l.near ≤ l.far → touched l ρ a b c ≡ true → InDrill l ρ a b c
  unfolding touched
  touched_certain ends e =
      let k = gives l ρ (from l.origin a) (from l.origin b) (from l.origin c) ends e in
      point_of_lem l ρ a b c k.0 k.1

  pub touched_decides : Moves l.direction → l.near ≤ l.far → Decides l ρ a b c (touched l ρ a b c)
  touched_decides m ends = record { touched = touched_certain ends; clear = clear_certain m ends }
