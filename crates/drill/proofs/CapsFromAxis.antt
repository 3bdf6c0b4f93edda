-- Three corners from the axis, at the two caps. Assumes nothing.
use mathlib.Core.Path.{◌≡◌, refl, ap, ◌∙◌}
use lib.IntN.{ℤ, pos, neg_ℤ, ◌+ℤ◌, ◌-ℤ◌, ◌*ℤ◌}
use Rattle.exact_depth.specs.declared.projection.Point.{Point}
use Rattle.exact_triangle.specs.Line.{parts, Line}
use Rattle.drill.specs.Drill.{dot, square}
use Rattle.drill.specs.Decision.{FromAxis, from_axis, cross, level}
use Rattle.drill.proofs.Identities as Identities
use Rattle.drill.proofs.Turns.{Coordinate, X, Y, Z, of, turn_all, turn_two}
use Rattle.drill.proofs.Weighing.{Weights, total, sum_of, sideways, upward, inward}
use Rattle.drill.proofs.Interiors.{leveled}
use Rattle.drill.proofs.Caps.{CapFacts, cap_point}
use Rattle.drill.proofs.AxisCorners.{crossed}

module _ (l : Line) (p q r : Point) where
  abbrev d : Point
  d = l.direction

  abbrev D : ℤ
  D = square l.direction

  abbrev a : FromAxis
  a = from_axis l p

  abbrev b : FromAxis
  b = from_axis l q

  abbrev c : FromAxis
  c = from_axis l r

  abbrev W : ℤ
  W = total (crossed l.direction p q r)

  abbrev T : ℤ
  T = dot (cross p q) r

  -- ---- along a level line
  module _ (ta tb tc : ℤ) (flat : (tb -ℤ tc) *ℤ dot p l.direction +ℤ (tc -ℤ ta) *ℤ dot q l.direction +ℤ (ta -ℤ tb) *ℤ dot r
      l.direction ≡ pos 0) where
    abbrev g : Point
    g = level ta tb tc p q r

    abbrev δ : Weights
    δ = leveled ta tb tc

    across : dot g d ≡ pos 0
    across =
        Identities.level_dot (tb -ℤ tc) (tc -ℤ ta) (ta -ℤ tb) p.x p.y p.z q.x q.y q.z r.x r.y r.z d.x d.y
        d.z ∙ flat

    e_x : sideways a b c δ ≡ g.y *ℤ d.z -ℤ g.z *ℤ d.y
    unfolding from_axis
    e_x = Identities.level_moment_x (tb -ℤ tc) (tc -ℤ ta) (ta -ℤ tb) p.x p.y p.z q.x q.y q.z r.x r.y r.z d.x
        d.y d.z

    e_y : upward a b c δ ≡ g.z *ℤ d.x -ℤ g.x *ℤ d.z
    unfolding from_axis
    e_y = Identities.level_moment_y (tb -ℤ tc) (tc -ℤ ta) (ta -ℤ tb) p.x p.y p.z q.x q.y q.z r.x r.y r.z d.x
        d.y d.z

    e_z : inward a b c δ ≡ g.x *ℤ d.y -ℤ g.y *ℤ d.x
    unfolding from_axis
    e_z = Identities.level_moment_z (tb -ℤ tc) (tc -ℤ ta) (ta -ℤ tb) p.x p.y p.z q.x q.y q.z r.x r.y r.z d.x
        d.y d.z

    s_is : (o : Point) → (o.y *ℤ d.z -ℤ o.z *ℤ d.y) *ℤ sideways a b c δ +ℤ (o.z *ℤ d.x -ℤ o.x *ℤ d.z) *ℤ upward a b c δ
        +ℤ (o.x *ℤ d.y -ℤ o.y *ℤ d.x) *ℤ inward a b c δ ≡ dot o g *ℤ D
    s_is o =
        (λ s. (o.y *ℤ d.z -ℤ o.z *ℤ d.y) *ℤ e_x s +ℤ (o.z *ℤ d.x -ℤ o.x *ℤ d.z) *ℤ e_y s
        +ℤ (o.x *ℤ d.y -ℤ o.y *ℤ d.x) *ℤ e_z s)
        ∙ Identities.moment_dot o.x o.y o.z g.x g.y g.z d.x d.y d.z
        ∙ ap (λ (z : ℤ). dot o g *ℤ D -ℤ dot o d *ℤ z) across
        ∙ Identities.less_nothing (dot o g *ℤ D) (dot o d)

    own_is : (tb -ℤ tc) *ℤ dot p g +ℤ (tc -ℤ ta) *ℤ dot q g +ℤ (ta -ℤ tb) *ℤ dot r g ≡ square g
    own_is = Identities.level_square (tb -ℤ tc) (tc -ℤ ta) (ta -ℤ tb) p.x p.y p.z q.x q.y q.z r.x r.y r.z

    -- ---- the three determinants of s, the heights and one coordinate of the moments, and of s and that coordinate
    abbrev all : ℤ → ℤ → ℤ → ℤ
    all u v w =
        (dot q g *ℤ dot r d -ℤ dot r g *ℤ dot q d) *ℤ u +ℤ (dot r g *ℤ dot p d -ℤ dot p g *ℤ dot r d) *ℤ v
        +ℤ (dot p g *ℤ dot q d -ℤ dot q g *ℤ dot p d) *ℤ w

    abbrev two : ℤ → ℤ → ℤ → ℤ
    two u v w = (dot q g -ℤ dot r g) *ℤ u +ℤ (dot r g -ℤ dot p g) *ℤ v +ℤ (dot p g -ℤ dot q g) *ℤ w

    record Turns (u v w dx gx : ℤ) : Type 0 where
      nx : ℤ
      all_is : all u v w ≡ (dx *ℤ pos 0 -ℤ gx *ℤ D) *ℤ T
      two_is : two u v w ≡ neg_ℤ (gx *ℤ W -ℤ pos 0 *ℤ nx)

    turns : (k : Coordinate) → Turns (of k a.moment) (of k b.moment) (of k c.moment) (of k d) (of k g)
    unfolding from_axis
    turns k = record {
      nx = of k (cross p q) +ℤ of k (cross q r) +ℤ of k (cross r p);
      all_is = turn_all k g p q r d ∙ ap (λ (z : ℤ). (of k d *ℤ z -ℤ of k g *ℤ D) *ℤ T) across;
      two_is =
          turn_two k g p q r d
          ∙ ap (λ (z : ℤ). neg_ℤ (of k g *ℤ W -ℤ z *ℤ (of k (cross p q) +ℤ of k (cross q r) +ℤ of k (cross r p)))) across;
    }

    abbrev S : ℤ
    S = pos parts

    module _ (u v w dx gx : ℤ) (turns : Turns u v w dx gx) (ν : ℤ) where
      near_at : (dot q g *ℤ (S *ℤ dot r d -ℤ ν *ℤ D) -ℤ dot r g *ℤ (S *ℤ dot q d -ℤ ν *ℤ D)) *ℤ u
          +ℤ (dot r g *ℤ (S *ℤ dot p d -ℤ ν *ℤ D) -ℤ dot p g *ℤ (S *ℤ dot r d -ℤ ν *ℤ D)) *ℤ v
          +ℤ (dot p g *ℤ (S *ℤ dot q d -ℤ ν *ℤ D) -ℤ dot q g *ℤ (S *ℤ dot p d -ℤ ν *ℤ D)) *ℤ w
          ≡ neg_ℤ (D *ℤ (S *ℤ T -ℤ ν *ℤ W)) *ℤ gx
      near_at =
          Identities.split_near (dot p g) (dot q g) (dot r g) (dot p d) (dot q d) (dot r d) u v w S (ν *ℤ D)
          ∙ (λ s. S *ℤ turns.all_is s -ℤ ν *ℤ D *ℤ turns.two_is s)
          ∙ Identities.gather_near S ν D T W dx gx turns.nx

      far_at : (dot q g *ℤ (S *ℤ neg_ℤ (dot r d) -ℤ neg_ℤ (ν *ℤ D)) -ℤ dot r g *ℤ (S *ℤ neg_ℤ (dot q d) -ℤ neg_ℤ (ν *ℤ D))) *ℤ u
          +ℤ (dot r g *ℤ (S *ℤ neg_ℤ (dot p d) -ℤ neg_ℤ (ν *ℤ D)) -ℤ dot p g *ℤ (S *ℤ neg_ℤ (dot r d) -ℤ neg_ℤ (ν *ℤ D))) *ℤ v
          +ℤ (dot p g *ℤ (S *ℤ neg_ℤ (dot q d) -ℤ neg_ℤ (ν *ℤ D)) -ℤ dot q g *ℤ (S *ℤ neg_ℤ (dot p d) -ℤ neg_ℤ (ν *ℤ D))) *ℤ w
          ≡ neg_ℤ (D *ℤ (ν *ℤ W -ℤ S *ℤ T)) *ℤ gx
      far_at =
          Identities.split_far (dot p g) (dot q g) (dot r g) (dot p d) (dot q d) (dot r d) u v w S (neg_ℤ (ν *ℤ D))
          ∙ (λ s. neg_ℤ (S *ℤ turns.all_is s) -ℤ neg_ℤ (ν *ℤ D) *ℤ turns.two_is s)
          ∙ Identities.gather_far S ν D T W dx gx turns.nx

  -- ---- the near cap
  near_flat : (dot q d -ℤ dot r d) *ℤ dot p d +ℤ (dot r d -ℤ dot p d) *ℤ dot q d +ℤ (dot p d -ℤ dot q d) *ℤ dot r d ≡ pos 0
  near_flat = Identities.own_level (dot p d) (dot q d) (dot r d)

  pub near_facts : CapFacts d a b c a.low b.low c.low a.height b.height c.height
      (pos parts *ℤ T -ℤ pos l.near *ℤ W) (level a.height b.height c.height p q r)
  unfolding from_axis
  near_facts =
      let ta = dot p d in
      let tb = dot q d in
      let tc = dot r d in
      let ν = pos l.near in
      record {
        N = ν *ℤ D;
        f_a = refl;
        f_b = refl;
        f_c = refl;
        s_a = s_is ta tb tc near_flat p;
        s_b = s_is ta tb tc near_flat q;
        s_c = s_is ta tb tc near_flat r;
        own = own_is ta tb tc near_flat;
        at_x = near_at ta tb tc near_flat a.moment.x b.moment.x c.moment.x d.x (g ta tb tc near_flat).x
            (turns ta tb tc near_flat X) ν;
        at_y = near_at ta tb tc near_flat a.moment.y b.moment.y c.moment.y d.y (g ta tb tc near_flat).y
            (turns ta tb tc near_flat Y) ν;
        at_z = near_at ta tb tc near_flat a.moment.z b.moment.z c.moment.z d.z (g ta tb tc near_flat).z
            (turns ta tb tc near_flat Z) ν;
      }

  -- ---- the far cap
  far_flat : (neg_ℤ (dot q d) -ℤ neg_ℤ (dot r d)) *ℤ dot p d +ℤ (neg_ℤ (dot r d) -ℤ neg_ℤ (dot p d)) *ℤ dot q d
      +ℤ (neg_ℤ (dot p d) -ℤ neg_ℤ (dot q d)) *ℤ dot r d ≡ pos 0
  far_flat = Identities.own_level_back (dot p d) (dot q d) (dot r d)

  high_is : (o : Point) → pos l.far *ℤ D -ℤ pos parts *ℤ dot o d ≡ pos parts *ℤ neg_ℤ (dot o d) -ℤ neg_ℤ (pos l.far *ℤ D)
  high_is o = Identities.high_form (pos parts) (pos l.far *ℤ D) (dot o d)

  pub far_facts : CapFacts d a b c a.high b.high c.high (neg_ℤ a.height) (neg_ℤ b.height) (neg_ℤ c.height)
      (pos l.far *ℤ W -ℤ pos parts *ℤ T) (level (neg_ℤ a.height) (neg_ℤ b.height) (neg_ℤ c.height) p q r)
  unfolding from_axis
  far_facts =
      let ta = neg_ℤ (dot p d) in
      let tb = neg_ℤ (dot q d) in
      let tc = neg_ℤ (dot r d) in
      let ν = pos l.far in
      let γ = g ta tb tc far_flat in
      let at : (u v w : ℤ)
      → sum_of (cap_point a b c γ a.high b.high c.high) u v w
      ≡ (dot q γ *ℤ (pos parts *ℤ tc -ℤ neg_ℤ (ν *ℤ D)) -ℤ dot r γ *ℤ (pos parts *ℤ tb -ℤ neg_ℤ (ν *ℤ D))) *ℤ u
      +ℤ (dot r γ *ℤ (pos parts *ℤ ta -ℤ neg_ℤ (ν *ℤ D)) -ℤ dot p γ *ℤ (pos parts *ℤ tc -ℤ neg_ℤ (ν *ℤ D))) *ℤ v
      +ℤ (dot p γ *ℤ (pos parts *ℤ tb -ℤ neg_ℤ (ν *ℤ D)) -ℤ dot q γ *ℤ (pos parts *ℤ ta -ℤ neg_ℤ (ν *ℤ D))) *ℤ w =
      λ u v w. (λ s. (dot q γ *ℤ high_is r s -ℤ dot r γ *ℤ high_is q s) *ℤ u +ℤ (dot r γ *ℤ high_is p s -ℤ dot p γ *ℤ high_is r s) *ℤ v
      +ℤ (dot p γ *ℤ high_is q s -ℤ dot q γ *ℤ high_is p s) *ℤ w) in
      record {
        N = neg_ℤ (ν *ℤ D);
        f_a = high_is p;
        f_b = high_is q;
        f_c = high_is r;
        s_a = s_is ta tb tc far_flat p;
        s_b = s_is ta tb tc far_flat q;
        s_c = s_is ta tb tc far_flat r;
        own = own_is ta tb tc far_flat;
        at_x = at a.moment.x b.moment.x c.moment.x
            ∙ far_at ta tb tc far_flat a.moment.x b.moment.x c.moment.x d.x γ.x (turns ta tb tc far_flat X) ν;
        at_y = at a.moment.y b.moment.y c.moment.y
            ∙ far_at ta tb tc far_flat a.moment.y b.moment.y c.moment.y d.y γ.y (turns ta tb tc far_flat Y) ν;
        at_z = at a.moment.z b.moment.z c.moment.z
            ∙ far_at ta tb tc far_flat a.moment.z b.moment.z c.moment.z d.z γ.z (turns ta tb tc far_flat Z) ν;
      }
