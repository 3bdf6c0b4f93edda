-- A drill of radius 0 is the segment: a triangle has a point in it exactly if the segment meets it; and a wider drill holds what a narrower
-- one does. Assumes nothing.
use mathlib.Core.Path.{◌≡◌, refl, sym, ap, ◌∙◌, subst}
use Prim.Native.Nat.{ℕ, suc, ◌+◌, ◌*◌, ◌≤◌, ◌<◌}
use native.Mathlib.Nat.{mul-pos, zero-lt-suc}
use native.Mathlib.Omega.{arith}
use lib.IntN.{ℤ, pos, neg_ℤ, neg_ℤ-neg_ℤ, ◌+ℤ◌, ◌-ℤ◌, ◌*ℤ◌}
use Rattle.wide_integers.proofs.Polynomials.{own_pos, equal_of_minus, times_comm}
use Rattle.wide_integers.proofs.Order.{le_rep}
use Rattle.wide_integers.proofs.Reading.{mul_le}
use Rattle.exact_depth.specs.declared.projection.Point.{Point}
use Rattle.exact_depth.specs.Meeting.{mix}
use Rattle.exact_triangle.specs.Line.{parts, Line, Moves}
use Rattle.exact_triangle.specs.Shear.{from}
use Rattle.exact_triangle.specs.Surface.{Lies, Surface}
use Rattle.drill.specs.Drill.{dot, square, Within, mixed, InDrill}
use Rattle.wide_integers.proofs.Signs.{Nonneg, Positive, natural, nonneg_as, nonneg_sum, nonneg_times}
use Rattle.wide_integers.proofs.Signs.{square_nonneg, zero_sum, minus_of_le, le_of_minus, zero_factor}
use Rattle.drill.proofs.Identities as Identities
use Rattle.drill.proofs.Drilling.{square_of, square_positive}
use Rattle.drill.proofs.BoxTouching.{off_x, off_y, off_z, above_near, below_far}

-- both y and -y are not below 0
neither : (y : ℤ) → Nonneg (neg_ℤ y) → Nonneg (neg_ℤ (neg_ℤ y)) → y ≡ pos 0
neither y p q = zero_sum (nonneg_as (neg_ℤ-neg_ℤ y) q) p (Identities.cancels_right y)

module _ (l : Line) (a b c : Point) where
  abbrev d : Point
  d = l.direction

  abbrev o : Point
  o = l.origin

  -- ---- a point in a drill of radius 0 lies on the segment
  module _ (m : Moves l.direction) (g : InDrill l 0 a b c) where
    abbrev i : ℕ
    i = g.i

    abbrev j : ℕ
    j = g.j

    abbrev k : ℕ
    k = g.k

    abbrev X : Point
    X = mixed g.i g.j g.k (from l.origin a) (from l.origin b) (from l.origin c)

    abbrev h : ℤ
    h = dot X l.direction

    pub q : Positive (square d)
    q = square_positive d m

    abbrev Q : ℕ
    Q = suc q.less

    on_axis : (y : ℤ) → Nonneg (pos 0 *ℤ square d *ℤ pos (i + j + k) -ℤ y) × Nonneg (pos 0 *ℤ square d *ℤ pos (i + j + k) -ℤ neg_ℤ y)
        → y ≡ pos 0
    on_axis y p =
        neither y (nonneg_as (Identities.no_reach (square d) (pos (i + j + k)) y) p.0)
        (nonneg_as (Identities.no_reach (square d) (pos (i + j + k)) (neg_ℤ y)) p.1)

    axis_at : (x e : ℤ) → square d *ℤ x -ℤ h *ℤ e ≡ pos 0 → (p v w : ℤ) → mix i j k p v w ≡ x
        → pos parts *ℤ mix (Q * i) (Q * j) (Q * k) p v w ≡ pos parts *ℤ h *ℤ e
    axis_at x e z p v w is =
        Identities.scaled_mix (pos parts) (pos Q) (pos i) (pos j) (pos k) p v w
        ∙ (λ s. pos parts *ℤ (sym q.is s *ℤ is s))
        ∙ ap (λ (y : ℤ). pos parts *ℤ y) (equal_of_minus (square d *ℤ x) (h *ℤ e) z)
        ∙ Identities.moved_out (pos parts) h e

    lies : Lies l a b c (Q * i + Q * j + Q * k) (pos parts *ℤ h)
    lies = record {
      i = Q * i;
      j = Q * j;
      k = Q * k;
      total = refl;
      x = axis_at X.x d.x (on_axis (square d *ℤ X.x -ℤ h *ℤ d.x) (off_x l 0 (i + j + k) X g.within)) (a.x -ℤ o.x)
          (b.x -ℤ o.x) (c.x -ℤ o.x) refl;
      y = axis_at X.y d.y (on_axis (square d *ℤ X.y -ℤ h *ℤ d.y) (off_y l 0 (i + j + k) X g.within)) (a.y -ℤ o.y)
          (b.y -ℤ o.y) (c.y -ℤ o.y) refl;
      z = axis_at X.z d.z (on_axis (square d *ℤ X.z -ℤ h *ℤ d.z) (off_z l 0 (i + j + k) X g.within)) (a.z -ℤ o.z)
          (b.z -ℤ o.z) (c.z -ℤ o.z) refl;
    }

    shared : (n : ℕ) → pos n *ℤ square d *ℤ pos (i + j + k) ≡ pos n *ℤ pos (Q * i + Q * j + Q * k)
    shared n = ap (λ (z : ℤ). pos n *ℤ z *ℤ pos (i + j + k)) q.is ∙ ap pos (spread n Q i j k)
      where
        spread : (n Q i j k : ℕ) → n * Q * (i + j + k) ≡ n * (Q * i + Q * j + Q * k)
        spread n Q i j k = omega arith

    pub drill_met : Surface l a b c (Q * i + Q * j + Q * k) (pos parts *ℤ h)
    drill_met = record {
      positive =
          let p : 0 < Q * (i + j + k) = mul-pos (zero-lt-suc q.less) g.positive in
          omega (arith, p);
      lies = lies;
      least = le_of_minus (pos l.near *ℤ pos (Q * i + Q * j + Q * k)) (pos parts *ℤ h)
          (nonneg_as (ap (λ (z : ℤ). pos parts *ℤ h -ℤ z) (shared l.near)) (above_near l 0 (i + j + k) X g.within));
      most = le_of_minus (pos parts *ℤ h) (pos l.far *ℤ pos (Q * i + Q * j + Q * k))
          (nonneg_as (ap (λ (z : ℤ). z -ℤ pos parts *ℤ h) (shared l.far)) (below_far l 0 (i + j + k) X g.within));
    }

  -- ---- a point of the segment lies in every drill about it
  module _ (ρ D : ℕ) (t : ℤ) (s : Surface l a b c D t) where
    abbrev L : Lies l a b c D t
    L = s.lies

    abbrev Y : Point
    Y = mixed s.lies.i s.lies.j s.lies.k (from l.origin a) (from l.origin b) (from l.origin c)

    abbrev S : ℤ
    S = pos parts

    height_is : S *ℤ dot Y d ≡ t *ℤ square d
    height_is =
        Identities.segment_height S Y.x Y.y Y.z d.x d.y d.z
        ∙ (λ u. L.x u *ℤ d.x +ℤ L.y u *ℤ d.y +ℤ L.z u *ℤ d.z)
        ∙ Identities.segment_square t d.x d.y d.z

    abbrev off : ℤ
    off = square Y *ℤ square d -ℤ dot Y d *ℤ dot Y d

    none_off : S *ℤ S *ℤ off ≡ pos 0
    none_off =
        Identities.segment_flat S Y.x Y.y Y.z (square d) (dot Y d)
        ∙ (λ u. (L.x u *ℤ L.x u +ℤ L.y u *ℤ L.y u +ℤ L.z u *ℤ L.z u) *ℤ square d -ℤ height_is u *ℤ height_is u)
        ∙ Identities.segment_none t d.x d.y d.z

    off_zero : off ≡ pos 0
    off_zero = zero_factor (record { less = 1152921504606846975; is = refl }) (times_comm off (S *ℤ S) ∙ none_off)

    within_all : Within l ρ D Y
    within_all = record {
      least = le_of_minus (pos l.near *ℤ square d *ℤ pos D) (S *ℤ dot Y d)
          (nonneg_as (sym (ap (λ (z : ℤ). z -ℤ pos l.near *ℤ square d *ℤ pos D) height_is
          ∙ Identities.segment_low t (pos l.near) (square d) (pos D)))
          (nonneg_times (square_of d) (minus_of_le (pos l.near *ℤ pos D) t s.least)));
      most = le_of_minus (S *ℤ dot Y d) (pos l.far *ℤ square d *ℤ pos D)
          (nonneg_as (sym (ap (λ (z : ℤ). pos l.far *ℤ square d *ℤ pos D -ℤ z) height_is
          ∙ Identities.segment_high t (pos l.far) (square d) (pos D)))
          (nonneg_times (square_of d) (minus_of_le t (pos l.far *ℤ pos D) s.most)));
      close = le_of_minus off (pos (ρ * ρ) *ℤ square d *ℤ (pos D *ℤ pos D))
          (nonneg_as (sym (ap (λ (z : ℤ). pos (ρ * ρ) *ℤ square d *ℤ (pos D *ℤ pos D) -ℤ z) off_zero
          ∙ Identities.minus_zero_lem (pos (ρ * ρ) *ℤ square d *ℤ (pos D *ℤ pos D))))
          (nonneg_times (nonneg_times (natural (ρ * ρ)) (square_of d)) (square_nonneg (pos D))));
    }

    pub met_drilled : InDrill l ρ a b c
    met_drilled = record {
      i = L.i;
      j = L.j;
      k = L.k;
      positive = subst (λ (n : ℕ). 0 < n) (sym L.total) s.positive;
      within = subst (λ (n : ℕ). Within l ρ n Y) (sym L.total) within_all;
    }

  -- ---- wider
  pub wider : (ρ σ : ℕ) → ρ ≤ σ → InDrill l ρ a b c → InDrill l σ a b c
  wider ρ σ h g =
      let D = g.i + g.j + g.k in
      let X = mixed g.i g.j g.k (from o a) (from o b) (from o c) in
      let off = square X *ℤ square d -ℤ dot X d *ℤ dot X d in
      let r = square d *ℤ (pos D *ℤ pos D) in
      let more : Nonneg (pos (σ * σ) -ℤ pos (ρ * ρ)) =
      minus_of_le (pos (ρ * ρ)) (pos (σ * σ)) (le_rep (own_pos (ρ * ρ)) (own_pos (σ * σ)) (let m =
      mul_le ρ ρ σ σ h h in omega (arith, m))) in
      record {
        i = g.i;
        j = g.j;
        k = g.k;
        positive = g.positive;
        within = record {
          least = g.within.least;
          most = g.within.most;
          close = le_of_minus off (pos (σ * σ) *ℤ square d *ℤ (pos D *ℤ pos D))
              (nonneg_as (sym (Identities.wider_by (pos (σ * σ)) (pos (ρ * ρ)) (square d) (pos D *ℤ pos D) off))
              (nonneg_sum (nonneg_times more (nonneg_times (square_of d) (square_nonneg (pos D))))
              (minus_of_le off (pos (ρ * ρ) *ℤ square d *ℤ (pos D *ℤ pos D)) g.within.close)));
        };
      }
