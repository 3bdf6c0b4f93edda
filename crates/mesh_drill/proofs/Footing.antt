-- A point whose foot on the axis is given, and lies close to it, is in the drill; and a point in the drill has such a foot. Assumes
-- nothing.
use Rattle.std.proofs.Common.{◌≡◌, ℕ, suc, ◌*◌, ◌<◌, ℤ, pos, ◌+ℤ◌, ◌-ℤ◌, ◌*ℤ◌, neg_ℤ, sym, ap, ◌∙◌, zero-lt-suc, mul-pos, lit<}
use Rattle.exact_depth.specs.declared.projection.Point.{Point}
use Rattle.exact_triangle.specs.Line.{parts}
use Rattle.drill.specs.Drill.{dot, square}
use Rattle.mesh_drill.specs.AsDrawn.{WithinAsDrawn, FootAsDrawn, to_point}
use Rattle.wide_integers.proofs.Signs.{Nonneg, Positive, natural, nonneg_as, nonneg_sum, nonneg_times, square_nonneg}
use Rattle.wide_integers.proofs.Signs.{positive_times, nonneg_cancel, minus_of_le, le_of_minus}
use Rattle.mesh_drill.proofs.Reading.{above_zero}
use Rattle.mesh_drill.proofs.Identities as Identities

module _ (W : ℕ) (d : Point) (lo hi : ℤ) (R D : ℕ) (X : Point) where
  abbrev M : ℤ
  M = square d

  abbrev h : ℤ
  h = dot X d

  n_m : Nonneg M
  n_m = nonneg_sum (nonneg_sum (square_nonneg d.x) (square_nonneg d.y)) (square_nonneg d.z)

  module _ (t : ℤ) (T : ℕ) (s : FootAsDrawn W d lo hi R D X t T) where
    abbrev P : ℤ
    P = pos parts

    p_t : Positive (pos T)
    p_t = above_zero T s.positive

    p_tP : Positive (pos T *ℤ P)
    p_tP = positive_times p_t (above_zero parts (lit< tt))

    -- T P h = t D M
    along : pos T *ℤ P *ℤ h -ℤ t *ℤ pos D *ℤ M ≡ pos 0
    along = sym (Identities.foot_along P (pos T) t (pos D) X.x X.y X.z d.x d.y d.z) ∙ s.right_angle

    pub foot_within : WithinAsDrawn W d lo hi R D X
    foot_within = record {
      least = le_of_minus (lo *ℤ M *ℤ pos D) (P *ℤ pos W *ℤ h)
          (nonneg_cancel p_t
          (nonneg_as
          (sym (Identities.foot_least P (pos W) (pos T) t (pos D) M h lo
          ∙ ap (λ (z : ℤ). pos W *ℤ z +ℤ (t *ℤ pos W -ℤ lo *ℤ pos T) *ℤ (M *ℤ pos D)) along
          ∙ Identities.nothing_before (pos W) ((t *ℤ pos W -ℤ lo *ℤ pos T) *ℤ (M *ℤ pos D))))
          (nonneg_times (minus_of_le (lo *ℤ pos T) (t *ℤ pos W) s.least) (nonneg_times n_m (natural D)))));
      most = le_of_minus (P *ℤ pos W *ℤ h) (hi *ℤ M *ℤ pos D)
          (nonneg_cancel p_t
          (nonneg_as
          (sym (Identities.foot_most P (pos W) (pos T) t (pos D) M h hi
          ∙ ap (λ (z : ℤ). neg_ℤ (pos W *ℤ z) +ℤ (hi *ℤ pos T -ℤ t *ℤ pos W) *ℤ (M *ℤ pos D)) along
          ∙ Identities.nothing_negated (pos W) ((hi *ℤ pos T -ℤ t *ℤ pos W) *ℤ (M *ℤ pos D))))
          (nonneg_times (minus_of_le (t *ℤ pos W) (hi *ℤ pos T) s.most) (nonneg_times n_m (natural D)))));
      close = le_of_minus (square X *ℤ M -ℤ h *ℤ h) (pos R *ℤ pos R *ℤ M *ℤ (pos D *ℤ pos D))
          (nonneg_cancel (positive_times p_tP p_tP)
          (nonneg_as (sym (Identities.foot_close P (pos T) t (pos D) M (square X) h (pos R)))
          (nonneg_sum
          (nonneg_times n_m
          (nonneg_as
          (ap (λ (z : ℤ). pos R *ℤ pos D *ℤ pos T *ℤ P *ℤ (pos R *ℤ pos D *ℤ pos T *ℤ P) -ℤ z)
          (Identities.foot_length P (pos T) t (pos D) X.x X.y X.z d.x d.y d.z))
          (minus_of_le (square (to_point d D X t T)) (pos (R * D * T * parts) *ℤ pos (R * D * T * parts)) s.close)))
          (square_nonneg (pos T *ℤ P *ℤ h -ℤ t *ℤ pos D *ℤ M)))));
    }

  -- ---- where the direction is not 0 a point in the drill has its foot at P h / (D M) units
  module _ (moves : Positive M) (positive : 0 < D) (s : WithinAsDrawn W d lo hi R D X) where
    abbrev m : ℕ
    m = suc moves.less

    abbrev Z : ℤ
    Z = pos parts *ℤ h

    same : pos D *ℤ M ≡ pos (D * m)
    same = ap (λ (z : ℤ). pos D *ℤ z) moves.is

    pub within_foot : FootAsDrawn W d lo hi R D X Z (D * m)
    within_foot = record {
      positive = mul-pos positive (zero-lt-suc moves.less);
      least = le_of_minus (lo *ℤ pos (D * m)) (Z *ℤ pos W)
          (nonneg_as (Identities.own_least (pos parts) (pos W) (pos D) M h lo ∙ ap (λ (z : ℤ). Z *ℤ pos W -ℤ lo *ℤ z) same)
          (minus_of_le (lo *ℤ M *ℤ pos D) (pos parts *ℤ pos W *ℤ h) s.least));
      most = le_of_minus (Z *ℤ pos W) (hi *ℤ pos (D * m))
          (nonneg_as (Identities.own_most (pos parts) (pos W) (pos D) M h hi ∙ ap (λ (z : ℤ). hi *ℤ z -ℤ Z *ℤ pos W) same)
          (minus_of_le (pos parts *ℤ pos W *ℤ h) (hi *ℤ M *ℤ pos D) s.most));
      right_angle =
          Identities.foot_along (pos parts) (pos (D * m)) Z (pos D) X.x X.y X.z d.x d.y d.z
          ∙ ap (λ (z : ℤ). z *ℤ pos parts *ℤ h -ℤ Z *ℤ pos D *ℤ M) (sym same)
          ∙ Identities.own_foot (pos parts) (pos D) M h;
      close = le_of_minus (square (to_point d D X Z (D * m))) (pos (R * D * (D * m) * parts) *ℤ pos (R * D * (D * m) * parts))
          (nonneg_as
          (Identities.own_close (pos parts) (pos D) M (square X) h (pos R)
          ∙ ap (λ (z : ℤ). pos R *ℤ pos D *ℤ z *ℤ pos parts *ℤ (pos R *ℤ pos D *ℤ z *ℤ pos parts)
          -ℤ (z *ℤ pos parts *ℤ (z *ℤ pos parts) *ℤ square X -ℤ pos 2 *ℤ (z *ℤ pos parts) *ℤ (Z *ℤ pos D) *ℤ h +ℤ Z *ℤ pos D *ℤ (Z *ℤ pos D)
          *ℤ M))
          same
          ∙ ap (λ (z : ℤ). pos (R * D * (D * m) * parts) *ℤ pos (R * D * (D * m) * parts) -ℤ z)
          (sym (Identities.foot_length (pos parts) (pos (D * m)) Z (pos D) X.x X.y X.z d.x d.y d.z)))
          (nonneg_times (nonneg_times (natural (parts * D * (parts * D))) n_m)
          (minus_of_le (square X *ℤ M -ℤ h *ℤ h) (pos R *ℤ pos R *ℤ M *ℤ (pos D *ℤ pos D)) s.close)));
    }
