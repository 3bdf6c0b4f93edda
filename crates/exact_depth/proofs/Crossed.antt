-- The line crosses the plane: the three weights tell whether it does so in the triangle, and how deep. Assumes nothing.
use Rattle.std.specs.Prelude.{Some, None}
use mathlib.Core.Path.{◌≡◌, refl, sym, ap, ◌∙◌}
use mathlib.Core.Bool.{Bool, true, false, cond, true≢false}
use Prim.Native.Nat.{ℕ, ◌+◌, ◌*◌, ◌<◌}
use lib.IntN.{ℤ, pos, ◌+ℤ◌, ◌*ℤ◌}
use lib.Signed.{lt_z, le_z}
use Rattle.exact_depth.specs.declared.projection.Projected.{Projected}
use Rattle.exact_depth.specs.declared.projection.Fraction.{Fraction}
use Rattle.exact_depth.specs.FirstPoint.{kept, crossing}
use Rattle.exact_depth.specs.Meeting.{mix, Meets, HasArea, Reached, First}
use Rattle.wide_integers.proofs.Integers.{pp}
use Rattle.exact_depth.proofs.Weights.{Weights, weighs}
use Rattle.exact_depth.proofs.Firsts.{missed, met, not_less, whole_of, nonneg_of, least_same, most_same, no_deeper}

module _ (near far : ℤ) (a b c : Projected) (α β γ : ℤ)
    (ws : Weights a.across a.up b.across b.up c.across c.up α β γ)
    (W : ℕ) (sum : α +ℤ β +ℤ γ ≡ pos W) (positive : 0 < W) (apart : HasArea a b c) where
  abbrev T : ℤ
  T = α *ℤ a.depth +ℤ β *ℤ b.depth +ℤ γ *ℤ c.depth

  abbrev at : Fraction
  at = record { t = T; w = α +ℤ β +ℤ γ }

  -- ---- a point of the line in the triangle has the weights' own depth
  module _ (D : ℕ) (t : ℤ) (m : Meets a b c D t) where
    same_depth : pos D *ℤ T ≡ pos W *ℤ t
    same_depth =
        ap (λ (n : ℕ). pos n *ℤ T) (sym m.total)
        ∙ weighs ws m.i m.j m.k a.depth b.depth c.depth m.across m.up
        ∙ (λ s. sum s *ℤ m.depth s)

    share_of : (x : ℤ) (n : ℕ) → pos (m.i + m.j + m.k) *ℤ x ≡ pos n *ℤ (α +ℤ β +ℤ γ) → pos D *ℤ x ≡ pos (n * W)
    share_of x n h = ap (λ (k : ℕ). pos k *ℤ x) (sym m.total) ∙ h ∙ ap (λ (z : ℤ). pos n *ℤ z) sum

    module _ (p : 0 < D) where
      first_weight : lt_z α (pos 0) ≡ false
      first_weight = nonneg_of D (m.i * W) α p (share_of α m.i (ws.first m.i m.j m.k m.across m.up))

      second_weight : lt_z β (pos 0) ≡ false
      second_weight = nonneg_of D (m.j * W) β p (share_of β m.j (ws.second m.i m.j m.k m.across m.up))

      third_weight : lt_z γ (pos 0) ≡ false
      third_weight = nonneg_of D (m.k * W) γ p (share_of γ m.k (ws.third m.i m.j m.k m.across m.up))

  -- ---- weights that are not below 0 are those of a point
  module _ (A : lt_z α (pos 0) ≡ false) (B : lt_z β (pos 0) ≡ false) (C : lt_z γ (pos 0) ≡ false) where
    mixed : (x y z : ℤ) → mix (pp α) (pp β) (pp γ) x y z ≡ α *ℤ x +ℤ β *ℤ y +ℤ γ *ℤ z
    mixed x y z = λ s. sym (whole_of α A) s *ℤ x +ℤ sym (whole_of β B) s *ℤ y +ℤ sym (whole_of γ C) s *ℤ z

    pub own_meets : Meets a b c W T
    own_meets = record {
      i = pp α;
      j = pp β;
      k = pp γ;
      total = ap pp ((λ s. sym (whole_of α A) s +ℤ sym (whole_of β B) s +ℤ sym (whole_of γ C) s) ∙ sum);
      across = mixed a.across b.across c.across ∙ ws.across;
      up = mixed a.up b.up c.up ∙ ws.up;
      depth = mixed a.depth b.depth c.depth;
    }

    reaches : lt_z T (near *ℤ (α +ℤ β +ℤ γ)) ≡ false → lt_z (far *ℤ (α +ℤ β +ℤ γ)) T ≡ false → Reached near far a b c at
    reaches l m = record {
      W = W;
      positive = positive;
      denominator = sum;
      D = W;
      t = T;
      on = record {
        positive = positive;
        meets = own_meets;
        least = ap (λ (z : ℤ). le_z (near *ℤ z) T) (sym sum) ∙ not_less T (near *ℤ (α +ℤ β +ℤ γ)) l;
        most = ap (λ (z : ℤ). le_z T (far *ℤ z)) (sym sum) ∙ not_less (far *ℤ (α +ℤ β +ℤ γ)) T m;
      };
      same = refl;
      least = λ D' t' o. no_deeper D' W T t' o.positive (same_depth D' t' o.meets);
    }

  clash : {b : Bool} → b ≡ true → b ≡ false → ⊥
  clash h g = true≢false (sym h ∙ g)

  kept_tells : (A : lt_z α (pos 0) ≡ false) (B : lt_z β (pos 0) ≡ false) (C : lt_z γ (pos 0) ≡ false)
      → First near far a b c (kept at near far)
  unfolding kept
  kept_tells A B C =
      go (lt_z T (near *ℤ (α +ℤ β +ℤ γ))) (lt_z (far *ℤ (α +ℤ β +ℤ γ)) T) refl refl
    where
      go : (l m : Bool) → lt_z T (near *ℤ (α +ℤ β +ℤ γ)) ≡ l → lt_z (far *ℤ (α +ℤ β +ℤ γ)) T ≡ m
          → First near far a b c (cond l None (cond m None (Some at)))
      go true m l m' = missed near far a b c (λ h D t o.
          clash l (ap (λ (z : ℤ). lt_z T (near *ℤ z)) sum
          ∙ least_same D W T t o.positive (same_depth D t o.meets) near o.least))
      go false true l m' = missed near far a b c (λ h D t o.
          clash m' (ap (λ (z : ℤ). lt_z (far *ℤ z) T) sum
          ∙ most_same D W T t o.positive (same_depth D t o.meets) far o.most))
      go false false l m' = met near far a b c at apart (reaches A B C l m')

  pub crossing_tells : First near far a b c (crossing α β γ a.depth b.depth c.depth near far)
  unfolding crossing
  crossing_tells = go (lt_z α (pos 0)) (lt_z β (pos 0)) (lt_z γ (pos 0)) refl refl refl
    where
      go : (A B C : Bool) → lt_z α (pos 0) ≡ A → lt_z β (pos 0) ≡ B → lt_z γ (pos 0) ≡ C
          → First near far a b c (cond A None (cond B None (cond C None (kept at near far))))
      go true B C p q r = missed near far a b c (λ h D t o. clash p (first_weight D t o.meets o.positive))
      go false true C p q r = missed near far a b c (λ h D t o. clash q (second_weight D t o.meets o.positive))
      go false false true p q r = missed near far a b c (λ h D t o. clash r (third_weight D t o.meets o.positive))
      go false false false p q r = kept_tells p q r
