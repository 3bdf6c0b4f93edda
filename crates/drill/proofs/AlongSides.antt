-- A point of a side in the drill makes one of the side's tests fire. Assumes nothing.
use mathlib.Core.Path.{◌≡◌, refl, sym, ap, ◌∙◌, subst}
use mathlib.Core.Logic.{inl, inr}
use mathlib.Core.Bool.{true}
use Prim.Native.Nat.{ℕ, suc}
use lib.IntN.{ℤ, pos, negsuc, neg_ℤ, ◌+ℤ◌, ◌*ℤ◌, *ℤ-zero}
use Rattle.drill.specs.Drill.{dot}
use Rattle.drill.specs.Decision.{FromAxis, minus, corner_in, crossing_in}
use Rattle.wide_integers.proofs.Signs.{Nonneg, Negative, positive_or_zero, no_negative_zero, clash_signs}
use Rattle.drill.proofs.Identities as Identities
use Rattle.drill.proofs.Weighing.{Weights, along, In, Held-by, by_first, by_second, by_third}
use Rattle.drill.proofs.Weighing.{by_low, by_high, Walked, arrived, held, walk}
use Rattle.drill.proofs.Multiples.{scaled}
use Rattle.drill.proofs.Footing.{length, way, foot, length_nonneg, foot_target, straight_target}
use Rattle.drill.proofs.Corners.{corner_decides, second_corner_decides, Crossing-found, crossing, first_corner_lem, second_corner_lem}
use Rattle.drill.proofs.Corners.{crossing_decides}

-- the weights of the side's point nearest to the axis' line
abbrev pub side_foot : FromAxis → FromAxis → Weights
side_foot a b = record {
  i = dot b.moment (minus b.moment a.moment);
  j = neg_ℤ (dot a.moment (minus b.moment a.moment));
  k = pos 0;
}

pub data Side-found (R : ℤ) (a b c : FromAxis) : Type 0 where
  at_first_corner : corner_in R a ≡ true → Side-found R a b c
  at_second_corner : corner_in R b ≡ true → Side-found R a b c
  at_near : crossing_in R a.moment b.moment a.low b.low ≡ true → Side-found R a b c
  at_far : crossing_in R a.moment b.moment a.high b.high ≡ true → Side-found R a b c
  at_foot : In R a b c (side_foot a b) → Side-found R a b c

abbrev toward : Weights
toward = record { i = negsuc 0; j = pos 1; k = pos 0 }

module _ (R : ℤ) (a b c : FromAxis) (i j : ℤ) (h : In R a b c (record { i = i; j = j; k = pos 0 })) where
  abbrev x : Weights
  x = record { i = i; j = j; k = pos 0 }

  near_found : Crossing-found R a b a.low b.low → Side-found R a b c
  near_found (crossing p) = at_near p
  near_found (first_corner_lem p) = at_first_corner p
  near_found (second_corner_lem p) = at_second_corner p

  far_found : Crossing-found R a b a.high b.high → Side-found R a b c
  far_found (crossing p) = at_far p
  far_found (first_corner_lem p) = at_first_corner p
  far_found (second_corner_lem p) = at_second_corner p

  -- what holds the point on its way to y, which is on the side's line
  module _ (y : Weights) (flat : y.k ≡ pos 0) (m n : ℕ) where
    abbrev z : Weights
    z = along (pos (suc m)) x (pos n) y

    on_side : z.k ≡ pos 0
    on_side = ap (λ (t : ℤ). pos (suc m) *ℤ pos 0 +ℤ pos n *ℤ t) flat ∙ (λ s. *ℤ-zero (pos (suc m)) s +ℤ *ℤ-zero (pos n) s)

    module _ (g : In R a b c z) where
      g' : In R a b c (record { i = z.i; j = z.j; k = pos 0 })
      g' = subst (In R a b c) (λ s. record { i = z.i; j = z.j; k = on_side s }) g

      found : Held-by a b c y z → Side-found R a b c
      found (by_first e p) = at_second_corner (second_corner_decides R a b c z e on_side g)
      found (by_second e p) = at_first_corner (corner_decides R a b c z e on_side g)
      found (by_third e p) = absurd (no_negative_zero p flat)
      found (by_low e p) =
          near_found (crossing_decides R a b c a.low b.low c.low z.i z.j g'
          (ap (λ (t : ℤ). z.i *ℤ a.low +ℤ z.j *ℤ b.low +ℤ t *ℤ c.low) (sym on_side) ∙ e)
          y.i y.j (subst (λ (t : ℤ). Negative (y.i *ℤ a.low +ℤ y.j *ℤ b.low +ℤ t *ℤ c.low)) flat p))
      found (by_high e p) =
          far_found (crossing_decides R a b c a.high b.high c.high z.i z.j g'
          (ap (λ (t : ℤ). z.i *ℤ a.high +ℤ z.j *ℤ b.high +ℤ t *ℤ c.high) (sym on_side) ∙ e)
          y.i y.j (subst (λ (t : ℤ). Negative (y.i *ℤ a.high +ℤ y.j *ℤ b.high +ℤ t *ℤ c.high)) flat p))

  abbrev y : Weights
  y = foot a b c x toward

  foot_flat : y.k ≡ pos 0
  foot_flat = λ s. *ℤ-zero (length a b c toward) s +ℤ *ℤ-zero (neg_ℤ (way a b c x toward)) s

  foot_is : In R a b c y → In R a b c (side_foot a b)
  foot_is g =
      scaled R a b c (side_foot a b) y (i +ℤ j +ℤ pos 0) (pos 1) h.size (record { less = 0; is = refl })
      (Identities.side_first i j a.moment.x a.moment.y a.moment.z b.moment.x b.moment.y b.moment.z c.moment.x
      c.moment.y c.moment.z)
      (Identities.side_second i j a.moment.x a.moment.y a.moment.z b.moment.x b.moment.y b.moment.z c.moment.x
      c.moment.y c.moment.z)
      (Identities.side_third i j a.moment.x a.moment.y a.moment.z b.moment.x b.moment.y b.moment.z c.moment.x
      c.moment.y c.moment.z) g

  to_foot : Walked R a b c x y → Side-found R a b c
  to_foot (arrived g) = at_foot (foot_is g)
  to_foot (held m n g s) = found y foot_flat m n g s

  -- along the axis there is no end but one that holds
  to_end : Walked R a b c x toward → Side-found R a b c
  to_end (arrived g) = absurd (no_negative_nonneg g.first)
    where
      no_negative_nonneg : Nonneg (negsuc 0) → ⊥
      no_negative_nonneg p = clash_signs p (record { less = 0; is = refl })
  to_end (held m n g s) = found toward refl m n g s

  pub side_decides : Side-found R a b c
  side_decides = elim (positive_or_zero (length_nonneg R a b c x toward h refl)) [
    | inl p ↦ to_foot (walk R a b c x y h (foot_target R a b c x toward h refl p))
    | inr e ↦ to_end (walk R a b c x toward h (straight_target R a b c x toward h refl e (λ p q r. negsuc_not_zero p)))
  ]
    where
      negsuc_not_zero : negsuc 0 ≡ pos 0 → ⊥
      negsuc_not_zero e = no_negative_zero (record { less = 0; is = refl }) e
