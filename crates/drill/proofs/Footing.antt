-- Along a line in the triangle's plane a point in the drill can be moved to the line's point nearest to the axis, or, where the line runs
-- along the axis, without end. Assumes nothing.
use mathlib.Core.Path.{◌≡◌, sym, ap, ◌∙◌}
use lib.IntN.{ℤ, pos, neg_ℤ, ◌+ℤ◌, ◌*ℤ◌, *ℤ-zero}
use Rattle.drill.specs.Decision.{FromAxis}
use Rattle.wide_integers.proofs.Signs.{Nonneg, Positive, nonneg_sum, nonneg_times, nonneg_as, positive_as, positive_times}
use Rattle.wide_integers.proofs.Signs.{square_nonneg, positive_sum, zero_sum, second_zero, square_zero, natural}
use Rattle.drill.proofs.Identities as Identities
use Rattle.drill.proofs.Weighing.{Weights, total, disc, along, along_sum, along_total, sideways, upward, inward, room, In, Target}
use Rattle.drill.proofs.Weighing.{point, direction}

abbrev pub length : FromAxis → FromAxis → FromAxis → Weights → ℤ
length a b c δ =
    sideways a b c δ *ℤ sideways a b c δ +ℤ upward a b c δ *ℤ upward a b c δ +ℤ inward a b c δ *ℤ inward a b c δ

abbrev pub way : FromAxis → FromAxis → FromAxis → Weights → Weights → ℤ
way a b c x δ =
    sideways a b c x *ℤ sideways a b c δ +ℤ upward a b c x *ℤ upward a b c δ +ℤ inward a b c x *ℤ inward a b c δ

abbrev pub foot : FromAxis → FromAxis → FromAxis → Weights → Weights → Weights
foot a b c x δ = along (length a b c δ) x (neg_ℤ (way a b c x δ)) δ

module _ (R : ℤ) (a b c : FromAxis) (x δ : Weights) (h : In R a b c x) (flat : total δ ≡ pos 0) where
  abbrev A : ℤ
  A = length a b c δ

  abbrev C : ℤ
  C = neg_ℤ (way a b c x δ)

  pub length_nonneg : Nonneg A
  length_nonneg =
      nonneg_sum (nonneg_sum (square_nonneg (sideways a b c δ)) (square_nonneg (upward a b c δ))) (square_nonneg (inward a b c δ))

  total_is : total (foot a b c x δ) ≡ A *ℤ total x +ℤ C *ℤ pos 0
  total_is = along_total A C x δ ∙ ap (λ (z : ℤ). A *ℤ total x +ℤ C *ℤ z) flat

  room_is : room R a b c (foot a b c x δ)
      ≡ A *ℤ A *ℤ room R a b c x +ℤ A *ℤ (way a b c x δ *ℤ way a b c x δ)
  room_is =
      (λ s. disc R (total_is s) (along_sum A C x δ a.moment.x b.moment.x c.moment.x s)
      (along_sum A C x δ a.moment.y b.moment.y c.moment.y s) (along_sum A C x δ a.moment.z b.moment.z c.moment.z s))
      ∙ Identities.foot R (total x) (sideways a b c x) (upward a b c x) (inward a b c x) (sideways a b c δ) (upward a b c δ)
      (inward a b c δ)

  pub foot_target : Positive A → Target R a b c (foot a b c x δ)
  foot_target p =
      point
      (positive_as (sym total_is) (positive_sum (positive_times p h.size) (nonneg_as (sym (zero C)) (natural 0))))
      (nonneg_as (sym room_is)
      (nonneg_sum (nonneg_times (square_nonneg A) h.near) (nonneg_times length_nonneg (square_nonneg (way a b c x δ)))))
    where
      zero : (z : ℤ) → z *ℤ pos 0 ≡ pos 0
      zero z = *ℤ-zero z

  pub straight_target : A ≡ pos 0 → (δ.i ≡ pos 0 → δ.j ≡ pos 0 → δ.k ≡ pos 0 → ⊥) → Target R a b c δ
  straight_target e z =
      let s1 = square_nonneg (sideways a b c δ) in
      let s2 = square_nonneg (upward a b c δ) in
      let s3 = square_nonneg (inward a b c δ) in
      let two = zero_sum (nonneg_sum s1 s2) s3 e in
      direction flat (square_zero (sideways a b c δ) (zero_sum s1 s2 two)) (square_zero (upward a b c δ) (second_zero s1 s2 two))
      (square_zero (inward a b c δ) (second_zero (nonneg_sum s1 s2) s3 e)) z
