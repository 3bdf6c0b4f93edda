-- A point in the drill moved along a line of the triangle's plane that runs across the axis: to the line's point nearest to the axis, or to
-- a
-- side. Assumes nothing.
use mathlib.Core.Path.{◌≡◌, sym, ap, ◌∙◌, subst}
use mathlib.Core.Logic.{◌⊎◌, inl, inr}
use Prim.Native.Nat.{suc}
use lib.IntN.{ℤ, pos, neg_ℤ, ◌+ℤ◌, ◌*ℤ◌, *ℤ-zero, +ℤ_idl}
use Rattle.wide_integers.proofs.Polynomials.{sum_comm}
use Rattle.drill.specs.Decision.{FromAxis}
use Rattle.wide_integers.proofs.Signs.{Nonneg, Positive, positive_or_zero, no_negative_zero, no_positive_zero, clash_signs}
use Rattle.wide_integers.proofs.Signs.{nonneg_times, nonneg_as}
use Rattle.drill.proofs.Weighing.{Weights, total, along, along_sum, low_of, high_of, In, by_first, by_second, by_third}
use Rattle.drill.proofs.Weighing.{by_low, by_high, Walked, arrived, held, walk}
use Rattle.drill.proofs.Multiples.{turned}
use Rattle.drill.proofs.Footing.{length, way, foot, length_nonneg, foot_target, straight_target}
use Rattle.drill.proofs.AlongSides.{Side-found, side_decides}

pub data Sides-found (R : ℤ) (a b c : FromAxis) : Type 0 where
  on_first : Side-found R a b c → Sides-found R a b c
  on_second : Side-found R b c a → Sides-found R a b c
  on_third : Side-found R c a b → Sides-found R a b c

module _ (R : ℤ) (a b c : FromAxis) (w : Weights) where
  pub without_third : In R a b c w → w.k ≡ pos 0 → Side-found R a b c
  without_third h e = side_decides R a b c w.i w.j (subst (In R a b c) (λ s. record { i = w.i; j = w.j; k = e s }) h)

pub without_one : (R : ℤ) (a b c : FromAxis) (y w : Weights) → In R a b c w
    → ((w.i ≡ pos 0) ⊎ ((w.j ≡ pos 0) ⊎ (w.k ≡ pos 0))) → Sides-found R a b c
without_one R a b c y w h (inl e) = on_second (without_third R b c a (record { i = w.j; j = w.k; k = w.i }) (turned R a b c w h) e)
without_one R a b c y w h (inr (inl e)) =
    on_third (without_third R c a b (record { i = w.k; j = w.i; k = w.j })
    (turned R b c a (record { i = w.j; j = w.k; k = w.i }) (turned R a b c w h)) e)
without_one R a b c y w h (inr (inr e)) = on_first (without_third R a b c w h e)

module _ (R : ℤ) (a b c : FromAxis) (x δ : Weights) (h : In R a b c x) (flat : total δ ≡ pos 0) (low0 : low_of a b c δ ≡ pos 0)
    (high0 : high_of a b c δ ≡ pos 0) (some : δ.i ≡ pos 0 → δ.j ≡ pos 0 → δ.k ≡ pos 0 → ⊥) where
  abbrev A : ℤ
  A = length a b c δ

  abbrev y : Weights
  y = foot a b c x δ

  plus_zero_lem : (z w : ℤ) → z +ℤ w *ℤ pos 0 ≡ z
  plus_zero_lem z w = ap (λ (t : ℤ). z +ℤ t) (*ℤ-zero w) ∙ sum_comm z (pos 0) ∙ +ℤ_idl z

  low_is : low_of a b c y ≡ A *ℤ low_of a b c x
  low_is =
      along_sum A (neg_ℤ (way a b c x δ)) x δ a.low b.low c.low
      ∙ ap (λ (t : ℤ). A *ℤ low_of a b c x +ℤ neg_ℤ (way a b c x δ) *ℤ t) low0 ∙ plus_zero_lem (A *ℤ low_of a b c x) (neg_ℤ (way a b c x δ))

  high_is : high_of a b c y ≡ A *ℤ high_of a b c x
  high_is =
      along_sum A (neg_ℤ (way a b c x δ)) x δ a.high b.high c.high
      ∙ ap (λ (t : ℤ). A *ℤ high_of a b c x +ℤ neg_ℤ (way a b c x δ) *ℤ t) high0
      ∙ plus_zero_lem (A *ℤ high_of a b c x) (neg_ℤ (way a b c x δ))

  nn : Nonneg A
  nn = length_nonneg R a b c x δ h flat

  to_foot : Positive A → Walked R a b c x y → (Positive A × In R a b c y) ⊎ Sides-found R a b c
  to_foot p (arrived g) = inl (p, g)
  to_foot p (held m n g (by_first e q)) = inr (without_one R a b c y (along (pos (suc m)) x (pos n) y) g (inl e))
  to_foot p (held m n g (by_second e q)) = inr (without_one R a b c y (along (pos (suc m)) x (pos n) y) g (inr (inl e)))
  to_foot p (held m n g (by_third e q)) = inr (without_one R a b c y (along (pos (suc m)) x (pos n) y) g (inr (inr e)))
  to_foot p (held m n g (by_low e q)) = absurd (clash_signs (nonneg_as (sym low_is) (nonneg_times nn h.low)) q)
  to_foot p (held m n g (by_high e q)) = absurd (clash_signs (nonneg_as (sym high_is) (nonneg_times nn h.high)) q)

  to_end : Walked R a b c x δ → (Positive A × In R a b c y) ⊎ Sides-found R a b c
  to_end (arrived g) = absurd (no_positive_zero g.size flat)
  to_end (held m n g (by_first e q)) = inr (without_one R a b c δ (along (pos (suc m)) x (pos n) δ) g (inl e))
  to_end (held m n g (by_second e q)) = inr (without_one R a b c δ (along (pos (suc m)) x (pos n) δ) g (inr (inl e)))
  to_end (held m n g (by_third e q)) = inr (without_one R a b c δ (along (pos (suc m)) x (pos n) δ) g (inr (inr e)))
  to_end (held m n g (by_low e q)) = absurd (no_negative_zero q low0)
  to_end (held m n g (by_high e q)) = absurd (no_negative_zero q high0)

  pub level_decides : (Positive A × In R a b c y) ⊎ Sides-found R a b c
  level_decides = elim (positive_or_zero nn) [
    | inl p ↦ to_foot p (walk R a b c x y h (foot_target R a b c x δ h flat p))
    | inr e ↦ to_end (walk R a b c x δ h (straight_target R a b c x δ h flat e some))
  ]
