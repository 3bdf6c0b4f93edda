-- The first point is what it says: none exactly if no point of the segment lies in the closed triangle, and else the least depth. Assumes
-- nothing.
use Rattle.std.specs.Prelude.{None}
use mathlib.Core.Path.{◌≡◌, refl, sym, ap, ◌∙◌}
use mathlib.Core.Bool.{Bool, true, false, not, ◌&&◌, cond, true≢false, false≢true}
use Prim.Native.Nat.{ℕ, suc, ◌*◌, ◌<◌}
use native.Mathlib.Nat.{eq_of_mul-eq-mul_right, zero-lt-suc}
use native.Mathlib.Omega.{arith}
use lib.IntN.{ℤ, pos, negsuc, neg_ℤ, ◌+ℤ◌, ◌*ℤ◌}
use lib.Signed.{lt_z, le_z}
use borrow.Author.Tests.{lt-ltb}
use Rattle.exact_depth.specs.declared.projection.Projected.{Projected}
use Rattle.wide_integers.specs.Determinant.{is_zero}
use Rattle.exact_depth.specs.FirstPoint.{seen_determinant, crossing, coplanar, by_weights, first_point}
use Rattle.exact_depth.specs.Meeting.{On, First}
use Rattle.wide_integers.proofs.Integers.{pp, np}
use Rattle.wide_integers.proofs.Polynomials.{own, rep_add, rep_mul, equal, neg_sum, own_pos}
use Rattle.wide_integers.proofs.Order.{rep_le, rep_lt, rep_nlt, rep_same}
use Rattle.exact_depth.proofs.Weights.{Weights, own_weights, negated}
use Rattle.exact_depth.proofs.Firsts.{missed, positive_of}
use Rattle.exact_depth.proofs.Crossed.{crossing_tells}
use Rattle.exact_depth.proofs.Coplanar.{coplanar_tells}

module _ (near far : ℤ) (a b c : Projected) where
  abbrev α : ℤ
  α = seen_determinant b c

  abbrev β : ℤ
  β = seen_determinant c a

  abbrev γ : ℤ
  γ = seen_determinant a b

  ws : Weights a.across a.up b.across b.up c.across c.up α β γ
  ws = own_weights a.across a.up b.across b.up c.across c.up

  left : lt_z (pos 0) (α +ℤ β +ℤ γ) ≡ true → First near far a b c (crossing α β γ a.depth b.depth c.depth near far)
  left h =
      let e = positive_of (α +ℤ β +ℤ γ) h in
      crossing_tells near far a b c α β γ ws (pp (α +ℤ β +ℤ γ)) e.0 e.1
      (λ z s u. false≢true (sym (ap (lt_z (pos 0)) z) ∙ h))

  -- the weights' signs turned
  turned_sum : neg_ℤ α +ℤ neg_ℤ β +ℤ neg_ℤ γ ≡ neg_ℤ (α +ℤ β +ℤ γ)
  turned_sum = sym (neg_sum (α +ℤ β) γ ∙ ap (λ (z : ℤ). z +ℤ neg_ℤ γ) (neg_sum α β))

  turned_positive : (x : ℤ) → lt_z x (pos 0) ≡ true → lt_z (pos 0) (neg_ℤ x) ≡ true
  turned_positive (pos n) h = absurd (omega (arith, rep_lt (own_pos n) (own_pos 0) h))
  turned_positive (negsuc n) h = lt-ltb 0 (suc n) (zero-lt-suc n)

  right : lt_z (α +ℤ β +ℤ γ) (pos 0) ≡ true
      → First near far a b c (crossing (neg_ℤ α) (neg_ℤ β) (neg_ℤ γ) a.depth b.depth c.depth near far)
  right h =
      let q : lt_z (pos 0) (neg_ℤ α +ℤ neg_ℤ β +ℤ neg_ℤ γ) ≡ true =
      ap (lt_z (pos 0)) turned_sum ∙ turned_positive (α +ℤ β +ℤ γ) h in
      let e = positive_of (neg_ℤ α +ℤ neg_ℤ β +ℤ neg_ℤ γ) q in
      crossing_tells near far a b c (neg_ℤ α) (neg_ℤ β) (neg_ℤ γ) (negated ws) (pp (neg_ℤ α +ℤ neg_ℤ β +ℤ neg_ℤ γ)) e.0 e.1
      (λ z s u. false≢true (sym (ap (λ (x : ℤ). lt_z x (pos 0)) z) ∙ h))

  -- ---- the line does not cross the plane
  module _ (flat : α +ℤ β +ℤ γ ≡ pos 0) where
    -- a weight that is not 0 leaves no point
    no_share : (D n : ℕ) (x : ℤ) → 0 < D → pos D *ℤ x ≡ pos n *ℤ (α +ℤ β +ℤ γ) → x ≡ pos 0
    no_share D n x p h =
        nothing D x p (h ∙ ap (λ (z : ℤ). pos n *ℤ z) flat ∙ ap pos (zero_product n))
      where
        zero_product : (n : ℕ) → n * 0 ≡ 0
        zero_product n = omega arith

        nothing : (D : ℕ) (x : ℤ) → 0 < D → pos D *ℤ x ≡ pos 0 → x ≡ pos 0
        nothing D x p h =
            let e = rep_same (rep_mul (own_pos D) (own x)) (own_pos 0) h in
            let e' : pp x * D ≡ np x * D = omega (arith, e) in
            equal (own x) (own_pos 0) (let g = eq_of_mul-eq-mul_right D p (pp x) (np x) e' in omega (arith, g))

    first_none : (D : ℕ) (t : ℤ) → On near far a b c D t → α ≡ pos 0
    first_none D t o =
        let m = o.meets in
        no_share D m.i α o.positive
        (ap (λ (n : ℕ). pos n *ℤ α) (sym m.total) ∙ ws.first m.i m.j m.k m.across m.up)

    second_none : (D : ℕ) (t : ℤ) → On near far a b c D t → β ≡ pos 0
    second_none D t o =
        let m = o.meets in
        no_share D m.j β o.positive
        (ap (λ (n : ℕ). pos n *ℤ β) (sym m.total) ∙ ws.second m.i m.j m.k m.across m.up)

    zero_is : (x : ℤ) → is_zero x ≡ true → x ≡ pos 0
    zero_is x h =
        go (lt_z x (pos 0)) (le_z x (pos 0)) refl refl h
      where
        go : (p q : Bool) → lt_z x (pos 0) ≡ p → le_z x (pos 0) ≡ q → (not p && q) ≡ true → x ≡ pos 0
        go true q p' q' h = absurd (false≢true h)
        go false false p' q' h = absurd (false≢true h)
        go false true p' q' h =
            let m = rep_nlt (own x) (own_pos 0) p' in
            let n = rep_le (own x) (own_pos 0) q' in
            equal (own x) (own_pos 0) (omega (arith, m, n))

    is_zero_lem : (x : ℤ) → x ≡ pos 0 → is_zero x ≡ true
    is_zero_lem x e = ap is_zero e

    last_zero : α ≡ pos 0 → β ≡ pos 0 → γ ≡ pos 0
    last_zero p q =
        let e = rep_same (rep_add (rep_add (own α) (own β)) (own γ)) (own_pos 0) flat in
        let p⁺ = ap pp p in
        let p⁻ = ap np p in
        let q⁺ = ap pp q in
        let q⁻ = ap np q in
        equal (own γ) (own_pos 0) (omega (arith, e, p⁺, p⁻, q⁺, q⁻))

    level : First near far a b c (cond (is_zero α && is_zero β) (coplanar a b c near far) None)
    level = go (is_zero α) (is_zero β) refl refl
      where
        go : (p q : Bool) → is_zero α ≡ p → is_zero β ≡ q → First near far a b c (cond (p && q) (coplanar a b c near far) None)
        go false q p' q' = missed near far a b c (λ h D t o. true≢false (sym (is_zero_lem α (first_none D t o)) ∙ p'))
        go true false p' q' = missed near far a b c (λ h D t o. true≢false (sym (is_zero_lem β (second_none D t o)) ∙ q'))
        go true true p' q' =
            let z = zero_is α p' in
            let y = zero_is β q' in
            coplanar_tells near far a b c z y (last_zero z y)

  zero_of : (x : ℤ) → lt_z (pos 0) x ≡ false → lt_z x (pos 0) ≡ false → x ≡ pos 0
  zero_of x h g =
      let m = rep_nlt (own_pos 0) (own x) h in
      let n = rep_nlt (own x) (own_pos 0) g in
      equal (own x) (own_pos 0) (omega (arith, m, n))

  pub first_point_tells : First near far a b c (first_point a b c near far)
  unfolding first_point by_weights
  first_point_tells = go (lt_z (pos 0) (α +ℤ β +ℤ γ)) (lt_z (α +ℤ β +ℤ γ) (pos 0)) refl refl
    where
      go : (p q : Bool) → lt_z (pos 0) (α +ℤ β +ℤ γ) ≡ p → lt_z (α +ℤ β +ℤ γ) (pos 0) ≡ q
          → First near far a b c
          (cond p (crossing α β γ a.depth b.depth c.depth near far)
          (cond q (crossing (neg_ℤ α) (neg_ℤ β) (neg_ℤ γ) a.depth b.depth c.depth near far)
          (cond (is_zero α && is_zero β) (coplanar a b c near far) None)))
      go true q p' q' = left p'
      go false true p' q' = right q'
      go false false p' q' = level (zero_of (α +ℤ β +ℤ γ) p' q')
