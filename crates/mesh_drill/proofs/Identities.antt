-- Equations of whole numbers that the laws about the part as drawn rest on. Assumes nothing.
use Rattle.std.proofs.Common.{◌≡◌, [], ◌∷◌, ℤ, pos, ◌+ℤ◌, ◌-ℤ◌, ◌*ℤ◌, neg_ℤ, refl}
use Rattle.wide_integers.proofs.Ring.{alike, var, num, ◌⊕◌, ◌⊖◌, ◌⊗◌, opp}

-- numbers that are bounded in size
pub times_high : (A B u e : ℤ) → pos 2 *ℤ (A *ℤ B -ℤ u *ℤ e) ≡ (A -ℤ u) *ℤ (B +ℤ e) +ℤ (A +ℤ u) *ℤ (B -ℤ e)
times_high A B u e =
    alike (A ∷ B ∷ u ∷ e ∷ []) (num (pos 2) ⊗ (var 0 ⊗ var 1 ⊖ var 2 ⊗ var 3))
    ((var 0 ⊖ var 2) ⊗ (var 1 ⊕ var 3) ⊕ (var 0 ⊕ var 2) ⊗ (var 1 ⊖ var 3)) refl

pub times_low : (A B u e : ℤ) → pos 2 *ℤ (A *ℤ B +ℤ u *ℤ e) ≡ (A -ℤ u) *ℤ (B -ℤ e) +ℤ (A +ℤ u) *ℤ (B +ℤ e)
times_low A B u e =
    alike (A ∷ B ∷ u ∷ e ∷ []) (num (pos 2) ⊗ (var 0 ⊗ var 1 ⊕ var 2 ⊗ var 3))
    ((var 0 ⊖ var 2) ⊗ (var 1 ⊖ var 3) ⊕ (var 0 ⊕ var 2) ⊗ (var 1 ⊕ var 3)) refl

pub sum_high : (A B u e : ℤ) → A +ℤ B -ℤ (u +ℤ e) ≡ A -ℤ u +ℤ (B -ℤ e)
sum_high A B u e = alike (A ∷ B ∷ u ∷ e ∷ []) (var 0 ⊕ var 1 ⊖ (var 2 ⊕ var 3)) (var 0 ⊖ var 2 ⊕ (var 1 ⊖ var 3)) refl

pub sum_low : (A B u e : ℤ) → A +ℤ B +ℤ (u +ℤ e) ≡ A +ℤ u +ℤ (B +ℤ e)
sum_low A B u e = alike (A ∷ B ∷ u ∷ e ∷ []) (var 0 ⊕ var 1 ⊕ (var 2 ⊕ var 3)) (var 0 ⊕ var 2 ⊕ (var 1 ⊕ var 3)) refl

pub scaled_high : (k A u : ℤ) → k *ℤ A -ℤ k *ℤ u ≡ k *ℤ (A -ℤ u)
scaled_high k A u = alike (k ∷ A ∷ u ∷ []) (var 0 ⊗ var 1 ⊖ var 0 ⊗ var 2) (var 0 ⊗ (var 1 ⊖ var 2)) refl

pub scaled_low : (k A u : ℤ) → k *ℤ A +ℤ k *ℤ u ≡ k *ℤ (A +ℤ u)
scaled_low k A u = alike (k ∷ A ∷ u ∷ []) (var 0 ⊗ var 1 ⊕ var 0 ⊗ var 2) (var 0 ⊗ (var 1 ⊕ var 2)) refl

pub negated_high : (A u : ℤ) → A -ℤ neg_ℤ u ≡ A +ℤ u
negated_high A u = alike (A ∷ u ∷ []) (var 0 ⊖ opp (var 1)) (var 0 ⊕ var 1) refl

pub negated_low : (A u : ℤ) → A +ℤ neg_ℤ u ≡ A -ℤ u
negated_low A u = alike (A ∷ u ∷ []) (var 0 ⊕ opp (var 1)) (var 0 ⊖ var 1) refl

pub wider_high : (A B e : ℤ) → B -ℤ e ≡ B -ℤ A +ℤ (A -ℤ e)
wider_high A B e = alike (A ∷ B ∷ e ∷ []) (var 1 ⊖ var 2) (var 1 ⊖ var 0 ⊕ (var 0 ⊖ var 2)) refl

pub wider_low : (A B e : ℤ) → B +ℤ e ≡ B -ℤ A +ℤ (A +ℤ e)
wider_low A B e = alike (A ∷ B ∷ e ∷ []) (var 1 ⊕ var 2) (var 1 ⊖ var 0 ⊕ (var 0 ⊕ var 2)) refl

pub apart_squares : (A u : ℤ) → A *ℤ A -ℤ u *ℤ u ≡ (A -ℤ u) *ℤ (A +ℤ u)
apart_squares A u = alike (A ∷ u ∷ []) (var 0 ⊗ var 0 ⊖ var 1 ⊗ var 1) ((var 0 ⊖ var 1) ⊗ (var 0 ⊕ var 1)) refl

pub over_square : (A u : ℤ) → u *ℤ u -ℤ A *ℤ A ≡ (u -ℤ A) *ℤ (u -ℤ A) +ℤ pos 2 *ℤ A *ℤ (u -ℤ A)
over_square A u =
    alike (A ∷ u ∷ []) (var 1 ⊗ var 1 ⊖ var 0 ⊗ var 0) ((var 1 ⊖ var 0) ⊗ (var 1 ⊖ var 0) ⊕ num (pos 2) ⊗ var 0 ⊗ (var 1 ⊖ var 0)) refl

pub turned_minus : (A u : ℤ) → neg_ℤ (A -ℤ u) ≡ u -ℤ A
turned_minus A u = alike (A ∷ u ∷ []) (opp (var 0 ⊖ var 1)) (var 1 ⊖ var 0) refl

pub negated_square : (A u : ℤ) → A *ℤ A -ℤ u *ℤ u ≡ A *ℤ A -ℤ neg_ℤ u *ℤ neg_ℤ u
negated_square A u = alike (A ∷ u ∷ []) (var 0 ⊗ var 0 ⊖ var 1 ⊗ var 1) (var 0 ⊗ var 0 ⊖ opp (var 1) ⊗ opp (var 1)) refl

pub wide : (A u : ℤ) → A -ℤ u +ℤ pos 2 *ℤ u ≡ A +ℤ u
wide A u = alike (A ∷ u ∷ []) (var 0 ⊖ var 1 ⊕ num (pos 2) ⊗ var 1) (var 0 ⊕ var 1) refl

-- the vector from the axis to the point, M D times it
pub vector_moved : (M h p q v d : ℤ) → M *ℤ neg_ℤ (pos 2 *ℤ (p -ℤ q)) +ℤ h *ℤ (pos 2 *ℤ (v -ℤ d))
    ≡ pos 2 *ℤ (M *ℤ (q -ℤ p) +ℤ h *ℤ (v -ℤ d))
vector_moved M h p q v d =
    alike (M ∷ h ∷ p ∷ q ∷ v ∷ d ∷ []) (var 0 ⊗ opp (num (pos 2) ⊗ (var 2 ⊖ var 3)) ⊕ var 1 ⊗ (num (pos 2) ⊗ (var 4 ⊖ var 5)))
    (num (pos 2) ⊗ (var 0 ⊗ (var 3 ⊖ var 2) ⊕ var 1 ⊗ (var 4 ⊖ var 5))) refl

pub vector_bound : (W M h D : ℤ) → pos 3 *ℤ M *ℤ D *ℤ W -ℤ (M *ℤ (pos 2 *ℤ D *ℤ W) +ℤ h *ℤ W) ≡ W *ℤ (D *ℤ M -ℤ h)
vector_bound W M h D =
    alike (W ∷ M ∷ h ∷ D ∷ []) (num (pos 3) ⊗ var 1 ⊗ var 3 ⊗ var 0 ⊖ (var 1 ⊗ (num (pos 2) ⊗ var 3 ⊗ var 0) ⊕ var 2 ⊗ var 0))
    (var 0 ⊗ (var 3 ⊗ var 1 ⊖ var 2)) refl

pub vector_sum : (M h p q v d : ℤ) → M *ℤ p -ℤ h *ℤ v +ℤ (M *ℤ (q -ℤ p) +ℤ h *ℤ (v -ℤ d)) ≡ M *ℤ q -ℤ h *ℤ d
vector_sum M h p q v d =
    alike (M ∷ h ∷ p ∷ q ∷ v ∷ d ∷ []) (var 0 ⊗ var 2 ⊖ var 1 ⊗ var 4 ⊕ (var 0 ⊗ (var 3 ⊖ var 2) ⊕ var 1 ⊗ (var 4 ⊖ var 5)))
    (var 0 ⊗ var 3 ⊖ var 1 ⊗ var 5) refl

pub three_squares : (B e1 e2 e3 : ℤ) → pos 4 *ℤ (B *ℤ B -ℤ (e1 *ℤ e1 +ℤ e2 *ℤ e2 +ℤ e3 *ℤ e3)) ≡ B *ℤ B -ℤ pos 2 *ℤ e1 *ℤ (pos 2 *ℤ e1) +ℤ
    (B *ℤ B -ℤ pos 2 *ℤ e2 *ℤ (pos 2 *ℤ e2)) +ℤ (B *ℤ B -ℤ pos 2 *ℤ e3 *ℤ (pos 2 *ℤ e3)) +ℤ B *ℤ B
three_squares B e1 e2 e3 =
    alike (B ∷ e1 ∷ e2 ∷ e3 ∷ []) (num (pos 4) ⊗ (var 0 ⊗ var 0 ⊖ (var 1 ⊗ var 1 ⊕ var 2 ⊗ var 2 ⊕ var 3 ⊗ var 3)))
    (var 0 ⊗ var 0 ⊖ num (pos 2) ⊗ var 1 ⊗ (num (pos 2) ⊗ var 1) ⊕ (var 0 ⊗ var 0 ⊖ num (pos 2) ⊗ var 2 ⊗ (num (pos 2) ⊗ var 2)) ⊕
    (var 0 ⊗ var 0 ⊖ num (pos 2) ⊗ var 3 ⊗ (num (pos 2) ⊗ var 3)) ⊕ var 0 ⊗ var 0) refl

-- the triangle's inequality, without a root
pub triangle : (A B u1 u2 u3 e1 e2 e3 : ℤ) → A *ℤ B *ℤ ((A +ℤ B) *ℤ (A +ℤ B) -ℤ
    ((u1 +ℤ e1) *ℤ (u1 +ℤ e1) +ℤ (u2 +ℤ e2) *ℤ (u2 +ℤ e2) +ℤ (u3 +ℤ e3) *ℤ (u3 +ℤ e3))) ≡ A *ℤ B *ℤ
    (A *ℤ A -ℤ (u1 *ℤ u1 +ℤ u2 *ℤ u2 +ℤ u3 *ℤ u3)) +ℤ A *ℤ B *ℤ (B *ℤ B -ℤ (e1 *ℤ e1 +ℤ e2 *ℤ e2 +ℤ e3 *ℤ e3)) +ℤ
    ((B *ℤ u1 -ℤ A *ℤ e1) *ℤ (B *ℤ u1 -ℤ A *ℤ e1) +ℤ (B *ℤ u2 -ℤ A *ℤ e2) *ℤ (B *ℤ u2 -ℤ A *ℤ e2) +ℤ (B *ℤ u3 -ℤ A *ℤ e3) *ℤ
    (B *ℤ u3 -ℤ A *ℤ e3)) +ℤ B *ℤ B *ℤ (A *ℤ A -ℤ (u1 *ℤ u1 +ℤ u2 *ℤ u2 +ℤ u3 *ℤ u3)) +ℤ A *ℤ A *ℤ
    (B *ℤ B -ℤ (e1 *ℤ e1 +ℤ e2 *ℤ e2 +ℤ e3 *ℤ e3))
triangle A B u1 u2 u3 e1 e2 e3 =
    alike (A ∷ B ∷ u1 ∷ u2 ∷ u3 ∷ e1 ∷ e2 ∷ e3 ∷ []) (var 0 ⊗ var 1 ⊗
    ((var 0 ⊕ var 1) ⊗ (var 0 ⊕ var 1) ⊖ ((var 2 ⊕ var 5) ⊗ (var 2 ⊕ var 5) ⊕ (var 3 ⊕ var 6) ⊗ (var 3 ⊕ var 6) ⊕ (var 4 ⊕ var 7) ⊗
    (var 4 ⊕ var 7)))) (var 0 ⊗ var 1 ⊗ (var 0 ⊗ var 0 ⊖ (var 2 ⊗ var 2 ⊕ var 3 ⊗ var 3 ⊕ var 4 ⊗ var 4)) ⊕ var 0 ⊗ var 1 ⊗
    (var 1 ⊗ var 1 ⊖ (var 5 ⊗ var 5 ⊕ var 6 ⊗ var 6 ⊕ var 7 ⊗ var 7)) ⊕
    ((var 1 ⊗ var 2 ⊖ var 0 ⊗ var 5) ⊗ (var 1 ⊗ var 2 ⊖ var 0 ⊗ var 5) ⊕ (var 1 ⊗ var 3 ⊖ var 0 ⊗ var 6) ⊗ (var 1 ⊗ var 3 ⊖ var 0 ⊗ var 6) ⊕
    (var 1 ⊗ var 4 ⊖ var 0 ⊗ var 7) ⊗ (var 1 ⊗ var 4 ⊖ var 0 ⊗ var 7)) ⊕ var 1 ⊗ var 1 ⊗
    (var 0 ⊗ var 0 ⊖ (var 2 ⊗ var 2 ⊕ var 3 ⊗ var 3 ⊕ var 4 ⊗ var 4)) ⊕ var 0 ⊗ var 0 ⊗
    (var 1 ⊗ var 1 ⊖ (var 5 ⊗ var 5 ⊕ var 6 ⊗ var 6 ⊕ var 7 ⊗ var 7))) refl

pub across : (M h x1 x2 x3 v1 v2 v3 : ℤ) → (M *ℤ x1 -ℤ h *ℤ v1) *ℤ (M *ℤ x1 -ℤ h *ℤ v1) +ℤ (M *ℤ x2 -ℤ h *ℤ v2) *ℤ (M *ℤ x2 -ℤ h *ℤ v2) +ℤ
    (M *ℤ x3 -ℤ h *ℤ v3) *ℤ (M *ℤ x3 -ℤ h *ℤ v3) ≡ M *ℤ M *ℤ (x1 *ℤ x1 +ℤ x2 *ℤ x2 +ℤ x3 *ℤ x3) -ℤ pos 2 *ℤ M *ℤ h *ℤ
    (x1 *ℤ v1 +ℤ x2 *ℤ v2 +ℤ x3 *ℤ v3) +ℤ h *ℤ h *ℤ (v1 *ℤ v1 +ℤ v2 *ℤ v2 +ℤ v3 *ℤ v3)
across M h x1 x2 x3 v1 v2 v3 =
    alike (M ∷ h ∷ x1 ∷ x2 ∷ x3 ∷ v1 ∷ v2 ∷ v3 ∷ []) ((var 0 ⊗ var 2 ⊖ var 1 ⊗ var 5) ⊗ (var 0 ⊗ var 2 ⊖ var 1 ⊗ var 5) ⊕
    (var 0 ⊗ var 3 ⊖ var 1 ⊗ var 6) ⊗ (var 0 ⊗ var 3 ⊖ var 1 ⊗ var 6) ⊕ (var 0 ⊗ var 4 ⊖ var 1 ⊗ var 7) ⊗ (var 0 ⊗ var 4 ⊖ var 1 ⊗ var 7))
    (var 0 ⊗ var 0 ⊗ (var 2 ⊗ var 2 ⊕ var 3 ⊗ var 3 ⊕ var 4 ⊗ var 4) ⊖ num (pos 2) ⊗ var 0 ⊗ var 1 ⊗
    (var 2 ⊗ var 5 ⊕ var 3 ⊗ var 6 ⊕ var 4 ⊗ var 7) ⊕ var 1 ⊗ var 1 ⊗ (var 5 ⊗ var 5 ⊕ var 6 ⊗ var 6 ⊕ var 7 ⊗ var 7)) refl

-- how close it is
pub first_close : (M D R S h : ℤ) → M *ℤ D *ℤ R *ℤ (M *ℤ D *ℤ R) -ℤ (M *ℤ M *ℤ S -ℤ pos 2 *ℤ M *ℤ h *ℤ h +ℤ h *ℤ h *ℤ M) ≡ M *ℤ
    (R *ℤ R *ℤ M *ℤ (D *ℤ D) -ℤ (S *ℤ M -ℤ h *ℤ h))
first_close M D R S h =
    alike (M ∷ D ∷ R ∷ S ∷ h ∷ []) (var 0 ⊗ var 1 ⊗ var 2 ⊗ (var 0 ⊗ var 1 ⊗ var 2) ⊖
    (var 0 ⊗ var 0 ⊗ var 3 ⊖ num (pos 2) ⊗ var 0 ⊗ var 4 ⊗ var 4 ⊕ var 4 ⊗ var 4 ⊗ var 0))
    (var 0 ⊗ (var 2 ⊗ var 2 ⊗ var 0 ⊗ (var 1 ⊗ var 1) ⊖ (var 3 ⊗ var 0 ⊖ var 4 ⊗ var 4))) refl

pub first_closer : (M D R S Q : ℤ) → M *ℤ D *ℤ S *ℤ (M *ℤ D *ℤ S) -ℤ Q ≡ M *ℤ D *ℤ R *ℤ (M *ℤ D *ℤ R) -ℤ Q +ℤ M *ℤ D *ℤ (M *ℤ D) *ℤ
    ((S -ℤ R) *ℤ (S +ℤ R))
first_closer M D R S Q =
    alike (M ∷ D ∷ R ∷ S ∷ Q ∷ []) (var 0 ⊗ var 1 ⊗ var 3 ⊗ (var 0 ⊗ var 1 ⊗ var 3) ⊖ var 4)
    (var 0 ⊗ var 1 ⊗ var 2 ⊗ (var 0 ⊗ var 1 ⊗ var 2) ⊖ var 4 ⊕ var 0 ⊗ var 1 ⊗ (var 0 ⊗ var 1) ⊗ ((var 3 ⊖ var 2) ⊗ (var 3 ⊕ var 2))) refl

pub wider_sum : (R S : ℤ) → S +ℤ R ≡ S -ℤ R +ℤ pos 2 *ℤ R
wider_sum R S = alike (R ∷ S ∷ []) (var 1 ⊕ var 0) (var 1 ⊖ var 0 ⊕ num (pos 2) ⊗ var 0) refl

pub then_close : (W M D S r Q : ℤ) → M *ℤ D *ℤ r *ℤ (M *ℤ D *ℤ r) -ℤ Q ≡ M *ℤ D *ℤ (r -ℤ (S +ℤ pos 3 *ℤ W)) *ℤ
    (M *ℤ D *ℤ (r +ℤ (S +ℤ pos 3 *ℤ W))) +ℤ ((M *ℤ D *ℤ S +ℤ pos 3 *ℤ M *ℤ D *ℤ W) *ℤ (M *ℤ D *ℤ S +ℤ pos 3 *ℤ M *ℤ D *ℤ W) -ℤ Q)
then_close W M D S r Q =
    alike (W ∷ M ∷ D ∷ S ∷ r ∷ Q ∷ []) (var 1 ⊗ var 2 ⊗ var 4 ⊗ (var 1 ⊗ var 2 ⊗ var 4) ⊖ var 5)
    (var 1 ⊗ var 2 ⊗ (var 4 ⊖ (var 3 ⊕ num (pos 3) ⊗ var 0)) ⊗ (var 1 ⊗ var 2 ⊗ (var 4 ⊕ (var 3 ⊕ num (pos 3) ⊗ var 0))) ⊕
    ((var 1 ⊗ var 2 ⊗ var 3 ⊕ num (pos 3) ⊗ var 1 ⊗ var 2 ⊗ var 0) ⊗ (var 1 ⊗ var 2 ⊗ var 3 ⊕ num (pos 3) ⊗ var 1 ⊗ var 2 ⊗ var 0) ⊖ var 5))
    refl

pub to_axis : (M D r m S h g : ℤ) → M *ℤ M *ℤ (r *ℤ r *ℤ m *ℤ (D *ℤ D) -ℤ (S *ℤ m -ℤ g *ℤ g)) ≡ m *ℤ
    (M *ℤ D *ℤ r *ℤ (M *ℤ D *ℤ r) -ℤ (M *ℤ M *ℤ S -ℤ pos 2 *ℤ M *ℤ h *ℤ g +ℤ h *ℤ h *ℤ m)) +ℤ (M *ℤ g -ℤ h *ℤ m) *ℤ (M *ℤ g -ℤ h *ℤ m)
to_axis M D r m S h g =
    alike (M ∷ D ∷ r ∷ m ∷ S ∷ h ∷ g ∷ []) (var 0 ⊗ var 0 ⊗ (var 2 ⊗ var 2 ⊗ var 3 ⊗ (var 1 ⊗ var 1) ⊖ (var 4 ⊗ var 3 ⊖ var 6 ⊗ var 6)))
    (var 3 ⊗ (var 0 ⊗ var 1 ⊗ var 2 ⊗ (var 0 ⊗ var 1 ⊗ var 2) ⊖ (var 0 ⊗ var 0 ⊗ var 4 ⊖ num (pos 2) ⊗ var 0 ⊗ var 5 ⊗ var 6 ⊕ var 5 ⊗ var 5
    ⊗ var 3)) ⊕ (var 0 ⊗ var 6 ⊖ var 5 ⊗ var 3) ⊗ (var 0 ⊗ var 6 ⊖ var 5 ⊗ var 3)) refl

-- the foot of the point on the axis
pub foot_moved : (K M h x1 x2 x3 y1 y2 y3 v1 v2 v3 d1 d2 d3 : ℤ) → pos 8 *ℤ K *ℤ
    (M *ℤ (y1 *ℤ d1 +ℤ y2 *ℤ d2 +ℤ y3 *ℤ d3) -ℤ h *ℤ (d1 *ℤ d1 +ℤ d2 *ℤ d2 +ℤ d3 *ℤ d3)) ≡ pos 8 *ℤ K *ℤ
    (M *ℤ (x1 *ℤ v1 +ℤ x2 *ℤ v2 +ℤ x3 *ℤ v3) -ℤ h *ℤ (v1 *ℤ v1 +ℤ v2 *ℤ v2 +ℤ v3 *ℤ v3)) +ℤ
    (pos 4 *ℤ K *ℤ neg_ℤ ((M *ℤ x1 -ℤ h *ℤ v1) *ℤ (pos 2 *ℤ (v1 -ℤ d1)) +ℤ (M *ℤ x2 -ℤ h *ℤ v2) *ℤ (pos 2 *ℤ (v2 -ℤ d2)) +ℤ
    (M *ℤ x3 -ℤ h *ℤ v3) *ℤ (pos 2 *ℤ (v3 -ℤ d3))) +ℤ (pos 2 *ℤ (M *ℤ (y1 -ℤ x1) +ℤ h *ℤ (v1 -ℤ d1)) *ℤ (pos 4 *ℤ K *ℤ d1) +ℤ pos 2 *ℤ
    (M *ℤ (y2 -ℤ x2) +ℤ h *ℤ (v2 -ℤ d2)) *ℤ (pos 4 *ℤ K *ℤ d2) +ℤ pos 2 *ℤ (M *ℤ (y3 -ℤ x3) +ℤ h *ℤ (v3 -ℤ d3)) *ℤ (pos 4 *ℤ K *ℤ d3)))
foot_moved K M h x1 x2 x3 y1 y2 y3 v1 v2 v3 d1 d2 d3 =
    alike (K ∷ M ∷ h ∷ x1 ∷ x2 ∷ x3 ∷ y1 ∷ y2 ∷ y3 ∷ v1 ∷ v2 ∷ v3 ∷ d1 ∷ d2 ∷ d3 ∷ [])
    (num (pos 8) ⊗ var 0 ⊗ (var 1 ⊗ (var 6 ⊗ var 12 ⊕ var 7 ⊗ var 13 ⊕ var 8 ⊗ var 14) ⊖ var 2 ⊗
    (var 12 ⊗ var 12 ⊕ var 13 ⊗ var 13 ⊕ var 14 ⊗ var 14))) (num (pos 8) ⊗ var 0 ⊗
    (var 1 ⊗ (var 3 ⊗ var 9 ⊕ var 4 ⊗ var 10 ⊕ var 5 ⊗ var 11) ⊖ var 2 ⊗ (var 9 ⊗ var 9 ⊕ var 10 ⊗ var 10 ⊕ var 11 ⊗ var 11)) ⊕
    (num (pos 4) ⊗ var 0 ⊗ opp ((var 1 ⊗ var 3 ⊖ var 2 ⊗ var 9) ⊗ (num (pos 2) ⊗ (var 9 ⊖ var 12)) ⊕ (var 1 ⊗ var 4 ⊖ var 2 ⊗ var 10) ⊗
    (num (pos 2) ⊗ (var 10 ⊖ var 13)) ⊕ (var 1 ⊗ var 5 ⊖ var 2 ⊗ var 11) ⊗ (num (pos 2) ⊗ (var 11 ⊖ var 14))) ⊕
    (num (pos 2) ⊗ (var 1 ⊗ (var 6 ⊖ var 3) ⊕ var 2 ⊗ (var 9 ⊖ var 12)) ⊗ (num (pos 4) ⊗ var 0 ⊗ var 12) ⊕ num (pos 2) ⊗
    (var 1 ⊗ (var 7 ⊖ var 4) ⊕ var 2 ⊗ (var 10 ⊖ var 13)) ⊗ (num (pos 4) ⊗ var 0 ⊗ var 13) ⊕ num (pos 2) ⊗
    (var 1 ⊗ (var 8 ⊖ var 5) ⊕ var 2 ⊗ (var 11 ⊖ var 14)) ⊗ (num (pos 4) ⊗ var 0 ⊗ var 14)))) refl

pub no_foot : (K M h Q : ℤ) → pos 8 *ℤ K *ℤ (M *ℤ h -ℤ h *ℤ M) +ℤ Q ≡ Q
no_foot K M h Q = alike (K ∷ M ∷ h ∷ Q ∷ []) (num (pos 8) ⊗ var 0 ⊗ (var 1 ⊗ var 2 ⊖ var 2 ⊗ var 1) ⊕ var 3) (var 3) refl

pub half_high : (K d : ℤ) → pos 4 *ℤ (d *ℤ d) +ℤ K *ℤ K -ℤ pos 4 *ℤ K *ℤ d ≡ (pos 2 *ℤ d -ℤ K) *ℤ (pos 2 *ℤ d -ℤ K)
half_high K d =
    alike (K ∷ d ∷ []) (num (pos 4) ⊗ (var 1 ⊗ var 1) ⊕ var 0 ⊗ var 0 ⊖ num (pos 4) ⊗ var 0 ⊗ var 1)
    ((num (pos 2) ⊗ var 1 ⊖ var 0) ⊗ (num (pos 2) ⊗ var 1 ⊖ var 0)) refl

pub half_low : (K d : ℤ) → pos 4 *ℤ (d *ℤ d) +ℤ K *ℤ K +ℤ pos 4 *ℤ K *ℤ d ≡ (pos 2 *ℤ d +ℤ K) *ℤ (pos 2 *ℤ d +ℤ K)
half_low K d =
    alike (K ∷ d ∷ []) (num (pos 4) ⊗ (var 1 ⊗ var 1) ⊕ var 0 ⊗ var 0 ⊕ num (pos 4) ⊗ var 0 ⊗ var 1)
    ((num (pos 2) ⊗ var 1 ⊕ var 0) ⊗ (num (pos 2) ⊗ var 1 ⊕ var 0)) refl

pub foot_bound : (K W M D R d1 d2 d3 : ℤ) → pos 4 *ℤ K *ℤ (M *ℤ D *ℤ R *ℤ W +ℤ M *ℤ D *ℤ R *ℤ W +ℤ M *ℤ D *ℤ R *ℤ W) +ℤ
    (pos 3 *ℤ M *ℤ D *ℤ W *ℤ (pos 4 *ℤ (d1 *ℤ d1) +ℤ K *ℤ K) +ℤ pos 3 *ℤ M *ℤ D *ℤ W *ℤ (pos 4 *ℤ (d2 *ℤ d2) +ℤ K *ℤ K) +ℤ pos 3 *ℤ M *ℤ D
    *ℤ W *ℤ (pos 4 *ℤ (d3 *ℤ d3) +ℤ K *ℤ K)) ≡ pos 12 *ℤ K *ℤ (M *ℤ D *ℤ R *ℤ W) +ℤ pos 3 *ℤ M *ℤ D *ℤ W *ℤ
    (pos 4 *ℤ (d1 *ℤ d1 +ℤ d2 *ℤ d2 +ℤ d3 *ℤ d3) +ℤ pos 3 *ℤ (K *ℤ K))
foot_bound K W M D R d1 d2 d3 =
    alike (K ∷ W ∷ M ∷ D ∷ R ∷ d1 ∷ d2 ∷ d3 ∷ []) (num (pos 4) ⊗ var 0 ⊗
    (var 2 ⊗ var 3 ⊗ var 4 ⊗ var 1 ⊕ var 2 ⊗ var 3 ⊗ var 4 ⊗ var 1 ⊕ var 2 ⊗ var 3 ⊗ var 4 ⊗ var 1) ⊕
    (num (pos 3) ⊗ var 2 ⊗ var 3 ⊗ var 1 ⊗ (num (pos 4) ⊗ (var 5 ⊗ var 5) ⊕ var 0 ⊗ var 0) ⊕ num (pos 3) ⊗ var 2 ⊗ var 3 ⊗ var 1 ⊗
    (num (pos 4) ⊗ (var 6 ⊗ var 6) ⊕ var 0 ⊗ var 0) ⊕ num (pos 3) ⊗ var 2 ⊗ var 3 ⊗ var 1 ⊗
    (num (pos 4) ⊗ (var 7 ⊗ var 7) ⊕ var 0 ⊗ var 0))) (num (pos 12) ⊗ var 0 ⊗ (var 2 ⊗ var 3 ⊗ var 4 ⊗ var 1) ⊕ num (pos 3) ⊗ var 2 ⊗ var 3
    ⊗ var 1 ⊗ (num (pos 4) ⊗ (var 5 ⊗ var 5 ⊕ var 6 ⊗ var 6 ⊕ var 7 ⊗ var 7) ⊕ num (pos 3) ⊗ (var 0 ⊗ var 0))) refl

-- it stays between the ends
pub start_kept : (K W M D R h g m lo n : ℤ) → pos 8 *ℤ M *ℤ (K *ℤ g -ℤ n *ℤ m *ℤ D) ≡ pos 12 *ℤ K *ℤ (M *ℤ D *ℤ R *ℤ W) +ℤ pos 3 *ℤ M *ℤ D
    *ℤ W *ℤ (pos 4 *ℤ m +ℤ pos 3 *ℤ (K *ℤ K)) +ℤ pos 8 *ℤ K *ℤ (M *ℤ g -ℤ h *ℤ m) +ℤ pos 8 *ℤ m *ℤ (K *ℤ h -ℤ lo *ℤ M *ℤ D) +ℤ pos 4 *ℤ m
    *ℤ M *ℤ D *ℤ (pos 2 *ℤ (lo -ℤ n) -ℤ pos 7 *ℤ W) +ℤ M *ℤ D *ℤ W *ℤ
    (pos 4 *ℤ (pos 4 *ℤ m -ℤ pos 3 *ℤ (K *ℤ K)) +ℤ pos 3 *ℤ K *ℤ (K -ℤ pos 4 *ℤ R))
start_kept K W M D R h g m lo n =
    alike (K ∷ W ∷ M ∷ D ∷ R ∷ h ∷ g ∷ m ∷ lo ∷ n ∷ []) (num (pos 8) ⊗ var 2 ⊗ (var 0 ⊗ var 6 ⊖ var 9 ⊗ var 7 ⊗ var 3))
    (num (pos 12) ⊗ var 0 ⊗ (var 2 ⊗ var 3 ⊗ var 4 ⊗ var 1) ⊕ num (pos 3) ⊗ var 2 ⊗ var 3 ⊗ var 1 ⊗
    (num (pos 4) ⊗ var 7 ⊕ num (pos 3) ⊗ (var 0 ⊗ var 0)) ⊕ num (pos 8) ⊗ var 0 ⊗ (var 2 ⊗ var 6 ⊖ var 5 ⊗ var 7) ⊕ num (pos 8) ⊗ var 7 ⊗
    (var 0 ⊗ var 5 ⊖ var 8 ⊗ var 2 ⊗ var 3) ⊕ num (pos 4) ⊗ var 7 ⊗ var 2 ⊗ var 3 ⊗ (num (pos 2) ⊗ (var 8 ⊖ var 9) ⊖ num (pos 7) ⊗ var 1)
    ⊕ var 2 ⊗ var 3 ⊗ var 1 ⊗ (num (pos 4) ⊗ (num (pos 4) ⊗ var 7 ⊖ num (pos 3) ⊗ (var 0 ⊗ var 0)) ⊕ num (pos 3) ⊗ var 0 ⊗
    (var 0 ⊖ num (pos 4) ⊗ var 4))) refl

pub end_kept : (K W M D R h g m hi f : ℤ) → pos 8 *ℤ M *ℤ (f *ℤ m *ℤ D -ℤ K *ℤ g) ≡ pos 12 *ℤ K *ℤ (M *ℤ D *ℤ R *ℤ W) +ℤ pos 3 *ℤ M *ℤ D
    *ℤ W *ℤ (pos 4 *ℤ m +ℤ pos 3 *ℤ (K *ℤ K)) -ℤ pos 8 *ℤ K *ℤ (M *ℤ g -ℤ h *ℤ m) +ℤ pos 8 *ℤ m *ℤ (hi *ℤ M *ℤ D -ℤ K *ℤ h) +ℤ pos 4 *ℤ m
    *ℤ M *ℤ D *ℤ (pos 2 *ℤ (f -ℤ hi) -ℤ pos 7 *ℤ W) +ℤ M *ℤ D *ℤ W *ℤ
    (pos 4 *ℤ (pos 4 *ℤ m -ℤ pos 3 *ℤ (K *ℤ K)) +ℤ pos 3 *ℤ K *ℤ (K -ℤ pos 4 *ℤ R))
end_kept K W M D R h g m hi f =
    alike (K ∷ W ∷ M ∷ D ∷ R ∷ h ∷ g ∷ m ∷ hi ∷ f ∷ []) (num (pos 8) ⊗ var 2 ⊗ (var 9 ⊗ var 7 ⊗ var 3 ⊖ var 0 ⊗ var 6))
    (num (pos 12) ⊗ var 0 ⊗ (var 2 ⊗ var 3 ⊗ var 4 ⊗ var 1) ⊕ num (pos 3) ⊗ var 2 ⊗ var 3 ⊗ var 1 ⊗
    (num (pos 4) ⊗ var 7 ⊕ num (pos 3) ⊗ (var 0 ⊗ var 0)) ⊖ num (pos 8) ⊗ var 0 ⊗ (var 2 ⊗ var 6 ⊖ var 5 ⊗ var 7) ⊕ num (pos 8) ⊗ var 7 ⊗
    (var 8 ⊗ var 2 ⊗ var 3 ⊖ var 0 ⊗ var 5) ⊕ num (pos 4) ⊗ var 7 ⊗ var 2 ⊗ var 3 ⊗ (num (pos 2) ⊗ (var 9 ⊖ var 8) ⊖ num (pos 7) ⊗ var 1)
    ⊕ var 2 ⊗ var 3 ⊗ var 1 ⊗ (num (pos 4) ⊗ (num (pos 4) ⊗ var 7 ⊖ num (pos 3) ⊗ (var 0 ⊗ var 0)) ⊕ num (pos 3) ⊗ var 0 ⊗
    (var 0 ⊖ num (pos 4) ⊗ var 4))) refl

pub foot_after : (K M D h lo : ℤ) → K *ℤ h ≡ K *ℤ h -ℤ lo *ℤ M *ℤ D +ℤ lo *ℤ M *ℤ D
foot_after K M D h lo = alike (K ∷ M ∷ D ∷ h ∷ lo ∷ []) (var 0 ⊗ var 3) (var 0 ⊗ var 3 ⊖ var 4 ⊗ var 1 ⊗ var 2 ⊕ var 4 ⊗ var 1 ⊗ var 2) refl

pub foot_before : (K M D h hi : ℤ) → K *ℤ (D *ℤ M -ℤ h) ≡ hi *ℤ M *ℤ D -ℤ K *ℤ h +ℤ (K -ℤ hi) *ℤ (M *ℤ D)
foot_before K M D h hi =
    alike (K ∷ M ∷ D ∷ h ∷ hi ∷ []) (var 0 ⊗ (var 2 ⊗ var 1 ⊖ var 3))
    (var 4 ⊗ var 1 ⊗ var 2 ⊖ var 0 ⊗ var 3 ⊕ (var 0 ⊖ var 4) ⊗ (var 1 ⊗ var 2)) refl

pub one_square : (A u1 u2 u3 : ℤ) → A *ℤ A -ℤ u1 *ℤ u1 ≡ A *ℤ A -ℤ (u1 *ℤ u1 +ℤ u2 *ℤ u2 +ℤ u3 *ℤ u3) +ℤ u2 *ℤ u2 +ℤ u3 *ℤ u3
one_square A u1 u2 u3 =
    alike (A ∷ u1 ∷ u2 ∷ u3 ∷ []) (var 0 ⊗ var 0 ⊖ var 1 ⊗ var 1)
    (var 0 ⊗ var 0 ⊖ (var 1 ⊗ var 1 ⊕ var 2 ⊗ var 2 ⊕ var 3 ⊗ var 3) ⊕ var 2 ⊗ var 2 ⊕ var 3 ⊗ var 3) refl

pub other_square : (A u1 u2 u3 : ℤ) → A *ℤ A -ℤ u2 *ℤ u2 ≡ A *ℤ A -ℤ (u1 *ℤ u1 +ℤ u2 *ℤ u2 +ℤ u3 *ℤ u3) +ℤ u1 *ℤ u1 +ℤ u3 *ℤ u3
other_square A u1 u2 u3 =
    alike (A ∷ u1 ∷ u2 ∷ u3 ∷ []) (var 0 ⊗ var 0 ⊖ var 2 ⊗ var 2)
    (var 0 ⊗ var 0 ⊖ (var 1 ⊗ var 1 ⊕ var 2 ⊗ var 2 ⊕ var 3 ⊗ var 3) ⊕ var 1 ⊗ var 1 ⊕ var 3 ⊗ var 3) refl

pub third_square : (A u1 u2 u3 : ℤ) → A *ℤ A -ℤ u3 *ℤ u3 ≡ A *ℤ A -ℤ (u1 *ℤ u1 +ℤ u2 *ℤ u2 +ℤ u3 *ℤ u3) +ℤ u1 *ℤ u1 +ℤ u2 *ℤ u2
third_square A u1 u2 u3 =
    alike (A ∷ u1 ∷ u2 ∷ u3 ∷ []) (var 0 ⊗ var 0 ⊖ var 3 ⊗ var 3)
    (var 0 ⊗ var 0 ⊖ (var 1 ⊗ var 1 ⊕ var 2 ⊗ var 2 ⊕ var 3 ⊗ var 3) ⊕ var 1 ⊗ var 1 ⊕ var 2 ⊗ var 2) refl

-- a point of the triangle moves with its corners and the origin
pub point_moved : (W i j k A B C O a b c o : ℤ) → i *ℤ (pos 2 *ℤ (A -ℤ W *ℤ a) +ℤ neg_ℤ (pos 2 *ℤ (O -ℤ W *ℤ o))) +ℤ j *ℤ
    (pos 2 *ℤ (B -ℤ W *ℤ b) +ℤ neg_ℤ (pos 2 *ℤ (O -ℤ W *ℤ o))) +ℤ k *ℤ (pos 2 *ℤ (C -ℤ W *ℤ c) +ℤ neg_ℤ (pos 2 *ℤ (O -ℤ W *ℤ o))) ≡ pos 2 *ℤ
    (i *ℤ (A -ℤ O) +ℤ j *ℤ (B -ℤ O) +ℤ k *ℤ (C -ℤ O) -ℤ W *ℤ (i *ℤ (a -ℤ o) +ℤ j *ℤ (b -ℤ o) +ℤ k *ℤ (c -ℤ o)))
point_moved W i j k A B C O a b c o =
    alike (W ∷ i ∷ j ∷ k ∷ A ∷ B ∷ C ∷ O ∷ a ∷ b ∷ c ∷ o ∷ []) (var 1 ⊗
    (num (pos 2) ⊗ (var 4 ⊖ var 0 ⊗ var 8) ⊕ opp (num (pos 2) ⊗ (var 7 ⊖ var 0 ⊗ var 11))) ⊕ var 2 ⊗
    (num (pos 2) ⊗ (var 5 ⊖ var 0 ⊗ var 9) ⊕ opp (num (pos 2) ⊗ (var 7 ⊖ var 0 ⊗ var 11))) ⊕ var 3 ⊗
    (num (pos 2) ⊗ (var 6 ⊖ var 0 ⊗ var 10) ⊕ opp (num (pos 2) ⊗ (var 7 ⊖ var 0 ⊗ var 11))))
    (num (pos 2) ⊗ (var 1 ⊗ (var 4 ⊖ var 7) ⊕ var 2 ⊗ (var 5 ⊖ var 7) ⊕ var 3 ⊗ (var 6 ⊖ var 7) ⊖ var 0 ⊗
    (var 1 ⊗ (var 8 ⊖ var 11) ⊕ var 2 ⊗ (var 9 ⊖ var 11) ⊕ var 3 ⊗ (var 10 ⊖ var 11)))) refl

pub point_bound : (W i j k : ℤ) → i *ℤ (W +ℤ W) +ℤ j *ℤ (W +ℤ W) +ℤ k *ℤ (W +ℤ W) ≡ pos 2 *ℤ (i +ℤ j +ℤ k) *ℤ W
point_bound W i j k =
    alike (W ∷ i ∷ j ∷ k ∷ []) (var 1 ⊗ (var 0 ⊕ var 0) ⊕ var 2 ⊗ (var 0 ⊕ var 0) ⊕ var 3 ⊗ (var 0 ⊕ var 0))
    (num (pos 2) ⊗ (var 1 ⊕ var 2 ⊕ var 3) ⊗ var 0) refl

-- the direction's length
pub component : (W v d : ℤ) → pos 17 *ℤ (W *ℤ W) *ℤ (d *ℤ d) +ℤ pos 68 *ℤ (W *ℤ W) -ℤ pos 16 *ℤ (v *ℤ v) ≡
    (W *ℤ d -ℤ pos 8 *ℤ (pos 2 *ℤ (v -ℤ W *ℤ d))) *ℤ (W *ℤ d -ℤ pos 8 *ℤ (pos 2 *ℤ (v -ℤ W *ℤ d))) +ℤ pos 68 *ℤ
    (W *ℤ W -ℤ pos 2 *ℤ (v -ℤ W *ℤ d) *ℤ (pos 2 *ℤ (v -ℤ W *ℤ d)))
component W v d =
    alike (W ∷ v ∷ d ∷ []) (num (pos 17) ⊗ (var 0 ⊗ var 0) ⊗ (var 2 ⊗ var 2) ⊕ num (pos 68) ⊗ (var 0 ⊗ var 0) ⊖ num (pos 16) ⊗
    (var 1 ⊗ var 1)) ((var 0 ⊗ var 2 ⊖ num (pos 8) ⊗ (num (pos 2) ⊗ (var 1 ⊖ var 0 ⊗ var 2))) ⊗
    (var 0 ⊗ var 2 ⊖ num (pos 8) ⊗ (num (pos 2) ⊗ (var 1 ⊖ var 0 ⊗ var 2))) ⊕ num (pos 68) ⊗
    (var 0 ⊗ var 0 ⊖ num (pos 2) ⊗ (var 1 ⊖ var 0 ⊗ var 2) ⊗ (num (pos 2) ⊗ (var 1 ⊖ var 0 ⊗ var 2)))) refl

pub long_enough : (P W v1 v2 v3 d1 d2 d3 : ℤ) → pos 17 *ℤ (pos 4 *ℤ (W *ℤ d1 *ℤ (W *ℤ d1) +ℤ W *ℤ d2 *ℤ (W *ℤ d2) +ℤ W *ℤ d3 *ℤ (W *ℤ d3))
    -ℤ pos 3 *ℤ (P *ℤ W *ℤ (P *ℤ W))) ≡ pos 4 *ℤ (pos 17 *ℤ (W *ℤ W) *ℤ (d1 *ℤ d1) +ℤ pos 68 *ℤ (W *ℤ W) -ℤ pos 16 *ℤ (v1 *ℤ v1) +ℤ
    (pos 17 *ℤ (W *ℤ W) *ℤ (d2 *ℤ d2) +ℤ pos 68 *ℤ (W *ℤ W) -ℤ pos 16 *ℤ (v2 *ℤ v2)) +ℤ
    (pos 17 *ℤ (W *ℤ W) *ℤ (d3 *ℤ d3) +ℤ pos 68 *ℤ (W *ℤ W) -ℤ pos 16 *ℤ (v3 *ℤ v3))) +ℤ
    (pos 64 *ℤ (v1 *ℤ v1 +ℤ v2 *ℤ v2 +ℤ v3 *ℤ v3) -ℤ pos 61 *ℤ (P *ℤ W *ℤ (P *ℤ W))) +ℤ W *ℤ W *ℤ (pos 10 *ℤ (P *ℤ P) -ℤ pos 816)
long_enough P W v1 v2 v3 d1 d2 d3 =
    alike (P ∷ W ∷ v1 ∷ v2 ∷ v3 ∷ d1 ∷ d2 ∷ d3 ∷ []) (num (pos 17) ⊗
    (num (pos 4) ⊗ (var 1 ⊗ var 5 ⊗ (var 1 ⊗ var 5) ⊕ var 1 ⊗ var 6 ⊗ (var 1 ⊗ var 6) ⊕ var 1 ⊗ var 7 ⊗ (var 1 ⊗ var 7)) ⊖ num (pos 3) ⊗
    (var 0 ⊗ var 1 ⊗ (var 0 ⊗ var 1)))) (num (pos 4) ⊗ (num (pos 17) ⊗ (var 1 ⊗ var 1) ⊗ (var 5 ⊗ var 5) ⊕ num (pos 68) ⊗ (var 1 ⊗ var 1)
    ⊖ num (pos 16) ⊗ (var 2 ⊗ var 2) ⊕ (num (pos 17) ⊗ (var 1 ⊗ var 1) ⊗ (var 6 ⊗ var 6) ⊕ num (pos 68) ⊗ (var 1 ⊗ var 1) ⊖ num (pos 16) ⊗
    (var 3 ⊗ var 3)) ⊕ (num (pos 17) ⊗ (var 1 ⊗ var 1) ⊗ (var 7 ⊗ var 7) ⊕ num (pos 68) ⊗ (var 1 ⊗ var 1) ⊖ num (pos 16) ⊗ (var 4 ⊗ var 4)))
    ⊕ (num (pos 64) ⊗ (var 2 ⊗ var 2 ⊕ var 3 ⊗ var 3 ⊕ var 4 ⊗ var 4) ⊖ num (pos 61) ⊗ (var 0 ⊗ var 1 ⊗ (var 0 ⊗ var 1))) ⊕ var 1 ⊗ var 1 ⊗
    (num (pos 10) ⊗ (var 0 ⊗ var 0) ⊖ num (pos 816))) refl

pub exact_length : (K M : ℤ) → pos 64 *ℤ M ≡ pos 61 *ℤ (K *ℤ K) +ℤ (pos 64 *ℤ M -ℤ pos 61 *ℤ (K *ℤ K))
exact_length K M =
    alike (K ∷ M ∷ []) (num (pos 64) ⊗ var 1) (num (pos 61) ⊗ (var 0 ⊗ var 0) ⊕ (num (pos 64) ⊗ var 1 ⊖ num (pos 61) ⊗ (var 0 ⊗ var 0)))
    refl

pub exact_enough : (K M : ℤ) → pos 16 *ℤ (pos 4 *ℤ M -ℤ pos 3 *ℤ (K *ℤ K)) ≡ pos 64 *ℤ M -ℤ pos 61 *ℤ (K *ℤ K) +ℤ pos 13 *ℤ (K *ℤ K)
exact_enough K M =
    alike (K ∷ M ∷ []) (num (pos 16) ⊗ (num (pos 4) ⊗ var 1 ⊖ num (pos 3) ⊗ (var 0 ⊗ var 0)))
    (num (pos 64) ⊗ var 1 ⊖ num (pos 61) ⊗ (var 0 ⊗ var 0) ⊕ num (pos 13) ⊗ (var 0 ⊗ var 0)) refl

pub grid_length : (K M : ℤ) → pos 4 *ℤ M ≡ pos 3 *ℤ (K *ℤ K) +ℤ (pos 4 *ℤ M -ℤ pos 3 *ℤ (K *ℤ K))
grid_length K M =
    alike (K ∷ M ∷ []) (num (pos 4) ⊗ var 1) (num (pos 3) ⊗ (var 0 ⊗ var 0) ⊕ (num (pos 4) ⊗ var 1 ⊖ num (pos 3) ⊗ (var 0 ⊗ var 0))) refl

-- a number that is read on the grid
pub times_turned : (W d : ℤ) → W *ℤ d ≡ d *ℤ W
times_turned W d = alike (W ∷ d ∷ []) (var 0 ⊗ var 1) (var 1 ⊗ var 0) refl

pub read_scaled : (W y g d : ℤ) → W *ℤ (pos 2 *ℤ (y -ℤ g *ℤ d)) ≡ pos 2 *ℤ (y *ℤ W -ℤ g *ℤ d *ℤ W)
read_scaled W y g d =
    alike (W ∷ y ∷ g ∷ d ∷ []) (var 0 ⊗ (num (pos 2) ⊗ (var 1 ⊖ var 2 ⊗ var 3)))
    (num (pos 2) ⊗ (var 1 ⊗ var 0 ⊖ var 2 ⊗ var 3 ⊗ var 0)) refl

pub read_back : (W z g d : ℤ) → pos 2 *ℤ (z *ℤ d -ℤ g *ℤ d *ℤ W) ≡ d *ℤ (pos 2 *ℤ (z -ℤ W *ℤ g))
read_back W z g d =
    alike (W ∷ z ∷ g ∷ d ∷ []) (num (pos 2) ⊗ (var 1 ⊗ var 3 ⊖ var 2 ⊗ var 3 ⊗ var 0))
    (var 3 ⊗ (num (pos 2) ⊗ (var 1 ⊖ var 0 ⊗ var 2))) refl

pub read_turned : (z y : ℤ) → neg_ℤ (pos 2 *ℤ (z -ℤ y)) ≡ pos 2 *ℤ (y -ℤ z)
read_turned z y = alike (z ∷ y ∷ []) (opp (num (pos 2) ⊗ (var 0 ⊖ var 1))) (num (pos 2) ⊗ (var 1 ⊖ var 0)) refl

-- the ends, with the margin
pub near_moved : (W N n : ℤ) → W +ℤ pos 2 *ℤ (N -ℤ W *ℤ n) ≡ pos 2 *ℤ (N +ℤ pos 4 *ℤ W -ℤ W *ℤ n) -ℤ pos 7 *ℤ W
near_moved W N n =
    alike (W ∷ N ∷ n ∷ []) (var 0 ⊕ num (pos 2) ⊗ (var 1 ⊖ var 0 ⊗ var 2))
    (num (pos 2) ⊗ (var 1 ⊕ num (pos 4) ⊗ var 0 ⊖ var 0 ⊗ var 2) ⊖ num (pos 7) ⊗ var 0) refl

pub far_moved : (W F f : ℤ) → W -ℤ pos 2 *ℤ (F -ℤ W *ℤ f) ≡ pos 2 *ℤ (W *ℤ f -ℤ (F -ℤ pos 4 *ℤ W)) -ℤ pos 7 *ℤ W
far_moved W F f =
    alike (W ∷ F ∷ f ∷ []) (var 0 ⊖ num (pos 2) ⊗ (var 1 ⊖ var 0 ⊗ var 2))
    (num (pos 2) ⊗ (var 0 ⊗ var 2 ⊖ (var 1 ⊖ num (pos 4) ⊗ var 0)) ⊖ num (pos 7) ⊗ var 0) refl

pub near_back : (W N n : ℤ) → W -ℤ pos 2 *ℤ (N -ℤ W *ℤ n) ≡ pos 2 *ℤ (W *ℤ n -ℤ (N -ℤ pos 4 *ℤ W)) -ℤ pos 7 *ℤ W
near_back W N n =
    alike (W ∷ N ∷ n ∷ []) (var 0 ⊖ num (pos 2) ⊗ (var 1 ⊖ var 0 ⊗ var 2))
    (num (pos 2) ⊗ (var 0 ⊗ var 2 ⊖ (var 1 ⊖ num (pos 4) ⊗ var 0)) ⊖ num (pos 7) ⊗ var 0) refl

pub far_back : (W F f : ℤ) → W +ℤ pos 2 *ℤ (F -ℤ W *ℤ f) ≡ pos 2 *ℤ (F +ℤ pos 4 *ℤ W -ℤ W *ℤ f) -ℤ pos 7 *ℤ W
far_back W F f =
    alike (W ∷ F ∷ f ∷ []) (var 0 ⊕ num (pos 2) ⊗ (var 1 ⊖ var 0 ⊗ var 2))
    (num (pos 2) ⊗ (var 1 ⊕ num (pos 4) ⊗ var 0 ⊖ var 0 ⊗ var 2) ⊖ num (pos 7) ⊗ var 0) refl

pub far_less : (W K F : ℤ) → K -ℤ F +ℤ pos 4 *ℤ W ≡ K -ℤ (F -ℤ pos 4 *ℤ W)
far_less W K F = alike (W ∷ K ∷ F ∷ []) (var 1 ⊖ var 2 ⊕ num (pos 4) ⊗ var 0) (var 1 ⊖ (var 2 ⊖ num (pos 4) ⊗ var 0)) refl

-- the drill on the grid, W times finer
pub finer_least : (P W D n y1 y2 y3 d1 d2 d3 : ℤ) → P *ℤ W *ℤ (W *ℤ y1 *ℤ (W *ℤ d1) +ℤ W *ℤ y2 *ℤ (W *ℤ d2) +ℤ W *ℤ y3 *ℤ (W *ℤ d3)) -ℤ W
    *ℤ n *ℤ (W *ℤ d1 *ℤ (W *ℤ d1) +ℤ W *ℤ d2 *ℤ (W *ℤ d2) +ℤ W *ℤ d3 *ℤ (W *ℤ d3)) *ℤ D ≡ W *ℤ W *ℤ W *ℤ
    (P *ℤ (y1 *ℤ d1 +ℤ y2 *ℤ d2 +ℤ y3 *ℤ d3) -ℤ n *ℤ (d1 *ℤ d1 +ℤ d2 *ℤ d2 +ℤ d3 *ℤ d3) *ℤ D)
finer_least P W D n y1 y2 y3 d1 d2 d3 =
    alike (P ∷ W ∷ D ∷ n ∷ y1 ∷ y2 ∷ y3 ∷ d1 ∷ d2 ∷ d3 ∷ []) (var 0 ⊗ var 1 ⊗
    (var 1 ⊗ var 4 ⊗ (var 1 ⊗ var 7) ⊕ var 1 ⊗ var 5 ⊗ (var 1 ⊗ var 8) ⊕ var 1 ⊗ var 6 ⊗ (var 1 ⊗ var 9)) ⊖ var 1 ⊗ var 3 ⊗
    (var 1 ⊗ var 7 ⊗ (var 1 ⊗ var 7) ⊕ var 1 ⊗ var 8 ⊗ (var 1 ⊗ var 8) ⊕ var 1 ⊗ var 9 ⊗ (var 1 ⊗ var 9)) ⊗ var 2)
    (var 1 ⊗ var 1 ⊗ var 1 ⊗ (var 0 ⊗ (var 4 ⊗ var 7 ⊕ var 5 ⊗ var 8 ⊕ var 6 ⊗ var 9) ⊖ var 3 ⊗
    (var 7 ⊗ var 7 ⊕ var 8 ⊗ var 8 ⊕ var 9 ⊗ var 9) ⊗ var 2)) refl

pub finer_most : (P W D f y1 y2 y3 d1 d2 d3 : ℤ) → W *ℤ f *ℤ (W *ℤ d1 *ℤ (W *ℤ d1) +ℤ W *ℤ d2 *ℤ (W *ℤ d2) +ℤ W *ℤ d3 *ℤ (W *ℤ d3)) *ℤ D
    -ℤ P *ℤ W *ℤ (W *ℤ y1 *ℤ (W *ℤ d1) +ℤ W *ℤ y2 *ℤ (W *ℤ d2) +ℤ W *ℤ y3 *ℤ (W *ℤ d3)) ≡ W *ℤ W *ℤ W *ℤ
    (f *ℤ (d1 *ℤ d1 +ℤ d2 *ℤ d2 +ℤ d3 *ℤ d3) *ℤ D -ℤ P *ℤ (y1 *ℤ d1 +ℤ y2 *ℤ d2 +ℤ y3 *ℤ d3))
finer_most P W D f y1 y2 y3 d1 d2 d3 =
    alike (P ∷ W ∷ D ∷ f ∷ y1 ∷ y2 ∷ y3 ∷ d1 ∷ d2 ∷ d3 ∷ []) (var 1 ⊗ var 3 ⊗
    (var 1 ⊗ var 7 ⊗ (var 1 ⊗ var 7) ⊕ var 1 ⊗ var 8 ⊗ (var 1 ⊗ var 8) ⊕ var 1 ⊗ var 9 ⊗ (var 1 ⊗ var 9)) ⊗ var 2 ⊖ var 0 ⊗ var 1 ⊗
    (var 1 ⊗ var 4 ⊗ (var 1 ⊗ var 7) ⊕ var 1 ⊗ var 5 ⊗ (var 1 ⊗ var 8) ⊕ var 1 ⊗ var 6 ⊗ (var 1 ⊗ var 9)))
    (var 1 ⊗ var 1 ⊗ var 1 ⊗ (var 3 ⊗ (var 7 ⊗ var 7 ⊕ var 8 ⊗ var 8 ⊕ var 9 ⊗ var 9) ⊗ var 2 ⊖ var 0 ⊗
    (var 4 ⊗ var 7 ⊕ var 5 ⊗ var 8 ⊕ var 6 ⊗ var 9))) refl

pub finer_close : (W D r y1 y2 y3 d1 d2 d3 : ℤ) → r *ℤ W *ℤ (r *ℤ W) *ℤ
    (W *ℤ d1 *ℤ (W *ℤ d1) +ℤ W *ℤ d2 *ℤ (W *ℤ d2) +ℤ W *ℤ d3 *ℤ (W *ℤ d3)) *ℤ (D *ℤ D) -ℤ
    ((W *ℤ y1 *ℤ (W *ℤ y1) +ℤ W *ℤ y2 *ℤ (W *ℤ y2) +ℤ W *ℤ y3 *ℤ (W *ℤ y3)) *ℤ
    (W *ℤ d1 *ℤ (W *ℤ d1) +ℤ W *ℤ d2 *ℤ (W *ℤ d2) +ℤ W *ℤ d3 *ℤ (W *ℤ d3)) -ℤ
    (W *ℤ y1 *ℤ (W *ℤ d1) +ℤ W *ℤ y2 *ℤ (W *ℤ d2) +ℤ W *ℤ y3 *ℤ (W *ℤ d3)) *ℤ
    (W *ℤ y1 *ℤ (W *ℤ d1) +ℤ W *ℤ y2 *ℤ (W *ℤ d2) +ℤ W *ℤ y3 *ℤ (W *ℤ d3))) ≡ W *ℤ W *ℤ (W *ℤ W) *ℤ
    (r *ℤ r *ℤ (d1 *ℤ d1 +ℤ d2 *ℤ d2 +ℤ d3 *ℤ d3) *ℤ (D *ℤ D) -ℤ ((y1 *ℤ y1 +ℤ y2 *ℤ y2 +ℤ y3 *ℤ y3) *ℤ (d1 *ℤ d1 +ℤ d2 *ℤ d2 +ℤ d3 *ℤ d3)
    -ℤ (y1 *ℤ d1 +ℤ y2 *ℤ d2 +ℤ y3 *ℤ d3) *ℤ (y1 *ℤ d1 +ℤ y2 *ℤ d2 +ℤ y3 *ℤ d3)))
finer_close W D r y1 y2 y3 d1 d2 d3 =
    alike (W ∷ D ∷ r ∷ y1 ∷ y2 ∷ y3 ∷ d1 ∷ d2 ∷ d3 ∷ []) (var 2 ⊗ var 0 ⊗ (var 2 ⊗ var 0) ⊗
    (var 0 ⊗ var 6 ⊗ (var 0 ⊗ var 6) ⊕ var 0 ⊗ var 7 ⊗ (var 0 ⊗ var 7) ⊕ var 0 ⊗ var 8 ⊗ (var 0 ⊗ var 8)) ⊗ (var 1 ⊗ var 1) ⊖
    ((var 0 ⊗ var 3 ⊗ (var 0 ⊗ var 3) ⊕ var 0 ⊗ var 4 ⊗ (var 0 ⊗ var 4) ⊕ var 0 ⊗ var 5 ⊗ (var 0 ⊗ var 5)) ⊗
    (var 0 ⊗ var 6 ⊗ (var 0 ⊗ var 6) ⊕ var 0 ⊗ var 7 ⊗ (var 0 ⊗ var 7) ⊕ var 0 ⊗ var 8 ⊗ (var 0 ⊗ var 8)) ⊖
    (var 0 ⊗ var 3 ⊗ (var 0 ⊗ var 6) ⊕ var 0 ⊗ var 4 ⊗ (var 0 ⊗ var 7) ⊕ var 0 ⊗ var 5 ⊗ (var 0 ⊗ var 8)) ⊗
    (var 0 ⊗ var 3 ⊗ (var 0 ⊗ var 6) ⊕ var 0 ⊗ var 4 ⊗ (var 0 ⊗ var 7) ⊕ var 0 ⊗ var 5 ⊗ (var 0 ⊗ var 8))))
    (var 0 ⊗ var 0 ⊗ (var 0 ⊗ var 0) ⊗ (var 2 ⊗ var 2 ⊗ (var 6 ⊗ var 6 ⊕ var 7 ⊗ var 7 ⊕ var 8 ⊗ var 8) ⊗ (var 1 ⊗ var 1) ⊖
    ((var 3 ⊗ var 3 ⊕ var 4 ⊗ var 4 ⊕ var 5 ⊗ var 5) ⊗ (var 6 ⊗ var 6 ⊕ var 7 ⊗ var 7 ⊕ var 8 ⊗ var 8) ⊖
    (var 3 ⊗ var 6 ⊕ var 4 ⊗ var 7 ⊕ var 5 ⊗ var 8) ⊗ (var 3 ⊗ var 6 ⊕ var 4 ⊗ var 7 ⊕ var 5 ⊗ var 8)))) refl

-- the foot as a point of the axis
pub foot_along : (P T t D x1 x2 x3 v1 v2 v3 : ℤ) → (T *ℤ P *ℤ x1 -ℤ t *ℤ D *ℤ v1) *ℤ v1 +ℤ (T *ℤ P *ℤ x2 -ℤ t *ℤ D *ℤ v2) *ℤ v2 +ℤ
    (T *ℤ P *ℤ x3 -ℤ t *ℤ D *ℤ v3) *ℤ v3 ≡ T *ℤ P *ℤ (x1 *ℤ v1 +ℤ x2 *ℤ v2 +ℤ x3 *ℤ v3) -ℤ t *ℤ D *ℤ (v1 *ℤ v1 +ℤ v2 *ℤ v2 +ℤ v3 *ℤ v3)
foot_along P T t D x1 x2 x3 v1 v2 v3 =
    alike (P ∷ T ∷ t ∷ D ∷ x1 ∷ x2 ∷ x3 ∷ v1 ∷ v2 ∷ v3 ∷ []) ((var 1 ⊗ var 0 ⊗ var 4 ⊖ var 2 ⊗ var 3 ⊗ var 7) ⊗ var 7 ⊕
    (var 1 ⊗ var 0 ⊗ var 5 ⊖ var 2 ⊗ var 3 ⊗ var 8) ⊗ var 8 ⊕ (var 1 ⊗ var 0 ⊗ var 6 ⊖ var 2 ⊗ var 3 ⊗ var 9) ⊗ var 9)
    (var 1 ⊗ var 0 ⊗ (var 4 ⊗ var 7 ⊕ var 5 ⊗ var 8 ⊕ var 6 ⊗ var 9) ⊖ var 2 ⊗ var 3 ⊗ (var 7 ⊗ var 7 ⊕ var 8 ⊗ var 8 ⊕ var 9 ⊗ var 9)) refl

pub foot_least : (P W T t D M h lo : ℤ) → T *ℤ (P *ℤ W *ℤ h -ℤ lo *ℤ M *ℤ D) ≡ W *ℤ (T *ℤ P *ℤ h -ℤ t *ℤ D *ℤ M) +ℤ (t *ℤ W -ℤ lo *ℤ T) *ℤ
    (M *ℤ D)
foot_least P W T t D M h lo =
    alike (P ∷ W ∷ T ∷ t ∷ D ∷ M ∷ h ∷ lo ∷ []) (var 2 ⊗ (var 0 ⊗ var 1 ⊗ var 6 ⊖ var 7 ⊗ var 5 ⊗ var 4))
    (var 1 ⊗ (var 2 ⊗ var 0 ⊗ var 6 ⊖ var 3 ⊗ var 4 ⊗ var 5) ⊕ (var 3 ⊗ var 1 ⊖ var 7 ⊗ var 2) ⊗ (var 5 ⊗ var 4)) refl

pub foot_most : (P W T t D M h hi : ℤ) → T *ℤ (hi *ℤ M *ℤ D -ℤ P *ℤ W *ℤ h) ≡ neg_ℤ (W *ℤ (T *ℤ P *ℤ h -ℤ t *ℤ D *ℤ M)) +ℤ
    (hi *ℤ T -ℤ t *ℤ W) *ℤ (M *ℤ D)
foot_most P W T t D M h hi =
    alike (P ∷ W ∷ T ∷ t ∷ D ∷ M ∷ h ∷ hi ∷ []) (var 2 ⊗ (var 7 ⊗ var 5 ⊗ var 4 ⊖ var 0 ⊗ var 1 ⊗ var 6))
    (opp (var 1 ⊗ (var 2 ⊗ var 0 ⊗ var 6 ⊖ var 3 ⊗ var 4 ⊗ var 5)) ⊕ (var 7 ⊗ var 2 ⊖ var 3 ⊗ var 1) ⊗ (var 5 ⊗ var 4)) refl

pub foot_length : (P T t D x1 x2 x3 v1 v2 v3 : ℤ) → (T *ℤ P *ℤ x1 -ℤ t *ℤ D *ℤ v1) *ℤ (T *ℤ P *ℤ x1 -ℤ t *ℤ D *ℤ v1) +ℤ
    (T *ℤ P *ℤ x2 -ℤ t *ℤ D *ℤ v2) *ℤ (T *ℤ P *ℤ x2 -ℤ t *ℤ D *ℤ v2) +ℤ (T *ℤ P *ℤ x3 -ℤ t *ℤ D *ℤ v3) *ℤ (T *ℤ P *ℤ x3 -ℤ t *ℤ D *ℤ v3) ≡ T
    *ℤ P *ℤ (T *ℤ P) *ℤ (x1 *ℤ x1 +ℤ x2 *ℤ x2 +ℤ x3 *ℤ x3) -ℤ pos 2 *ℤ (T *ℤ P) *ℤ (t *ℤ D) *ℤ (x1 *ℤ v1 +ℤ x2 *ℤ v2 +ℤ x3 *ℤ v3) +ℤ t *ℤ D
    *ℤ (t *ℤ D) *ℤ (v1 *ℤ v1 +ℤ v2 *ℤ v2 +ℤ v3 *ℤ v3)
foot_length P T t D x1 x2 x3 v1 v2 v3 =
    alike (P ∷ T ∷ t ∷ D ∷ x1 ∷ x2 ∷ x3 ∷ v1 ∷ v2 ∷ v3 ∷ []) ((var 1 ⊗ var 0 ⊗ var 4 ⊖ var 2 ⊗ var 3 ⊗ var 7) ⊗
    (var 1 ⊗ var 0 ⊗ var 4 ⊖ var 2 ⊗ var 3 ⊗ var 7) ⊕ (var 1 ⊗ var 0 ⊗ var 5 ⊖ var 2 ⊗ var 3 ⊗ var 8) ⊗
    (var 1 ⊗ var 0 ⊗ var 5 ⊖ var 2 ⊗ var 3 ⊗ var 8) ⊕ (var 1 ⊗ var 0 ⊗ var 6 ⊖ var 2 ⊗ var 3 ⊗ var 9) ⊗
    (var 1 ⊗ var 0 ⊗ var 6 ⊖ var 2 ⊗ var 3 ⊗ var 9)) (var 1 ⊗ var 0 ⊗ (var 1 ⊗ var 0) ⊗ (var 4 ⊗ var 4 ⊕ var 5 ⊗ var 5 ⊕ var 6 ⊗ var 6)
    ⊖ num (pos 2) ⊗ (var 1 ⊗ var 0) ⊗ (var 2 ⊗ var 3) ⊗ (var 4 ⊗ var 7 ⊕ var 5 ⊗ var 8 ⊕ var 6 ⊗ var 9) ⊕ var 2 ⊗ var 3 ⊗ (var 2 ⊗ var 3) ⊗
    (var 7 ⊗ var 7 ⊕ var 8 ⊗ var 8 ⊕ var 9 ⊗ var 9)) refl

pub foot_close : (P T t D M S h R : ℤ) → T *ℤ P *ℤ (T *ℤ P) *ℤ (R *ℤ R *ℤ M *ℤ (D *ℤ D) -ℤ (S *ℤ M -ℤ h *ℤ h)) ≡ M *ℤ
    (R *ℤ D *ℤ T *ℤ P *ℤ (R *ℤ D *ℤ T *ℤ P) -ℤ (T *ℤ P *ℤ (T *ℤ P) *ℤ S -ℤ pos 2 *ℤ (T *ℤ P) *ℤ (t *ℤ D) *ℤ h +ℤ t *ℤ D *ℤ (t *ℤ D) *ℤ M))
    +ℤ (T *ℤ P *ℤ h -ℤ t *ℤ D *ℤ M) *ℤ (T *ℤ P *ℤ h -ℤ t *ℤ D *ℤ M)
foot_close P T t D M S h R =
    alike (P ∷ T ∷ t ∷ D ∷ M ∷ S ∷ h ∷ R ∷ []) (var 1 ⊗ var 0 ⊗ (var 1 ⊗ var 0) ⊗
    (var 7 ⊗ var 7 ⊗ var 4 ⊗ (var 3 ⊗ var 3) ⊖ (var 5 ⊗ var 4 ⊖ var 6 ⊗ var 6)))
    (var 4 ⊗ (var 7 ⊗ var 3 ⊗ var 1 ⊗ var 0 ⊗ (var 7 ⊗ var 3 ⊗ var 1 ⊗ var 0) ⊖
    (var 1 ⊗ var 0 ⊗ (var 1 ⊗ var 0) ⊗ var 5 ⊖ num (pos 2) ⊗ (var 1 ⊗ var 0) ⊗ (var 2 ⊗ var 3) ⊗ var 6 ⊕ var 2 ⊗ var 3 ⊗ (var 2 ⊗ var 3)
    ⊗ var 4)) ⊕ (var 1 ⊗ var 0 ⊗ var 6 ⊖ var 2 ⊗ var 3 ⊗ var 4) ⊗ (var 1 ⊗ var 0 ⊗ var 6 ⊖ var 2 ⊗ var 3 ⊗ var 4)) refl

pub nothing_before : (W Q : ℤ) → W *ℤ pos 0 +ℤ Q ≡ Q
nothing_before W Q = alike (W ∷ Q ∷ []) (var 0 ⊗ num (pos 0) ⊕ var 1) (var 1) refl

pub nothing_negated : (W Q : ℤ) → neg_ℤ (W *ℤ pos 0) +ℤ Q ≡ Q
nothing_negated W Q = alike (W ∷ Q ∷ []) (opp (var 0 ⊗ num (pos 0)) ⊕ var 1) (var 1) refl

pub own_foot : (P D M h : ℤ) → D *ℤ M *ℤ P *ℤ h -ℤ P *ℤ h *ℤ D *ℤ M ≡ pos 0
own_foot P D M h = alike (P ∷ D ∷ M ∷ h ∷ []) (var 1 ⊗ var 2 ⊗ var 0 ⊗ var 3 ⊖ var 0 ⊗ var 3 ⊗ var 1 ⊗ var 2) (num (pos 0)) refl

pub own_least : (P W D M h lo : ℤ) → P *ℤ W *ℤ h -ℤ lo *ℤ M *ℤ D ≡ P *ℤ h *ℤ W -ℤ lo *ℤ (D *ℤ M)
own_least P W D M h lo =
    alike (P ∷ W ∷ D ∷ M ∷ h ∷ lo ∷ []) (var 0 ⊗ var 1 ⊗ var 4 ⊖ var 5 ⊗ var 3 ⊗ var 2)
    (var 0 ⊗ var 4 ⊗ var 1 ⊖ var 5 ⊗ (var 2 ⊗ var 3)) refl

pub own_most : (P W D M h hi : ℤ) → hi *ℤ M *ℤ D -ℤ P *ℤ W *ℤ h ≡ hi *ℤ (D *ℤ M) -ℤ P *ℤ h *ℤ W
own_most P W D M h hi =
    alike (P ∷ W ∷ D ∷ M ∷ h ∷ hi ∷ []) (var 5 ⊗ var 3 ⊗ var 2 ⊖ var 0 ⊗ var 1 ⊗ var 4)
    (var 5 ⊗ (var 2 ⊗ var 3) ⊖ var 0 ⊗ var 4 ⊗ var 1) refl

pub own_close : (P D M S h R : ℤ) → P *ℤ D *ℤ (P *ℤ D) *ℤ M *ℤ (R *ℤ R *ℤ M *ℤ (D *ℤ D) -ℤ (S *ℤ M -ℤ h *ℤ h)) ≡ R *ℤ D *ℤ (D *ℤ M) *ℤ P *ℤ
    (R *ℤ D *ℤ (D *ℤ M) *ℤ P) -ℤ (D *ℤ M *ℤ P *ℤ (D *ℤ M *ℤ P) *ℤ S -ℤ pos 2 *ℤ (D *ℤ M *ℤ P) *ℤ (P *ℤ h *ℤ D) *ℤ h +ℤ P *ℤ h *ℤ D *ℤ
    (P *ℤ h *ℤ D) *ℤ M)
own_close P D M S h R =
    alike (P ∷ D ∷ M ∷ S ∷ h ∷ R ∷ []) (var 0 ⊗ var 1 ⊗ (var 0 ⊗ var 1) ⊗ var 2 ⊗
    (var 5 ⊗ var 5 ⊗ var 2 ⊗ (var 1 ⊗ var 1) ⊖ (var 3 ⊗ var 2 ⊖ var 4 ⊗ var 4)))
    (var 5 ⊗ var 1 ⊗ (var 1 ⊗ var 2) ⊗ var 0 ⊗ (var 5 ⊗ var 1 ⊗ (var 1 ⊗ var 2) ⊗ var 0) ⊖
    (var 1 ⊗ var 2 ⊗ var 0 ⊗ (var 1 ⊗ var 2 ⊗ var 0) ⊗ var 3 ⊖ num (pos 2) ⊗ (var 1 ⊗ var 2 ⊗ var 0) ⊗ (var 0 ⊗ var 4 ⊗ var 1) ⊗ var 4
    ⊕ var 0 ⊗ var 4 ⊗ var 1 ⊗ (var 0 ⊗ var 4 ⊗ var 1) ⊗ var 2)) refl

-- three corners that are one point
pub same_corners : (i j k r x1 x2 x3 d1 d2 d3 : ℤ) → r *ℤ (d1 *ℤ d1 +ℤ d2 *ℤ d2 +ℤ d3 *ℤ d3) *ℤ ((i +ℤ j +ℤ k) *ℤ (i +ℤ j +ℤ k)) -ℤ
    (((i *ℤ x1 +ℤ j *ℤ x1 +ℤ k *ℤ x1) *ℤ (i *ℤ x1 +ℤ j *ℤ x1 +ℤ k *ℤ x1) +ℤ (i *ℤ x2 +ℤ j *ℤ x2 +ℤ k *ℤ x2) *ℤ
    (i *ℤ x2 +ℤ j *ℤ x2 +ℤ k *ℤ x2) +ℤ (i *ℤ x3 +ℤ j *ℤ x3 +ℤ k *ℤ x3) *ℤ (i *ℤ x3 +ℤ j *ℤ x3 +ℤ k *ℤ x3)) *ℤ
    (d1 *ℤ d1 +ℤ d2 *ℤ d2 +ℤ d3 *ℤ d3) -ℤ ((i *ℤ x1 +ℤ j *ℤ x1 +ℤ k *ℤ x1) *ℤ d1 +ℤ (i *ℤ x2 +ℤ j *ℤ x2 +ℤ k *ℤ x2) *ℤ d2 +ℤ
    (i *ℤ x3 +ℤ j *ℤ x3 +ℤ k *ℤ x3) *ℤ d3) *ℤ ((i *ℤ x1 +ℤ j *ℤ x1 +ℤ k *ℤ x1) *ℤ d1 +ℤ (i *ℤ x2 +ℤ j *ℤ x2 +ℤ k *ℤ x2) *ℤ d2 +ℤ
    (i *ℤ x3 +ℤ j *ℤ x3 +ℤ k *ℤ x3) *ℤ d3)) ≡ (i +ℤ j +ℤ k) *ℤ (i +ℤ j +ℤ k) *ℤ
    (r *ℤ (d1 *ℤ d1 +ℤ d2 *ℤ d2 +ℤ d3 *ℤ d3) -ℤ ((x1 *ℤ x1 +ℤ x2 *ℤ x2 +ℤ x3 *ℤ x3) *ℤ (d1 *ℤ d1 +ℤ d2 *ℤ d2 +ℤ d3 *ℤ d3) -ℤ
    (x1 *ℤ d1 +ℤ x2 *ℤ d2 +ℤ x3 *ℤ d3) *ℤ (x1 *ℤ d1 +ℤ x2 *ℤ d2 +ℤ x3 *ℤ d3)))
same_corners i j k r x1 x2 x3 d1 d2 d3 =
    alike (i ∷ j ∷ k ∷ r ∷ x1 ∷ x2 ∷ x3 ∷ d1 ∷ d2 ∷ d3 ∷ []) (var 3 ⊗ (var 7 ⊗ var 7 ⊕ var 8 ⊗ var 8 ⊕ var 9 ⊗ var 9) ⊗
    ((var 0 ⊕ var 1 ⊕ var 2) ⊗ (var 0 ⊕ var 1 ⊕ var 2)) ⊖ (((var 0 ⊗ var 4 ⊕ var 1 ⊗ var 4 ⊕ var 2 ⊗ var 4) ⊗
    (var 0 ⊗ var 4 ⊕ var 1 ⊗ var 4 ⊕ var 2 ⊗ var 4) ⊕ (var 0 ⊗ var 5 ⊕ var 1 ⊗ var 5 ⊕ var 2 ⊗ var 5) ⊗
    (var 0 ⊗ var 5 ⊕ var 1 ⊗ var 5 ⊕ var 2 ⊗ var 5) ⊕ (var 0 ⊗ var 6 ⊕ var 1 ⊗ var 6 ⊕ var 2 ⊗ var 6) ⊗
    (var 0 ⊗ var 6 ⊕ var 1 ⊗ var 6 ⊕ var 2 ⊗ var 6)) ⊗ (var 7 ⊗ var 7 ⊕ var 8 ⊗ var 8 ⊕ var 9 ⊗ var 9) ⊖
    ((var 0 ⊗ var 4 ⊕ var 1 ⊗ var 4 ⊕ var 2 ⊗ var 4) ⊗ var 7 ⊕ (var 0 ⊗ var 5 ⊕ var 1 ⊗ var 5 ⊕ var 2 ⊗ var 5) ⊗ var 8 ⊕
    (var 0 ⊗ var 6 ⊕ var 1 ⊗ var 6 ⊕ var 2 ⊗ var 6) ⊗ var 9) ⊗ ((var 0 ⊗ var 4 ⊕ var 1 ⊗ var 4 ⊕ var 2 ⊗ var 4) ⊗ var 7 ⊕
    (var 0 ⊗ var 5 ⊕ var 1 ⊗ var 5 ⊕ var 2 ⊗ var 5) ⊗ var 8 ⊕ (var 0 ⊗ var 6 ⊕ var 1 ⊗ var 6 ⊕ var 2 ⊗ var 6) ⊗ var 9)))
    ((var 0 ⊕ var 1 ⊕ var 2) ⊗ (var 0 ⊕ var 1 ⊕ var 2) ⊗ (var 3 ⊗ (var 7 ⊗ var 7 ⊕ var 8 ⊗ var 8 ⊕ var 9 ⊗ var 9) ⊖
    ((var 4 ⊗ var 4 ⊕ var 5 ⊗ var 5 ⊕ var 6 ⊗ var 6) ⊗ (var 7 ⊗ var 7 ⊕ var 8 ⊗ var 8 ⊕ var 9 ⊗ var 9) ⊖
    (var 4 ⊗ var 7 ⊕ var 5 ⊗ var 8 ⊕ var 6 ⊗ var 9) ⊗ (var 4 ⊗ var 7 ⊕ var 5 ⊗ var 8 ⊕ var 6 ⊗ var 9)))) refl
