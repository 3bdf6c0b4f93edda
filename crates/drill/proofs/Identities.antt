-- Equations of whole numbers that the drill's laws rest on. Assumes nothing.
use mathlib.Core.Path.{◌≡◌, refl}
use mathlib.Core.List.{[], ◌∷◌}
use lib.IntN.{ℤ, pos, negsuc, neg_ℤ, ◌+ℤ◌, ◌-ℤ◌, ◌*ℤ◌}
use Rattle.wide_integers.proofs.Ring.{var, num, ◌⊕◌, ◌⊖◌, ◌⊗◌, opp, alike}

-- the disc is convex
pub between : (a b D E R x y z u v w : ℤ) → D *ℤ E *ℤ (R *ℤ ((a *ℤ D +ℤ b *ℤ E) *ℤ (a *ℤ D +ℤ b *ℤ E)) -ℤ
    ((a *ℤ x +ℤ b *ℤ u) *ℤ (a *ℤ x +ℤ b *ℤ u) +ℤ (a *ℤ y +ℤ b *ℤ v) *ℤ (a *ℤ y +ℤ b *ℤ v) +ℤ (a *ℤ z +ℤ b *ℤ w) *ℤ (a *ℤ z +ℤ b *ℤ w))) ≡
    (a *ℤ D +ℤ b *ℤ E) *ℤ (a *ℤ E *ℤ (R *ℤ (D *ℤ D) -ℤ (x *ℤ x +ℤ y *ℤ y +ℤ z *ℤ z)) +ℤ b *ℤ D *ℤ
    (R *ℤ (E *ℤ E) -ℤ (u *ℤ u +ℤ v *ℤ v +ℤ w *ℤ w))) +ℤ a *ℤ b *ℤ
    ((E *ℤ x -ℤ D *ℤ u) *ℤ (E *ℤ x -ℤ D *ℤ u) +ℤ (E *ℤ y -ℤ D *ℤ v) *ℤ (E *ℤ y -ℤ D *ℤ v) +ℤ (E *ℤ z -ℤ D *ℤ w) *ℤ (E *ℤ z -ℤ D *ℤ w))
between a b D E R x y z u v w =
    alike (a ∷ b ∷ D ∷ E ∷ R ∷ x ∷ y ∷ z ∷ u ∷ v ∷ w ∷ []) (var 2 ⊗ var 3 ⊗
    (var 4 ⊗ ((var 0 ⊗ var 2 ⊕ var 1 ⊗ var 3) ⊗ (var 0 ⊗ var 2 ⊕ var 1 ⊗ var 3)) ⊖
    ((var 0 ⊗ var 5 ⊕ var 1 ⊗ var 8) ⊗ (var 0 ⊗ var 5 ⊕ var 1 ⊗ var 8) ⊕ (var 0 ⊗ var 6 ⊕ var 1 ⊗ var 9) ⊗ (var 0 ⊗ var 6 ⊕ var 1 ⊗ var 9) ⊕
    (var 0 ⊗ var 7 ⊕ var 1 ⊗ var 10) ⊗ (var 0 ⊗ var 7 ⊕ var 1 ⊗ var 10))))
    ((var 0 ⊗ var 2 ⊕ var 1 ⊗ var 3) ⊗ (var 0 ⊗ var 3 ⊗ (var 4 ⊗ (var 2 ⊗ var 2) ⊖ (var 5 ⊗ var 5 ⊕ var 6 ⊗ var 6 ⊕ var 7 ⊗ var 7)) ⊕ var 1
    ⊗ var 2 ⊗ (var 4 ⊗ (var 3 ⊗ var 3) ⊖ (var 8 ⊗ var 8 ⊕ var 9 ⊗ var 9 ⊕ var 10 ⊗ var 10))) ⊕ var 0 ⊗ var 1 ⊗
    ((var 3 ⊗ var 5 ⊖ var 2 ⊗ var 8) ⊗ (var 3 ⊗ var 5 ⊖ var 2 ⊗ var 8) ⊕ (var 3 ⊗ var 6 ⊖ var 2 ⊗ var 9) ⊗ (var 3 ⊗ var 6 ⊖ var 2 ⊗ var 9) ⊕
    (var 3 ⊗ var 7 ⊖ var 2 ⊗ var 10) ⊗ (var 3 ⊗ var 7 ⊖ var 2 ⊗ var 10))) refl

-- a sum with weights on the way from one to another
pub linear : (m n i j k i' j' k' p q r : ℤ) → (m *ℤ i +ℤ n *ℤ i') *ℤ p +ℤ (m *ℤ j +ℤ n *ℤ j') *ℤ q +ℤ (m *ℤ k +ℤ n *ℤ k') *ℤ r ≡ m *ℤ
    (i *ℤ p +ℤ j *ℤ q +ℤ k *ℤ r) +ℤ n *ℤ (i' *ℤ p +ℤ j' *ℤ q +ℤ k' *ℤ r)
linear m n i j k i' j' k' p q r =
    alike (m ∷ n ∷ i ∷ j ∷ k ∷ i' ∷ j' ∷ k' ∷ p ∷ q ∷ r ∷ []) ((var 0 ⊗ var 2 ⊕ var 1 ⊗ var 5) ⊗ var 8 ⊕ (var 0 ⊗ var 3 ⊕ var 1 ⊗ var 6)
    ⊗ var 9 ⊕ (var 0 ⊗ var 4 ⊕ var 1 ⊗ var 7) ⊗ var 10) (var 0 ⊗ (var 2 ⊗ var 8 ⊕ var 3 ⊗ var 9 ⊕ var 4 ⊗ var 10) ⊕ var 1 ⊗
    (var 5 ⊗ var 8 ⊕ var 6 ⊗ var 9 ⊕ var 7 ⊗ var 10)) refl

pub linear_total : (m n i j k i' j' k' : ℤ) → m *ℤ i +ℤ n *ℤ i' +ℤ (m *ℤ j +ℤ n *ℤ j') +ℤ (m *ℤ k +ℤ n *ℤ k') ≡ m *ℤ (i +ℤ j +ℤ k) +ℤ n *ℤ
    (i' +ℤ j' +ℤ k')
linear_total m n i j k i' j' k' =
    alike (m ∷ n ∷ i ∷ j ∷ k ∷ i' ∷ j' ∷ k' ∷ []) (var 0 ⊗ var 2 ⊕ var 1 ⊗ var 5 ⊕ (var 0 ⊗ var 3 ⊕ var 1 ⊗ var 6) ⊕
    (var 0 ⊗ var 4 ⊕ var 1 ⊗ var 7)) (var 0 ⊗ (var 2 ⊕ var 3 ⊕ var 4) ⊕ var 1 ⊗ (var 5 ⊕ var 6 ⊕ var 7)) refl

pub straight : (m n R D x y z : ℤ) → R *ℤ ((m *ℤ D +ℤ n *ℤ pos 0) *ℤ (m *ℤ D +ℤ n *ℤ pos 0)) -ℤ
    ((m *ℤ x +ℤ n *ℤ pos 0) *ℤ (m *ℤ x +ℤ n *ℤ pos 0) +ℤ (m *ℤ y +ℤ n *ℤ pos 0) *ℤ (m *ℤ y +ℤ n *ℤ pos 0) +ℤ (m *ℤ z +ℤ n *ℤ pos 0) *ℤ
    (m *ℤ z +ℤ n *ℤ pos 0)) ≡ m *ℤ m *ℤ (R *ℤ (D *ℤ D) -ℤ (x *ℤ x +ℤ y *ℤ y +ℤ z *ℤ z))
straight m n R D x y z =
    alike (m ∷ n ∷ R ∷ D ∷ x ∷ y ∷ z ∷ []) (var 2 ⊗ ((var 0 ⊗ var 3 ⊕ var 1 ⊗ num (pos 0)) ⊗ (var 0 ⊗ var 3 ⊕ var 1 ⊗ num (pos 0))) ⊖
    ((var 0 ⊗ var 4 ⊕ var 1 ⊗ num (pos 0)) ⊗ (var 0 ⊗ var 4 ⊕ var 1 ⊗ num (pos 0)) ⊕ (var 0 ⊗ var 5 ⊕ var 1 ⊗ num (pos 0)) ⊗
    (var 0 ⊗ var 5 ⊕ var 1 ⊗ num (pos 0)) ⊕ (var 0 ⊗ var 6 ⊕ var 1 ⊗ num (pos 0)) ⊗ (var 0 ⊗ var 6 ⊕ var 1 ⊗ num (pos 0))))
    (var 0 ⊗ var 0 ⊗ (var 2 ⊗ (var 3 ⊗ var 3) ⊖ (var 4 ⊗ var 4 ⊕ var 5 ⊗ var 5 ⊕ var 6 ⊗ var 6))) refl

-- multiples
pub scaled_sum : (m i j k p q r : ℤ) → m *ℤ (i *ℤ p +ℤ j *ℤ q +ℤ k *ℤ r) ≡ m *ℤ i *ℤ p +ℤ m *ℤ j *ℤ q +ℤ m *ℤ k *ℤ r
scaled_sum m i j k p q r =
    alike (m ∷ i ∷ j ∷ k ∷ p ∷ q ∷ r ∷ []) (var 0 ⊗ (var 1 ⊗ var 4 ⊕ var 2 ⊗ var 5 ⊕ var 3 ⊗ var 6))
    (var 0 ⊗ var 1 ⊗ var 4 ⊕ var 0 ⊗ var 2 ⊗ var 5 ⊕ var 0 ⊗ var 3 ⊗ var 6) refl

pub scaled_total : (m i j k : ℤ) → m *ℤ (i +ℤ j +ℤ k) ≡ m *ℤ i +ℤ m *ℤ j +ℤ m *ℤ k
scaled_total m i j k = alike (m ∷ i ∷ j ∷ k ∷ []) (var 0 ⊗ (var 1 ⊕ var 2 ⊕ var 3)) (var 0 ⊗ var 1 ⊕ var 0 ⊗ var 2 ⊕ var 0 ⊗ var 3) refl

pub scaled_disc : (m R D x y z : ℤ) → m *ℤ m *ℤ (R *ℤ (D *ℤ D) -ℤ (x *ℤ x +ℤ y *ℤ y +ℤ z *ℤ z)) ≡ R *ℤ (m *ℤ D *ℤ (m *ℤ D)) -ℤ
    (m *ℤ x *ℤ (m *ℤ x) +ℤ m *ℤ y *ℤ (m *ℤ y) +ℤ m *ℤ z *ℤ (m *ℤ z))
scaled_disc m R D x y z =
    alike (m ∷ R ∷ D ∷ x ∷ y ∷ z ∷ []) (var 0 ⊗ var 0 ⊗ (var 1 ⊗ (var 2 ⊗ var 2) ⊖ (var 3 ⊗ var 3 ⊕ var 4 ⊗ var 4 ⊕ var 5 ⊗ var 5)))
    (var 1 ⊗ (var 0 ⊗ var 2 ⊗ (var 0 ⊗ var 2)) ⊖ (var 0 ⊗ var 3 ⊗ (var 0 ⊗ var 3) ⊕ var 0 ⊗ var 4 ⊗ (var 0 ⊗ var 4) ⊕ var 0 ⊗ var 5 ⊗
    (var 0 ⊗ var 5))) refl

pub turned : (i j k p q r : ℤ) → j *ℤ q +ℤ k *ℤ r +ℤ i *ℤ p ≡ i *ℤ p +ℤ j *ℤ q +ℤ k *ℤ r
turned i j k p q r =
    alike (i ∷ j ∷ k ∷ p ∷ q ∷ r ∷ []) (var 1 ⊗ var 4 ⊕ var 2 ⊗ var 5 ⊕ var 0 ⊗ var 3) (var 0 ⊗ var 3 ⊕ var 1 ⊗ var 4 ⊕ var 2 ⊗ var 5) refl

pub turned_total : (i j k : ℤ) → j +ℤ k +ℤ i ≡ i +ℤ j +ℤ k
turned_total i j k = alike (i ∷ j ∷ k ∷ []) (var 1 ⊕ var 2 ⊕ var 0) (var 0 ⊕ var 1 ⊕ var 2) refl

-- the foot on a line is not further off
pub foot : (R D x y z u v w : ℤ) → R *ℤ (((u *ℤ u +ℤ v *ℤ v +ℤ w *ℤ w) *ℤ D +ℤ neg_ℤ (x *ℤ u +ℤ y *ℤ v +ℤ z *ℤ w) *ℤ pos 0) *ℤ
    ((u *ℤ u +ℤ v *ℤ v +ℤ w *ℤ w) *ℤ D +ℤ neg_ℤ (x *ℤ u +ℤ y *ℤ v +ℤ z *ℤ w) *ℤ pos 0)) -ℤ
    (((u *ℤ u +ℤ v *ℤ v +ℤ w *ℤ w) *ℤ x +ℤ neg_ℤ (x *ℤ u +ℤ y *ℤ v +ℤ z *ℤ w) *ℤ u) *ℤ
    ((u *ℤ u +ℤ v *ℤ v +ℤ w *ℤ w) *ℤ x +ℤ neg_ℤ (x *ℤ u +ℤ y *ℤ v +ℤ z *ℤ w) *ℤ u) +ℤ
    ((u *ℤ u +ℤ v *ℤ v +ℤ w *ℤ w) *ℤ y +ℤ neg_ℤ (x *ℤ u +ℤ y *ℤ v +ℤ z *ℤ w) *ℤ v) *ℤ
    ((u *ℤ u +ℤ v *ℤ v +ℤ w *ℤ w) *ℤ y +ℤ neg_ℤ (x *ℤ u +ℤ y *ℤ v +ℤ z *ℤ w) *ℤ v) +ℤ
    ((u *ℤ u +ℤ v *ℤ v +ℤ w *ℤ w) *ℤ z +ℤ neg_ℤ (x *ℤ u +ℤ y *ℤ v +ℤ z *ℤ w) *ℤ w) *ℤ
    ((u *ℤ u +ℤ v *ℤ v +ℤ w *ℤ w) *ℤ z +ℤ neg_ℤ (x *ℤ u +ℤ y *ℤ v +ℤ z *ℤ w) *ℤ w)) ≡ (u *ℤ u +ℤ v *ℤ v +ℤ w *ℤ w) *ℤ
    (u *ℤ u +ℤ v *ℤ v +ℤ w *ℤ w) *ℤ (R *ℤ (D *ℤ D) -ℤ (x *ℤ x +ℤ y *ℤ y +ℤ z *ℤ z)) +ℤ (u *ℤ u +ℤ v *ℤ v +ℤ w *ℤ w) *ℤ
    ((x *ℤ u +ℤ y *ℤ v +ℤ z *ℤ w) *ℤ (x *ℤ u +ℤ y *ℤ v +ℤ z *ℤ w))
foot R D x y z u v w =
    alike (R ∷ D ∷ x ∷ y ∷ z ∷ u ∷ v ∷ w ∷ []) (var 0 ⊗ (((var 5 ⊗ var 5 ⊕ var 6 ⊗ var 6 ⊕ var 7 ⊗ var 7) ⊗ var 1 ⊕ opp
    (var 2 ⊗ var 5 ⊕ var 3 ⊗ var 6 ⊕ var 4 ⊗ var 7) ⊗ num (pos 0)) ⊗
    ((var 5 ⊗ var 5 ⊕ var 6 ⊗ var 6 ⊕ var 7 ⊗ var 7) ⊗ var 1 ⊕ opp (var 2 ⊗ var 5 ⊕ var 3 ⊗ var 6 ⊕ var 4 ⊗ var 7) ⊗ num (pos 0))) ⊖
    (((var 5 ⊗ var 5 ⊕ var 6 ⊗ var 6 ⊕ var 7 ⊗ var 7) ⊗ var 2 ⊕ opp (var 2 ⊗ var 5 ⊕ var 3 ⊗ var 6 ⊕ var 4 ⊗ var 7) ⊗ var 5) ⊗
    ((var 5 ⊗ var 5 ⊕ var 6 ⊗ var 6 ⊕ var 7 ⊗ var 7) ⊗ var 2 ⊕ opp (var 2 ⊗ var 5 ⊕ var 3 ⊗ var 6 ⊕ var 4 ⊗ var 7) ⊗ var 5) ⊕
    ((var 5 ⊗ var 5 ⊕ var 6 ⊗ var 6 ⊕ var 7 ⊗ var 7) ⊗ var 3 ⊕ opp (var 2 ⊗ var 5 ⊕ var 3 ⊗ var 6 ⊕ var 4 ⊗ var 7) ⊗ var 6) ⊗
    ((var 5 ⊗ var 5 ⊕ var 6 ⊗ var 6 ⊕ var 7 ⊗ var 7) ⊗ var 3 ⊕ opp (var 2 ⊗ var 5 ⊕ var 3 ⊗ var 6 ⊕ var 4 ⊗ var 7) ⊗ var 6) ⊕
    ((var 5 ⊗ var 5 ⊕ var 6 ⊗ var 6 ⊕ var 7 ⊗ var 7) ⊗ var 4 ⊕ opp (var 2 ⊗ var 5 ⊕ var 3 ⊗ var 6 ⊕ var 4 ⊗ var 7) ⊗ var 7) ⊗
    ((var 5 ⊗ var 5 ⊕ var 6 ⊗ var 6 ⊕ var 7 ⊗ var 7) ⊗ var 4 ⊕ opp (var 2 ⊗ var 5 ⊕ var 3 ⊗ var 6 ⊕ var 4 ⊗ var 7) ⊗ var 7)))
    ((var 5 ⊗ var 5 ⊕ var 6 ⊗ var 6 ⊕ var 7 ⊗ var 7) ⊗ (var 5 ⊗ var 5 ⊕ var 6 ⊗ var 6 ⊕ var 7 ⊗ var 7) ⊗
    (var 0 ⊗ (var 1 ⊗ var 1) ⊖ (var 2 ⊗ var 2 ⊕ var 3 ⊗ var 3 ⊕ var 4 ⊗ var 4)) ⊕ (var 5 ⊗ var 5 ⊕ var 6 ⊗ var 6 ⊕ var 7 ⊗ var 7) ⊗
    ((var 2 ⊗ var 5 ⊕ var 3 ⊗ var 6 ⊕ var 4 ⊗ var 7) ⊗ (var 2 ⊗ var 5 ⊕ var 3 ⊗ var 6 ⊕ var 4 ⊗ var 7))) refl

-- the foot on a side
pub side_first : (i j p1 p2 p3 q1 q2 q3 r1 r2 r3 : ℤ) → (i +ℤ j +ℤ pos 0) *ℤ (q1 *ℤ (q1 -ℤ p1) +ℤ q2 *ℤ (q2 -ℤ p2) +ℤ q3 *ℤ (q3 -ℤ p3))
    ≡ pos 1 *ℤ (((negsuc 0 *ℤ p1 +ℤ pos 1 *ℤ q1 +ℤ pos 0 *ℤ r1) *ℤ (negsuc 0 *ℤ p1 +ℤ pos 1 *ℤ q1 +ℤ pos 0 *ℤ r1) +ℤ
    (negsuc 0 *ℤ p2 +ℤ pos 1 *ℤ q2 +ℤ pos 0 *ℤ r2) *ℤ (negsuc 0 *ℤ p2 +ℤ pos 1 *ℤ q2 +ℤ pos 0 *ℤ r2) +ℤ
    (negsuc 0 *ℤ p3 +ℤ pos 1 *ℤ q3 +ℤ pos 0 *ℤ r3) *ℤ (negsuc 0 *ℤ p3 +ℤ pos 1 *ℤ q3 +ℤ pos 0 *ℤ r3)) *ℤ i +ℤ neg_ℤ
    ((i *ℤ p1 +ℤ j *ℤ q1 +ℤ pos 0 *ℤ r1) *ℤ (negsuc 0 *ℤ p1 +ℤ pos 1 *ℤ q1 +ℤ pos 0 *ℤ r1) +ℤ (i *ℤ p2 +ℤ j *ℤ q2 +ℤ pos 0 *ℤ r2) *ℤ
    (negsuc 0 *ℤ p2 +ℤ pos 1 *ℤ q2 +ℤ pos 0 *ℤ r2) +ℤ (i *ℤ p3 +ℤ j *ℤ q3 +ℤ pos 0 *ℤ r3) *ℤ (negsuc 0 *ℤ p3 +ℤ pos 1 *ℤ q3 +ℤ pos 0 *ℤ r3))
    *ℤ negsuc 0)
side_first i j p1 p2 p3 q1 q2 q3 r1 r2 r3 =
    alike (i ∷ j ∷ p1 ∷ p2 ∷ p3 ∷ q1 ∷ q2 ∷ q3 ∷ r1 ∷ r2 ∷ r3 ∷ [])
    ((var 0 ⊕ var 1 ⊕ num (pos 0)) ⊗ (var 5 ⊗ (var 5 ⊖ var 2) ⊕ var 6 ⊗ (var 6 ⊖ var 3) ⊕ var 7 ⊗ (var 7 ⊖ var 4)))
    (num (pos 1) ⊗ (((num (negsuc 0) ⊗ var 2 ⊕ num (pos 1) ⊗ var 5 ⊕ num (pos 0) ⊗ var 8) ⊗
    (num (negsuc 0) ⊗ var 2 ⊕ num (pos 1) ⊗ var 5 ⊕ num (pos 0) ⊗ var 8) ⊕
    (num (negsuc 0) ⊗ var 3 ⊕ num (pos 1) ⊗ var 6 ⊕ num (pos 0) ⊗ var 9) ⊗
    (num (negsuc 0) ⊗ var 3 ⊕ num (pos 1) ⊗ var 6 ⊕ num (pos 0) ⊗ var 9) ⊕
    (num (negsuc 0) ⊗ var 4 ⊕ num (pos 1) ⊗ var 7 ⊕ num (pos 0) ⊗ var 10) ⊗
    (num (negsuc 0) ⊗ var 4 ⊕ num (pos 1) ⊗ var 7 ⊕ num (pos 0) ⊗ var 10)) ⊗ var 0 ⊕ opp
    ((var 0 ⊗ var 2 ⊕ var 1 ⊗ var 5 ⊕ num (pos 0) ⊗ var 8) ⊗ (num (negsuc 0) ⊗ var 2 ⊕ num (pos 1) ⊗ var 5 ⊕ num (pos 0) ⊗ var 8) ⊕
    (var 0 ⊗ var 3 ⊕ var 1 ⊗ var 6 ⊕ num (pos 0) ⊗ var 9) ⊗ (num (negsuc 0) ⊗ var 3 ⊕ num (pos 1) ⊗ var 6 ⊕ num (pos 0) ⊗ var 9) ⊕
    (var 0 ⊗ var 4 ⊕ var 1 ⊗ var 7 ⊕ num (pos 0) ⊗ var 10) ⊗ (num (negsuc 0) ⊗ var 4 ⊕ num (pos 1) ⊗ var 7 ⊕ num (pos 0) ⊗ var 10)) ⊗ num
    (negsuc 0))) refl

pub side_second : (i j p1 p2 p3 q1 q2 q3 r1 r2 r3 : ℤ) → (i +ℤ j +ℤ pos 0) *ℤ neg_ℤ
    (p1 *ℤ (q1 -ℤ p1) +ℤ p2 *ℤ (q2 -ℤ p2) +ℤ p3 *ℤ (q3 -ℤ p3)) ≡ pos 1 *ℤ
    (((negsuc 0 *ℤ p1 +ℤ pos 1 *ℤ q1 +ℤ pos 0 *ℤ r1) *ℤ (negsuc 0 *ℤ p1 +ℤ pos 1 *ℤ q1 +ℤ pos 0 *ℤ r1) +ℤ
    (negsuc 0 *ℤ p2 +ℤ pos 1 *ℤ q2 +ℤ pos 0 *ℤ r2) *ℤ (negsuc 0 *ℤ p2 +ℤ pos 1 *ℤ q2 +ℤ pos 0 *ℤ r2) +ℤ
    (negsuc 0 *ℤ p3 +ℤ pos 1 *ℤ q3 +ℤ pos 0 *ℤ r3) *ℤ (negsuc 0 *ℤ p3 +ℤ pos 1 *ℤ q3 +ℤ pos 0 *ℤ r3)) *ℤ j +ℤ neg_ℤ
    ((i *ℤ p1 +ℤ j *ℤ q1 +ℤ pos 0 *ℤ r1) *ℤ (negsuc 0 *ℤ p1 +ℤ pos 1 *ℤ q1 +ℤ pos 0 *ℤ r1) +ℤ (i *ℤ p2 +ℤ j *ℤ q2 +ℤ pos 0 *ℤ r2) *ℤ
    (negsuc 0 *ℤ p2 +ℤ pos 1 *ℤ q2 +ℤ pos 0 *ℤ r2) +ℤ (i *ℤ p3 +ℤ j *ℤ q3 +ℤ pos 0 *ℤ r3) *ℤ (negsuc 0 *ℤ p3 +ℤ pos 1 *ℤ q3 +ℤ pos 0 *ℤ r3))
    *ℤ pos 1)
side_second i j p1 p2 p3 q1 q2 q3 r1 r2 r3 =
    alike (i ∷ j ∷ p1 ∷ p2 ∷ p3 ∷ q1 ∷ q2 ∷ q3 ∷ r1 ∷ r2 ∷ r3 ∷ [])
    ((var 0 ⊕ var 1 ⊕ num (pos 0)) ⊗ opp (var 2 ⊗ (var 5 ⊖ var 2) ⊕ var 3 ⊗ (var 6 ⊖ var 3) ⊕ var 4 ⊗ (var 7 ⊖ var 4)))
    (num (pos 1) ⊗ (((num (negsuc 0) ⊗ var 2 ⊕ num (pos 1) ⊗ var 5 ⊕ num (pos 0) ⊗ var 8) ⊗
    (num (negsuc 0) ⊗ var 2 ⊕ num (pos 1) ⊗ var 5 ⊕ num (pos 0) ⊗ var 8) ⊕
    (num (negsuc 0) ⊗ var 3 ⊕ num (pos 1) ⊗ var 6 ⊕ num (pos 0) ⊗ var 9) ⊗
    (num (negsuc 0) ⊗ var 3 ⊕ num (pos 1) ⊗ var 6 ⊕ num (pos 0) ⊗ var 9) ⊕
    (num (negsuc 0) ⊗ var 4 ⊕ num (pos 1) ⊗ var 7 ⊕ num (pos 0) ⊗ var 10) ⊗
    (num (negsuc 0) ⊗ var 4 ⊕ num (pos 1) ⊗ var 7 ⊕ num (pos 0) ⊗ var 10)) ⊗ var 1 ⊕ opp
    ((var 0 ⊗ var 2 ⊕ var 1 ⊗ var 5 ⊕ num (pos 0) ⊗ var 8) ⊗ (num (negsuc 0) ⊗ var 2 ⊕ num (pos 1) ⊗ var 5 ⊕ num (pos 0) ⊗ var 8) ⊕
    (var 0 ⊗ var 3 ⊕ var 1 ⊗ var 6 ⊕ num (pos 0) ⊗ var 9) ⊗ (num (negsuc 0) ⊗ var 3 ⊕ num (pos 1) ⊗ var 6 ⊕ num (pos 0) ⊗ var 9) ⊕
    (var 0 ⊗ var 4 ⊕ var 1 ⊗ var 7 ⊕ num (pos 0) ⊗ var 10) ⊗ (num (negsuc 0) ⊗ var 4 ⊕ num (pos 1) ⊗ var 7 ⊕ num (pos 0) ⊗ var 10)) ⊗ num
    (pos 1))) refl

pub side_third : (i j p1 p2 p3 q1 q2 q3 r1 r2 r3 : ℤ) → (i +ℤ j +ℤ pos 0) *ℤ pos 0 ≡ pos 1 *ℤ
    (((negsuc 0 *ℤ p1 +ℤ pos 1 *ℤ q1 +ℤ pos 0 *ℤ r1) *ℤ (negsuc 0 *ℤ p1 +ℤ pos 1 *ℤ q1 +ℤ pos 0 *ℤ r1) +ℤ
    (negsuc 0 *ℤ p2 +ℤ pos 1 *ℤ q2 +ℤ pos 0 *ℤ r2) *ℤ (negsuc 0 *ℤ p2 +ℤ pos 1 *ℤ q2 +ℤ pos 0 *ℤ r2) +ℤ
    (negsuc 0 *ℤ p3 +ℤ pos 1 *ℤ q3 +ℤ pos 0 *ℤ r3) *ℤ (negsuc 0 *ℤ p3 +ℤ pos 1 *ℤ q3 +ℤ pos 0 *ℤ r3)) *ℤ pos 0 +ℤ neg_ℤ
    ((i *ℤ p1 +ℤ j *ℤ q1 +ℤ pos 0 *ℤ r1) *ℤ (negsuc 0 *ℤ p1 +ℤ pos 1 *ℤ q1 +ℤ pos 0 *ℤ r1) +ℤ (i *ℤ p2 +ℤ j *ℤ q2 +ℤ pos 0 *ℤ r2) *ℤ
    (negsuc 0 *ℤ p2 +ℤ pos 1 *ℤ q2 +ℤ pos 0 *ℤ r2) +ℤ (i *ℤ p3 +ℤ j *ℤ q3 +ℤ pos 0 *ℤ r3) *ℤ (negsuc 0 *ℤ p3 +ℤ pos 1 *ℤ q3 +ℤ pos 0 *ℤ r3))
    *ℤ pos 0)
side_third i j p1 p2 p3 q1 q2 q3 r1 r2 r3 =
    alike (i ∷ j ∷ p1 ∷ p2 ∷ p3 ∷ q1 ∷ q2 ∷ q3 ∷ r1 ∷ r2 ∷ r3 ∷ []) ((var 0 ⊕ var 1 ⊕ num (pos 0)) ⊗ num (pos 0))
    (num (pos 1) ⊗ (((num (negsuc 0) ⊗ var 2 ⊕ num (pos 1) ⊗ var 5 ⊕ num (pos 0) ⊗ var 8) ⊗
    (num (negsuc 0) ⊗ var 2 ⊕ num (pos 1) ⊗ var 5 ⊕ num (pos 0) ⊗ var 8) ⊕
    (num (negsuc 0) ⊗ var 3 ⊕ num (pos 1) ⊗ var 6 ⊕ num (pos 0) ⊗ var 9) ⊗
    (num (negsuc 0) ⊗ var 3 ⊕ num (pos 1) ⊗ var 6 ⊕ num (pos 0) ⊗ var 9) ⊕
    (num (negsuc 0) ⊗ var 4 ⊕ num (pos 1) ⊗ var 7 ⊕ num (pos 0) ⊗ var 10) ⊗
    (num (negsuc 0) ⊗ var 4 ⊕ num (pos 1) ⊗ var 7 ⊕ num (pos 0) ⊗ var 10)) ⊗ num (pos 0) ⊕ opp
    ((var 0 ⊗ var 2 ⊕ var 1 ⊗ var 5 ⊕ num (pos 0) ⊗ var 8) ⊗ (num (negsuc 0) ⊗ var 2 ⊕ num (pos 1) ⊗ var 5 ⊕ num (pos 0) ⊗ var 8) ⊕
    (var 0 ⊗ var 3 ⊕ var 1 ⊗ var 6 ⊕ num (pos 0) ⊗ var 9) ⊗ (num (negsuc 0) ⊗ var 3 ⊕ num (pos 1) ⊗ var 6 ⊕ num (pos 0) ⊗ var 9) ⊕
    (var 0 ⊗ var 4 ⊕ var 1 ⊗ var 7 ⊕ num (pos 0) ⊗ var 10) ⊗ (num (negsuc 0) ⊗ var 4 ⊕ num (pos 1) ⊗ var 7 ⊕ num (pos 0) ⊗ var 10)) ⊗ num
    (pos 0))) refl

pub side_size : (p1 p2 p3 q1 q2 q3 r1 r2 r3 : ℤ) → q1 *ℤ (q1 -ℤ p1) +ℤ q2 *ℤ (q2 -ℤ p2) +ℤ q3 *ℤ (q3 -ℤ p3) +ℤ neg_ℤ
    (p1 *ℤ (q1 -ℤ p1) +ℤ p2 *ℤ (q2 -ℤ p2) +ℤ p3 *ℤ (q3 -ℤ p3)) +ℤ pos 0 ≡ (negsuc 0 *ℤ p1 +ℤ pos 1 *ℤ q1 +ℤ pos 0 *ℤ r1) *ℤ
    (negsuc 0 *ℤ p1 +ℤ pos 1 *ℤ q1 +ℤ pos 0 *ℤ r1) +ℤ (negsuc 0 *ℤ p2 +ℤ pos 1 *ℤ q2 +ℤ pos 0 *ℤ r2) *ℤ
    (negsuc 0 *ℤ p2 +ℤ pos 1 *ℤ q2 +ℤ pos 0 *ℤ r2) +ℤ (negsuc 0 *ℤ p3 +ℤ pos 1 *ℤ q3 +ℤ pos 0 *ℤ r3) *ℤ
    (negsuc 0 *ℤ p3 +ℤ pos 1 *ℤ q3 +ℤ pos 0 *ℤ r3)
side_size p1 p2 p3 q1 q2 q3 r1 r2 r3 =
    alike (p1 ∷ p2 ∷ p3 ∷ q1 ∷ q2 ∷ q3 ∷ r1 ∷ r2 ∷ r3 ∷ []) (var 3 ⊗ (var 3 ⊖ var 0) ⊕ var 4 ⊗ (var 4 ⊖ var 1) ⊕ var 5 ⊗ (var 5 ⊖ var 2)
    ⊕ opp (var 0 ⊗ (var 3 ⊖ var 0) ⊕ var 1 ⊗ (var 4 ⊖ var 1) ⊕ var 2 ⊗ (var 5 ⊖ var 2)) ⊕ num (pos 0))
    ((num (negsuc 0) ⊗ var 0 ⊕ num (pos 1) ⊗ var 3 ⊕ num (pos 0) ⊗ var 6) ⊗
    (num (negsuc 0) ⊗ var 0 ⊕ num (pos 1) ⊗ var 3 ⊕ num (pos 0) ⊗ var 6) ⊕
    (num (negsuc 0) ⊗ var 1 ⊕ num (pos 1) ⊗ var 4 ⊕ num (pos 0) ⊗ var 7) ⊗
    (num (negsuc 0) ⊗ var 1 ⊕ num (pos 1) ⊗ var 4 ⊕ num (pos 0) ⊗ var 7) ⊕
    (num (negsuc 0) ⊗ var 2 ⊕ num (pos 1) ⊗ var 5 ⊕ num (pos 0) ⊗ var 8) ⊗
    (num (negsuc 0) ⊗ var 2 ⊕ num (pos 1) ⊗ var 5 ⊕ num (pos 0) ⊗ var 8)) refl

pub side_room : (R p1 p2 p3 q1 q2 q3 r1 r2 r3 : ℤ) → R *ℤ ((q1 *ℤ (q1 -ℤ p1) +ℤ q2 *ℤ (q2 -ℤ p2) +ℤ q3 *ℤ (q3 -ℤ p3) +ℤ neg_ℤ
    (p1 *ℤ (q1 -ℤ p1) +ℤ p2 *ℤ (q2 -ℤ p2) +ℤ p3 *ℤ (q3 -ℤ p3)) +ℤ pos 0) *ℤ
    (q1 *ℤ (q1 -ℤ p1) +ℤ q2 *ℤ (q2 -ℤ p2) +ℤ q3 *ℤ (q3 -ℤ p3) +ℤ neg_ℤ (p1 *ℤ (q1 -ℤ p1) +ℤ p2 *ℤ (q2 -ℤ p2) +ℤ p3 *ℤ (q3 -ℤ p3)) +ℤ pos 0))
    -ℤ (((q1 *ℤ (q1 -ℤ p1) +ℤ q2 *ℤ (q2 -ℤ p2) +ℤ q3 *ℤ (q3 -ℤ p3)) *ℤ p1 +ℤ neg_ℤ
    (p1 *ℤ (q1 -ℤ p1) +ℤ p2 *ℤ (q2 -ℤ p2) +ℤ p3 *ℤ (q3 -ℤ p3))
    *ℤ q1 +ℤ pos 0 *ℤ r1) *ℤ ((q1 *ℤ (q1 -ℤ p1) +ℤ q2 *ℤ (q2 -ℤ p2) +ℤ q3 *ℤ (q3 -ℤ p3)) *ℤ p1 +ℤ neg_ℤ
    (p1 *ℤ (q1 -ℤ p1) +ℤ p2 *ℤ (q2 -ℤ p2) +ℤ p3 *ℤ (q3 -ℤ p3)) *ℤ q1 +ℤ pos 0 *ℤ r1) +ℤ
    ((q1 *ℤ (q1 -ℤ p1) +ℤ q2 *ℤ (q2 -ℤ p2) +ℤ q3 *ℤ (q3 -ℤ p3)) *ℤ p2 +ℤ neg_ℤ (p1 *ℤ (q1 -ℤ p1) +ℤ p2 *ℤ (q2 -ℤ p2) +ℤ p3 *ℤ (q3 -ℤ p3))
    *ℤ q2 +ℤ pos 0 *ℤ r2) *ℤ ((q1 *ℤ (q1 -ℤ p1) +ℤ q2 *ℤ (q2 -ℤ p2) +ℤ q3 *ℤ (q3 -ℤ p3)) *ℤ p2 +ℤ neg_ℤ
    (p1 *ℤ (q1 -ℤ p1) +ℤ p2 *ℤ (q2 -ℤ p2) +ℤ p3 *ℤ (q3 -ℤ p3)) *ℤ q2 +ℤ pos 0 *ℤ r2) +ℤ
    ((q1 *ℤ (q1 -ℤ p1) +ℤ q2 *ℤ (q2 -ℤ p2) +ℤ q3 *ℤ (q3 -ℤ p3)) *ℤ p3 +ℤ neg_ℤ (p1 *ℤ (q1 -ℤ p1) +ℤ p2 *ℤ (q2 -ℤ p2) +ℤ p3 *ℤ (q3 -ℤ p3))
    *ℤ q3 +ℤ pos 0 *ℤ r3) *ℤ ((q1 *ℤ (q1 -ℤ p1) +ℤ q2 *ℤ (q2 -ℤ p2) +ℤ q3 *ℤ (q3 -ℤ p3)) *ℤ p3 +ℤ neg_ℤ
    (p1 *ℤ (q1 -ℤ p1) +ℤ p2 *ℤ (q2 -ℤ p2) +ℤ p3 *ℤ (q3 -ℤ p3)) *ℤ q3 +ℤ pos 0 *ℤ r3)) ≡
    (q1 *ℤ (q1 -ℤ p1) +ℤ q2 *ℤ (q2 -ℤ p2) +ℤ q3 *ℤ (q3 -ℤ p3) +ℤ neg_ℤ (p1 *ℤ (q1 -ℤ p1) +ℤ p2 *ℤ (q2 -ℤ p2) +ℤ p3 *ℤ (q3 -ℤ p3))) *ℤ
    (R *ℤ (q1 *ℤ (q1 -ℤ p1) +ℤ q2 *ℤ (q2 -ℤ p2) +ℤ q3 *ℤ (q3 -ℤ p3) +ℤ neg_ℤ (p1 *ℤ (q1 -ℤ p1) +ℤ p2 *ℤ (q2 -ℤ p2) +ℤ p3 *ℤ (q3 -ℤ p3))) -ℤ
    ((p2 *ℤ q3 -ℤ p3 *ℤ q2) *ℤ (p2 *ℤ q3 -ℤ p3 *ℤ q2) +ℤ (p3 *ℤ q1 -ℤ p1 *ℤ q3) *ℤ (p3 *ℤ q1 -ℤ p1 *ℤ q3) +ℤ (p1 *ℤ q2 -ℤ p2 *ℤ q1) *ℤ
    (p1 *ℤ q2 -ℤ p2 *ℤ q1)))
side_room R p1 p2 p3 q1 q2 q3 r1 r2 r3 =
    alike (R ∷ p1 ∷ p2 ∷ p3 ∷ q1 ∷ q2 ∷ q3 ∷ r1 ∷ r2 ∷ r3 ∷ []) (var 0 ⊗
    ((var 4 ⊗ (var 4 ⊖ var 1) ⊕ var 5 ⊗ (var 5 ⊖ var 2) ⊕ var 6 ⊗ (var 6 ⊖ var 3) ⊕ opp
    (var 1 ⊗ (var 4 ⊖ var 1) ⊕ var 2 ⊗ (var 5 ⊖ var 2) ⊕ var 3 ⊗ (var 6 ⊖ var 3)) ⊕ num (pos 0)) ⊗
    (var 4 ⊗ (var 4 ⊖ var 1) ⊕ var 5 ⊗ (var 5 ⊖ var 2) ⊕ var 6 ⊗ (var 6 ⊖ var 3) ⊕ opp
    (var 1 ⊗ (var 4 ⊖ var 1) ⊕ var 2 ⊗ (var 5 ⊖ var 2) ⊕ var 3 ⊗ (var 6 ⊖ var 3)) ⊕ num (pos 0))) ⊖
    (((var 4 ⊗ (var 4 ⊖ var 1) ⊕ var 5 ⊗ (var 5 ⊖ var 2) ⊕ var 6 ⊗ (var 6 ⊖ var 3)) ⊗ var 1 ⊕ opp
    (var 1 ⊗ (var 4 ⊖ var 1) ⊕ var 2 ⊗ (var 5 ⊖ var 2) ⊕ var 3 ⊗ (var 6 ⊖ var 3)) ⊗ var 4 ⊕ num (pos 0) ⊗ var 7) ⊗
    ((var 4 ⊗ (var 4 ⊖ var 1) ⊕ var 5 ⊗ (var 5 ⊖ var 2) ⊕ var 6 ⊗ (var 6 ⊖ var 3)) ⊗ var 1 ⊕ opp
    (var 1 ⊗ (var 4 ⊖ var 1) ⊕ var 2 ⊗ (var 5 ⊖ var 2) ⊕ var 3 ⊗ (var 6 ⊖ var 3)) ⊗ var 4 ⊕ num (pos 0) ⊗ var 7) ⊕
    ((var 4 ⊗ (var 4 ⊖ var 1) ⊕ var 5 ⊗ (var 5 ⊖ var 2) ⊕ var 6 ⊗ (var 6 ⊖ var 3)) ⊗ var 2 ⊕ opp
    (var 1 ⊗ (var 4 ⊖ var 1) ⊕ var 2 ⊗ (var 5 ⊖ var 2) ⊕ var 3 ⊗ (var 6 ⊖ var 3)) ⊗ var 5 ⊕ num (pos 0) ⊗ var 8) ⊗
    ((var 4 ⊗ (var 4 ⊖ var 1) ⊕ var 5 ⊗ (var 5 ⊖ var 2) ⊕ var 6 ⊗ (var 6 ⊖ var 3)) ⊗ var 2 ⊕ opp
    (var 1 ⊗ (var 4 ⊖ var 1) ⊕ var 2 ⊗ (var 5 ⊖ var 2) ⊕ var 3 ⊗ (var 6 ⊖ var 3)) ⊗ var 5 ⊕ num (pos 0) ⊗ var 8) ⊕
    ((var 4 ⊗ (var 4 ⊖ var 1) ⊕ var 5 ⊗ (var 5 ⊖ var 2) ⊕ var 6 ⊗ (var 6 ⊖ var 3)) ⊗ var 3 ⊕ opp
    (var 1 ⊗ (var 4 ⊖ var 1) ⊕ var 2 ⊗ (var 5 ⊖ var 2) ⊕ var 3 ⊗ (var 6 ⊖ var 3)) ⊗ var 6 ⊕ num (pos 0) ⊗ var 9) ⊗
    ((var 4 ⊗ (var 4 ⊖ var 1) ⊕ var 5 ⊗ (var 5 ⊖ var 2) ⊕ var 6 ⊗ (var 6 ⊖ var 3)) ⊗ var 3 ⊕ opp
    (var 1 ⊗ (var 4 ⊖ var 1) ⊕ var 2 ⊗ (var 5 ⊖ var 2) ⊕ var 3 ⊗ (var 6 ⊖ var 3)) ⊗ var 6 ⊕ num (pos 0) ⊗ var 9)))
    ((var 4 ⊗ (var 4 ⊖ var 1) ⊕ var 5 ⊗ (var 5 ⊖ var 2) ⊕ var 6 ⊗ (var 6 ⊖ var 3) ⊕ opp
    (var 1 ⊗ (var 4 ⊖ var 1) ⊕ var 2 ⊗ (var 5 ⊖ var 2) ⊕ var 3 ⊗ (var 6 ⊖ var 3))) ⊗
    (var 0 ⊗ (var 4 ⊗ (var 4 ⊖ var 1) ⊕ var 5 ⊗ (var 5 ⊖ var 2) ⊕ var 6 ⊗ (var 6 ⊖ var 3) ⊕ opp
    (var 1 ⊗ (var 4 ⊖ var 1) ⊕ var 2 ⊗ (var 5 ⊖ var 2) ⊕ var 3 ⊗ (var 6 ⊖ var 3))) ⊖
    ((var 2 ⊗ var 6 ⊖ var 3 ⊗ var 5) ⊗ (var 2 ⊗ var 6 ⊖ var 3 ⊗ var 5) ⊕ (var 3 ⊗ var 4 ⊖ var 1 ⊗ var 6) ⊗ (var 3 ⊗ var 4 ⊖ var 1 ⊗ var 6) ⊕
    (var 1 ⊗ var 5 ⊖ var 2 ⊗ var 4) ⊗ (var 1 ⊗ var 5 ⊖ var 2 ⊗ var 4)))) refl

pub turn_moment_x : (p1 p2 p3 q1 q2 q3 d1 d2 d3 : ℤ) → (p3 *ℤ d1 -ℤ p1 *ℤ d3) *ℤ (q1 *ℤ d2 -ℤ q2 *ℤ d1) -ℤ (p1 *ℤ d2 -ℤ p2 *ℤ d1) *ℤ
    (q3 *ℤ d1 -ℤ q1 *ℤ d3) ≡ ((p2 *ℤ q3 -ℤ p3 *ℤ q2) *ℤ d1 +ℤ (p3 *ℤ q1 -ℤ p1 *ℤ q3) *ℤ d2 +ℤ (p1 *ℤ q2 -ℤ p2 *ℤ q1) *ℤ d3) *ℤ d1
turn_moment_x p1 p2 p3 q1 q2 q3 d1 d2 d3 =
    alike (p1 ∷ p2 ∷ p3 ∷ q1 ∷ q2 ∷ q3 ∷ d1 ∷ d2 ∷ d3 ∷ []) ((var 2 ⊗ var 6 ⊖ var 0 ⊗ var 8) ⊗ (var 3 ⊗ var 7 ⊖ var 4 ⊗ var 6) ⊖
    (var 0 ⊗ var 7 ⊖ var 1 ⊗ var 6) ⊗ (var 5 ⊗ var 6 ⊖ var 3 ⊗ var 8))
    (((var 1 ⊗ var 5 ⊖ var 2 ⊗ var 4) ⊗ var 6 ⊕ (var 2 ⊗ var 3 ⊖ var 0 ⊗ var 5) ⊗ var 7 ⊕ (var 0 ⊗ var 4 ⊖ var 1 ⊗ var 3) ⊗ var 8) ⊗ var 6)
    refl

pub turn_moment_y : (p1 p2 p3 q1 q2 q3 d1 d2 d3 : ℤ) → (p1 *ℤ d2 -ℤ p2 *ℤ d1) *ℤ (q2 *ℤ d3 -ℤ q3 *ℤ d2) -ℤ (p2 *ℤ d3 -ℤ p3 *ℤ d2) *ℤ
    (q1 *ℤ d2 -ℤ q2 *ℤ d1) ≡ ((p2 *ℤ q3 -ℤ p3 *ℤ q2) *ℤ d1 +ℤ (p3 *ℤ q1 -ℤ p1 *ℤ q3) *ℤ d2 +ℤ (p1 *ℤ q2 -ℤ p2 *ℤ q1) *ℤ d3) *ℤ d2
turn_moment_y p1 p2 p3 q1 q2 q3 d1 d2 d3 =
    alike (p1 ∷ p2 ∷ p3 ∷ q1 ∷ q2 ∷ q3 ∷ d1 ∷ d2 ∷ d3 ∷ []) ((var 0 ⊗ var 7 ⊖ var 1 ⊗ var 6) ⊗ (var 4 ⊗ var 8 ⊖ var 5 ⊗ var 7) ⊖
    (var 1 ⊗ var 8 ⊖ var 2 ⊗ var 7) ⊗ (var 3 ⊗ var 7 ⊖ var 4 ⊗ var 6))
    (((var 1 ⊗ var 5 ⊖ var 2 ⊗ var 4) ⊗ var 6 ⊕ (var 2 ⊗ var 3 ⊖ var 0 ⊗ var 5) ⊗ var 7 ⊕ (var 0 ⊗ var 4 ⊖ var 1 ⊗ var 3) ⊗ var 8) ⊗ var 7)
    refl

pub turn_moment_z : (p1 p2 p3 q1 q2 q3 d1 d2 d3 : ℤ) → (p2 *ℤ d3 -ℤ p3 *ℤ d2) *ℤ (q3 *ℤ d1 -ℤ q1 *ℤ d3) -ℤ (p3 *ℤ d1 -ℤ p1 *ℤ d3) *ℤ
    (q2 *ℤ d3 -ℤ q3 *ℤ d2) ≡ ((p2 *ℤ q3 -ℤ p3 *ℤ q2) *ℤ d1 +ℤ (p3 *ℤ q1 -ℤ p1 *ℤ q3) *ℤ d2 +ℤ (p1 *ℤ q2 -ℤ p2 *ℤ q1) *ℤ d3) *ℤ d3
turn_moment_z p1 p2 p3 q1 q2 q3 d1 d2 d3 =
    alike (p1 ∷ p2 ∷ p3 ∷ q1 ∷ q2 ∷ q3 ∷ d1 ∷ d2 ∷ d3 ∷ []) ((var 1 ⊗ var 8 ⊖ var 2 ⊗ var 7) ⊗ (var 5 ⊗ var 6 ⊖ var 3 ⊗ var 8) ⊖
    (var 2 ⊗ var 6 ⊖ var 0 ⊗ var 8) ⊗ (var 4 ⊗ var 8 ⊖ var 5 ⊗ var 7))
    (((var 1 ⊗ var 5 ⊖ var 2 ⊗ var 4) ⊗ var 6 ⊕ (var 2 ⊗ var 3 ⊖ var 0 ⊗ var 5) ⊗ var 7 ⊕ (var 0 ⊗ var 4 ⊖ var 1 ⊗ var 3) ⊗ var 8) ⊗ var 8)
    refl

pub turn_room : (ro t F d1 d2 d3 : ℤ) → ro *ℤ (d1 *ℤ d1 +ℤ d2 *ℤ d2 +ℤ d3 *ℤ d3) *ℤ F -ℤ
    (t *ℤ d1 *ℤ (t *ℤ d1) +ℤ t *ℤ d2 *ℤ (t *ℤ d2) +ℤ t *ℤ d3 *ℤ (t *ℤ d3)) ≡ (d1 *ℤ d1 +ℤ d2 *ℤ d2 +ℤ d3 *ℤ d3) *ℤ (ro *ℤ F -ℤ t *ℤ t)
turn_room ro t F d1 d2 d3 =
    alike (ro ∷ t ∷ F ∷ d1 ∷ d2 ∷ d3 ∷ []) (var 0 ⊗ (var 3 ⊗ var 3 ⊕ var 4 ⊗ var 4 ⊕ var 5 ⊗ var 5) ⊗ var 2 ⊖
    (var 1 ⊗ var 3 ⊗ (var 1 ⊗ var 3) ⊕ var 1 ⊗ var 4 ⊗ (var 1 ⊗ var 4) ⊕ var 1 ⊗ var 5 ⊗ (var 1 ⊗ var 5)))
    ((var 3 ⊗ var 3 ⊕ var 4 ⊗ var 4 ⊕ var 5 ⊗ var 5) ⊗ (var 0 ⊗ var 2 ⊖ var 1 ⊗ var 1)) refl

-- corners, and where a side crosses a cap
pub corner_room : (R p1 p2 p3 q1 q2 q3 r1 r2 r3 : ℤ) → R *ℤ ((pos 1 +ℤ pos 0 +ℤ pos 0) *ℤ (pos 1 +ℤ pos 0 +ℤ pos 0)) -ℤ
    ((pos 1 *ℤ p1 +ℤ pos 0 *ℤ q1 +ℤ pos 0 *ℤ r1) *ℤ (pos 1 *ℤ p1 +ℤ pos 0 *ℤ q1 +ℤ pos 0 *ℤ r1) +ℤ
    (pos 1 *ℤ p2 +ℤ pos 0 *ℤ q2 +ℤ pos 0 *ℤ r2) *ℤ (pos 1 *ℤ p2 +ℤ pos 0 *ℤ q2 +ℤ pos 0 *ℤ r2) +ℤ
    (pos 1 *ℤ p3 +ℤ pos 0 *ℤ q3 +ℤ pos 0 *ℤ r3) *ℤ (pos 1 *ℤ p3 +ℤ pos 0 *ℤ q3 +ℤ pos 0 *ℤ r3)) ≡ R -ℤ (p1 *ℤ p1 +ℤ p2 *ℤ p2 +ℤ p3 *ℤ p3)
corner_room R p1 p2 p3 q1 q2 q3 r1 r2 r3 =
    alike (R ∷ p1 ∷ p2 ∷ p3 ∷ q1 ∷ q2 ∷ q3 ∷ r1 ∷ r2 ∷ r3 ∷ []) (var 0 ⊗
    ((num (pos 1) ⊕ num (pos 0) ⊕ num (pos 0)) ⊗ (num (pos 1) ⊕ num (pos 0) ⊕ num (pos 0))) ⊖
    ((num (pos 1) ⊗ var 1 ⊕ num (pos 0) ⊗ var 4 ⊕ num (pos 0) ⊗ var 7) ⊗ (num (pos 1) ⊗ var 1 ⊕ num (pos 0) ⊗ var 4 ⊕ num (pos 0) ⊗ var 7) ⊕
    (num (pos 1) ⊗ var 2 ⊕ num (pos 0) ⊗ var 5 ⊕ num (pos 0) ⊗ var 8) ⊗ (num (pos 1) ⊗ var 2 ⊕ num (pos 0) ⊗ var 5 ⊕ num (pos 0) ⊗ var 8) ⊕
    (num (pos 1) ⊗ var 3 ⊕ num (pos 0) ⊗ var 6 ⊕ num (pos 0) ⊗ var 9) ⊗ (num (pos 1) ⊗ var 3 ⊕ num (pos 0) ⊗ var 6 ⊕ num (pos 0) ⊗ var 9)))
    (var 0 ⊖ (var 1 ⊗ var 1 ⊕ var 2 ⊗ var 2 ⊕ var 3 ⊗ var 3)) refl

pub corner_sum : (p q r : ℤ) → pos 1 *ℤ p +ℤ pos 0 *ℤ q +ℤ pos 0 *ℤ r ≡ p
corner_sum p q r = alike (p ∷ q ∷ r ∷ []) (num (pos 1) ⊗ var 0 ⊕ num (pos 0) ⊗ var 1 ⊕ num (pos 0) ⊗ var 2) (var 0) refl

pub crossing_down : (R f g p1 p2 p3 q1 q2 q3 r1 r2 r3 : ℤ) → R *ℤ ((g +ℤ neg_ℤ f +ℤ pos 0) *ℤ (g +ℤ neg_ℤ f +ℤ pos 0)) -ℤ
    ((g *ℤ p1 +ℤ neg_ℤ f *ℤ q1 +ℤ pos 0 *ℤ r1) *ℤ (g *ℤ p1 +ℤ neg_ℤ f *ℤ q1 +ℤ pos 0 *ℤ r1) +ℤ (g *ℤ p2 +ℤ neg_ℤ f *ℤ q2 +ℤ pos 0 *ℤ r2) *ℤ
    (g *ℤ p2 +ℤ neg_ℤ f *ℤ q2 +ℤ pos 0 *ℤ r2) +ℤ (g *ℤ p3 +ℤ neg_ℤ f *ℤ q3 +ℤ pos 0 *ℤ r3) *ℤ (g *ℤ p3 +ℤ neg_ℤ f *ℤ q3 +ℤ pos 0 *ℤ r3))
    ≡ R *ℤ
    ((f -ℤ g) *ℤ (f -ℤ g)) -ℤ ((f *ℤ q1 -ℤ g *ℤ p1) *ℤ (f *ℤ q1 -ℤ g *ℤ p1) +ℤ (f *ℤ q2 -ℤ g *ℤ p2) *ℤ (f *ℤ q2 -ℤ g *ℤ p2) +ℤ
    (f *ℤ q3 -ℤ g *ℤ p3) *ℤ (f *ℤ q3 -ℤ g *ℤ p3))
crossing_down R f g p1 p2 p3 q1 q2 q3 r1 r2 r3 =
    alike (R ∷ f ∷ g ∷ p1 ∷ p2 ∷ p3 ∷ q1 ∷ q2 ∷ q3 ∷ r1 ∷ r2 ∷ r3 ∷ [])
    (var 0 ⊗ ((var 2 ⊕ opp (var 1) ⊕ num (pos 0)) ⊗ (var 2 ⊕ opp (var 1) ⊕ num (pos 0))) ⊖
    ((var 2 ⊗ var 3 ⊕ opp (var 1) ⊗ var 6 ⊕ num (pos 0) ⊗ var 9) ⊗ (var 2 ⊗ var 3 ⊕ opp (var 1) ⊗ var 6 ⊕ num (pos 0) ⊗ var 9) ⊕
    (var 2 ⊗ var 4 ⊕ opp (var 1) ⊗ var 7 ⊕ num (pos 0) ⊗ var 10) ⊗ (var 2 ⊗ var 4 ⊕ opp (var 1) ⊗ var 7 ⊕ num (pos 0) ⊗ var 10) ⊕
    (var 2 ⊗ var 5 ⊕ opp (var 1) ⊗ var 8 ⊕ num (pos 0) ⊗ var 11) ⊗ (var 2 ⊗ var 5 ⊕ opp (var 1) ⊗ var 8 ⊕ num (pos 0) ⊗ var 11)))
    (var 0 ⊗ ((var 1 ⊖ var 2) ⊗ (var 1 ⊖ var 2)) ⊖ ((var 1 ⊗ var 6 ⊖ var 2 ⊗ var 3) ⊗ (var 1 ⊗ var 6 ⊖ var 2 ⊗ var 3) ⊕
    (var 1 ⊗ var 7 ⊖ var 2 ⊗ var 4) ⊗ (var 1 ⊗ var 7 ⊖ var 2 ⊗ var 4) ⊕ (var 1 ⊗ var 8 ⊖ var 2 ⊗ var 5) ⊗ (var 1 ⊗ var 8 ⊖ var 2 ⊗ var 5)))
    refl

pub crossing_up : (R f g p1 p2 p3 q1 q2 q3 r1 r2 r3 : ℤ) → R *ℤ ((neg_ℤ g +ℤ f +ℤ pos 0) *ℤ (neg_ℤ g +ℤ f +ℤ pos 0)) -ℤ
    ((neg_ℤ g *ℤ p1 +ℤ f *ℤ q1 +ℤ pos 0 *ℤ r1) *ℤ (neg_ℤ g *ℤ p1 +ℤ f *ℤ q1 +ℤ pos 0 *ℤ r1) +ℤ (neg_ℤ g *ℤ p2 +ℤ f *ℤ q2 +ℤ pos 0 *ℤ r2) *ℤ
    (neg_ℤ g *ℤ p2 +ℤ f *ℤ q2 +ℤ pos 0 *ℤ r2) +ℤ (neg_ℤ g *ℤ p3 +ℤ f *ℤ q3 +ℤ pos 0 *ℤ r3) *ℤ (neg_ℤ g *ℤ p3 +ℤ f *ℤ q3 +ℤ pos 0 *ℤ r3))
    ≡ R *ℤ
    ((f -ℤ g) *ℤ (f -ℤ g)) -ℤ ((f *ℤ q1 -ℤ g *ℤ p1) *ℤ (f *ℤ q1 -ℤ g *ℤ p1) +ℤ (f *ℤ q2 -ℤ g *ℤ p2) *ℤ (f *ℤ q2 -ℤ g *ℤ p2) +ℤ
    (f *ℤ q3 -ℤ g *ℤ p3) *ℤ (f *ℤ q3 -ℤ g *ℤ p3))
crossing_up R f g p1 p2 p3 q1 q2 q3 r1 r2 r3 =
    alike (R ∷ f ∷ g ∷ p1 ∷ p2 ∷ p3 ∷ q1 ∷ q2 ∷ q3 ∷ r1 ∷ r2 ∷ r3 ∷ [])
    (var 0 ⊗ ((opp (var 2) ⊕ var 1 ⊕ num (pos 0)) ⊗ (opp (var 2) ⊕ var 1 ⊕ num (pos 0))) ⊖
    ((opp (var 2) ⊗ var 3 ⊕ var 1 ⊗ var 6 ⊕ num (pos 0) ⊗ var 9) ⊗ (opp (var 2) ⊗ var 3 ⊕ var 1 ⊗ var 6 ⊕ num (pos 0) ⊗ var 9) ⊕
    (opp (var 2) ⊗ var 4 ⊕ var 1 ⊗ var 7 ⊕ num (pos 0) ⊗ var 10) ⊗ (opp (var 2) ⊗ var 4 ⊕ var 1 ⊗ var 7 ⊕ num (pos 0) ⊗ var 10) ⊕
    (opp (var 2) ⊗ var 5 ⊕ var 1 ⊗ var 8 ⊕ num (pos 0) ⊗ var 11) ⊗ (opp (var 2) ⊗ var 5 ⊕ var 1 ⊗ var 8 ⊕ num (pos 0) ⊗ var 11)))
    (var 0 ⊗ ((var 1 ⊖ var 2) ⊗ (var 1 ⊖ var 2)) ⊖ ((var 1 ⊗ var 6 ⊖ var 2 ⊗ var 3) ⊗ (var 1 ⊗ var 6 ⊖ var 2 ⊗ var 3) ⊕
    (var 1 ⊗ var 7 ⊖ var 2 ⊗ var 4) ⊗ (var 1 ⊗ var 7 ⊖ var 2 ⊗ var 4) ⊕ (var 1 ⊗ var 8 ⊖ var 2 ⊗ var 5) ⊗ (var 1 ⊗ var 8 ⊖ var 2 ⊗ var 5)))
    refl

pub crossing_zero_down : (f g h : ℤ) → g *ℤ f +ℤ neg_ℤ f *ℤ g +ℤ pos 0 *ℤ h ≡ pos 0
crossing_zero_down f g h = alike (f ∷ g ∷ h ∷ []) (var 1 ⊗ var 0 ⊕ opp (var 0) ⊗ var 1 ⊕ num (pos 0) ⊗ var 2) (num (pos 0)) refl

pub crossing_zero_up : (f g h : ℤ) → neg_ℤ g *ℤ f +ℤ f *ℤ g +ℤ pos 0 *ℤ h ≡ pos 0
crossing_zero_up f g h = alike (f ∷ g ∷ h ∷ []) (opp (var 1) ⊗ var 0 ⊕ var 0 ⊗ var 1 ⊕ num (pos 0) ⊗ var 2) (num (pos 0)) refl

pub share_first_down : (i j f g h : ℤ) → (i +ℤ j +ℤ pos 0) *ℤ g ≡ (g +ℤ neg_ℤ f) *ℤ i +ℤ (i *ℤ f +ℤ j *ℤ g +ℤ pos 0 *ℤ h)
share_first_down i j f g h =
    alike (i ∷ j ∷ f ∷ g ∷ h ∷ []) ((var 0 ⊕ var 1 ⊕ num (pos 0)) ⊗ var 3)
    ((var 3 ⊕ opp (var 2)) ⊗ var 0 ⊕ (var 0 ⊗ var 2 ⊕ var 1 ⊗ var 3 ⊕ num (pos 0) ⊗ var 4)) refl

pub share_second_down : (i j f g h : ℤ) → (i +ℤ j +ℤ pos 0) *ℤ neg_ℤ f +ℤ (i *ℤ f +ℤ j *ℤ g +ℤ pos 0 *ℤ h) ≡ (g +ℤ neg_ℤ f) *ℤ j
share_second_down i j f g h =
    alike (i ∷ j ∷ f ∷ g ∷ h ∷ []) ((var 0 ⊕ var 1 ⊕ num (pos 0)) ⊗ opp (var 2) ⊕ (var 0 ⊗ var 2 ⊕ var 1 ⊗ var 3 ⊕ num (pos 0) ⊗ var 4))
    ((var 3 ⊕ opp (var 2)) ⊗ var 1) refl

pub share_first_up : (i j f g h : ℤ) → (i +ℤ j +ℤ pos 0) *ℤ neg_ℤ g +ℤ (i *ℤ f +ℤ j *ℤ g +ℤ pos 0 *ℤ h) ≡ (f +ℤ neg_ℤ g) *ℤ i
share_first_up i j f g h =
    alike (i ∷ j ∷ f ∷ g ∷ h ∷ []) ((var 0 ⊕ var 1 ⊕ num (pos 0)) ⊗ opp (var 3) ⊕ (var 0 ⊗ var 2 ⊕ var 1 ⊗ var 3 ⊕ num (pos 0) ⊗ var 4))
    ((var 2 ⊕ opp (var 3)) ⊗ var 0) refl

pub share_second_up : (i j f g h : ℤ) → (i +ℤ j +ℤ pos 0) *ℤ f ≡ (f +ℤ neg_ℤ g) *ℤ j +ℤ (i *ℤ f +ℤ j *ℤ g +ℤ pos 0 *ℤ h)
share_second_up i j f g h =
    alike (i ∷ j ∷ f ∷ g ∷ h ∷ []) ((var 0 ⊕ var 1 ⊕ num (pos 0)) ⊗ var 2)
    ((var 2 ⊕ opp (var 3)) ⊗ var 1 ⊕ (var 0 ⊗ var 2 ⊕ var 1 ⊗ var 3 ⊕ num (pos 0) ⊗ var 4)) refl

pub share_third : (i j f g : ℤ) → (i +ℤ j +ℤ pos 0) *ℤ pos 0 ≡ (f +ℤ neg_ℤ g) *ℤ pos 0
share_third i j f g = alike (i ∷ j ∷ f ∷ g ∷ []) ((var 0 ⊕ var 1 ⊕ num (pos 0)) ⊗ num (pos 0)) ((var 2 ⊕ opp (var 3)) ⊗ num (pos 0)) refl

pub one_corner : (i : ℤ) → i +ℤ pos 0 +ℤ pos 0 ≡ i
one_corner i = alike (i ∷ []) (var 0 ⊕ num (pos 0) ⊕ num (pos 0)) (var 0) refl

pub minus_share : (i j f g h : ℤ) → i *ℤ neg_ℤ f +ℤ j *ℤ neg_ℤ g ≡ neg_ℤ (i *ℤ f +ℤ j *ℤ g +ℤ pos 0 *ℤ h)
minus_share i j f g h =
    alike (i ∷ j ∷ f ∷ g ∷ h ∷ []) (var 0 ⊗ opp (var 2) ⊕ var 1 ⊗ opp (var 3))
    (opp (var 0 ⊗ var 2 ⊕ var 1 ⊗ var 3 ⊕ num (pos 0) ⊗ var 4)) refl

pub plus_share : (i j f g h : ℤ) → i *ℤ f +ℤ j *ℤ g ≡ i *ℤ f +ℤ j *ℤ g +ℤ pos 0 *ℤ h
plus_share i j f g h =
    alike (i ∷ j ∷ f ∷ g ∷ h ∷ []) (var 0 ⊗ var 2 ⊕ var 1 ⊗ var 3) (var 0 ⊗ var 2 ⊕ var 1 ⊗ var 3 ⊕ num (pos 0) ⊗ var 4) refl

pub difference_down : (f g : ℤ) → g +ℤ neg_ℤ f ≡ neg_ℤ f +ℤ g
difference_down f g = alike (f ∷ g ∷ []) (var 1 ⊕ opp (var 0)) (opp (var 0) ⊕ var 1) refl

pub nothing : (u v e : ℤ) → u *ℤ pos 0 +ℤ v *ℤ pos 0 +ℤ pos 0 *ℤ e ≡ pos 0
nothing u v e = alike (u ∷ v ∷ e ∷ []) (var 0 ⊗ num (pos 0) ⊕ var 1 ⊗ num (pos 0) ⊕ num (pos 0) ⊗ var 2) (num (pos 0)) refl

-- directions in the plane
pub own_level : (u1 u2 u3 : ℤ) → (u2 -ℤ u3) *ℤ u1 +ℤ (u3 -ℤ u1) *ℤ u2 +ℤ (u1 -ℤ u2) *ℤ u3 ≡ pos 0
own_level u1 u2 u3 =
    alike (u1 ∷ u2 ∷ u3 ∷ []) ((var 1 ⊖ var 2) ⊗ var 0 ⊕ (var 2 ⊖ var 0) ⊗ var 1 ⊕ (var 0 ⊖ var 1) ⊗ var 2) (num (pos 0)) refl

pub level_total : (u1 u2 u3 : ℤ) → u2 -ℤ u3 +ℤ (u3 -ℤ u1) +ℤ (u1 -ℤ u2) ≡ pos 0
level_total u1 u2 u3 = alike (u1 ∷ u2 ∷ u3 ∷ []) (var 1 ⊖ var 2 ⊕ (var 2 ⊖ var 0) ⊕ (var 0 ⊖ var 1)) (num (pos 0)) refl

pub level_back : (u1 u2 u3 v1 v2 v3 : ℤ) → (u2 -ℤ u3) *ℤ v1 +ℤ (u3 -ℤ u1) *ℤ v2 +ℤ (u1 -ℤ u2) *ℤ v3 ≡ neg_ℤ
    ((v2 -ℤ v3) *ℤ u1 +ℤ (v3 -ℤ v1) *ℤ u2 +ℤ (v1 -ℤ v2) *ℤ u3)
level_back u1 u2 u3 v1 v2 v3 =
    alike (u1 ∷ u2 ∷ u3 ∷ v1 ∷ v2 ∷ v3 ∷ []) ((var 1 ⊖ var 2) ⊗ var 3 ⊕ (var 2 ⊖ var 0) ⊗ var 4 ⊕ (var 0 ⊖ var 1) ⊗ var 5)
    (opp ((var 4 ⊖ var 5) ⊗ var 0 ⊕ (var 5 ⊖ var 3) ⊗ var 1 ⊕ (var 3 ⊖ var 4) ⊗ var 2)) refl

pub toward_sum : (p q r : ℤ) → negsuc 0 *ℤ p +ℤ pos 1 *ℤ q +ℤ pos 0 *ℤ r ≡ q -ℤ p
toward_sum p q r = alike (p ∷ q ∷ r ∷ []) (num (negsuc 0) ⊗ var 0 ⊕ num (pos 1) ⊗ var 1 ⊕ num (pos 0) ⊗ var 2) (var 1 ⊖ var 0) refl

pub disc_axis : (R D : ℤ) → R *ℤ (D *ℤ D) -ℤ (pos 0 *ℤ pos 0 +ℤ pos 0 *ℤ pos 0 +ℤ pos 0 *ℤ pos 0) ≡ R *ℤ (D *ℤ D)
disc_axis R D =
    alike (R ∷ D ∷ []) (var 0 ⊗ (var 1 ⊗ var 1) ⊖ (num (pos 0) ⊗ num (pos 0) ⊕ num (pos 0) ⊗ num (pos 0) ⊕ num (pos 0) ⊗ num (pos 0)))
    (var 0 ⊗ (var 1 ⊗ var 1)) refl

pub negated_sum : (i j k p q r : ℤ) → neg_ℤ i *ℤ p +ℤ neg_ℤ j *ℤ q +ℤ neg_ℤ k *ℤ r ≡ neg_ℤ (i *ℤ p +ℤ j *ℤ q +ℤ k *ℤ r)
negated_sum i j k p q r =
    alike (i ∷ j ∷ k ∷ p ∷ q ∷ r ∷ []) (opp (var 0) ⊗ var 3 ⊕ opp (var 1) ⊗ var 4 ⊕ opp (var 2) ⊗ var 5)
    (opp (var 0 ⊗ var 3 ⊕ var 1 ⊗ var 4 ⊕ var 2 ⊗ var 5)) refl

pub negated_total : (i j k : ℤ) → neg_ℤ i +ℤ neg_ℤ j +ℤ neg_ℤ k ≡ neg_ℤ (i +ℤ j +ℤ k)
negated_total i j k = alike (i ∷ j ∷ k ∷ []) (opp (var 0) ⊕ opp (var 1) ⊕ opp (var 2)) (opp (var 0 ⊕ var 1 ⊕ var 2)) refl

pub level_affine : (S N u1 u2 u3 : ℤ) → (u2 -ℤ u3) *ℤ (S *ℤ u1 -ℤ N) +ℤ (u3 -ℤ u1) *ℤ (S *ℤ u2 -ℤ N) +ℤ (u1 -ℤ u2) *ℤ (S *ℤ u3 -ℤ N) ≡ pos 0
level_affine S N u1 u2 u3 =
    alike (S ∷ N ∷ u1 ∷ u2 ∷ u3 ∷ []) ((var 3 ⊖ var 4) ⊗ (var 0 ⊗ var 2 ⊖ var 1) ⊕ (var 4 ⊖ var 2) ⊗ (var 0 ⊗ var 3 ⊖ var 1) ⊕
    (var 2 ⊖ var 3) ⊗ (var 0 ⊗ var 4 ⊖ var 1)) (num (pos 0)) refl

pub even_sum : (i j k f : ℤ) → i *ℤ f +ℤ j *ℤ f +ℤ k *ℤ f ≡ f *ℤ (i +ℤ j +ℤ k)
even_sum i j k f = alike (i ∷ j ∷ k ∷ f ∷ []) (var 0 ⊗ var 3 ⊕ var 1 ⊗ var 3 ⊕ var 2 ⊗ var 3) (var 3 ⊗ (var 0 ⊕ var 1 ⊕ var 2)) refl

pub level_affine_back : (S N u1 u2 u3 : ℤ) → (u2 -ℤ u3) *ℤ (S *ℤ neg_ℤ u1 -ℤ N) +ℤ (u3 -ℤ u1) *ℤ (S *ℤ neg_ℤ u2 -ℤ N) +ℤ (u1 -ℤ u2) *ℤ
    (S *ℤ neg_ℤ u3 -ℤ N) ≡ pos 0
level_affine_back S N u1 u2 u3 =
    alike (S ∷ N ∷ u1 ∷ u2 ∷ u3 ∷ []) ((var 3 ⊖ var 4) ⊗ (var 0 ⊗ opp (var 2) ⊖ var 1) ⊕ (var 4 ⊖ var 2) ⊗ (var 0 ⊗ opp (var 3) ⊖ var 1) ⊕
    (var 2 ⊖ var 3) ⊗ (var 0 ⊗ opp (var 4) ⊖ var 1)) (num (pos 0)) refl

pub minus_back : (u v : ℤ) → v -ℤ u ≡ neg_ℤ (u -ℤ v)
minus_back u v = alike (u ∷ v ∷ []) (var 1 ⊖ var 0) (opp (var 0 ⊖ var 1)) refl

pub high_form : (S F h : ℤ) → F -ℤ S *ℤ h ≡ S *ℤ neg_ℤ h -ℤ neg_ℤ F
high_form S F h = alike (S ∷ F ∷ h ∷ []) (var 1 ⊖ var 0 ⊗ var 2) (var 0 ⊗ opp (var 2) ⊖ opp (var 1)) refl

-- the axis in the plane
pub axis_x : (p1 p2 p3 q1 q2 q3 r1 r2 r3 d1 d2 d3 : ℤ) → ((q2 *ℤ r3 -ℤ q3 *ℤ r2) *ℤ d1 +ℤ (q3 *ℤ r1 -ℤ q1 *ℤ r3) *ℤ d2 +ℤ
    (q1 *ℤ r2 -ℤ q2 *ℤ r1) *ℤ d3) *ℤ (p2 *ℤ d3 -ℤ p3 *ℤ d2) +ℤ ((r2 *ℤ p3 -ℤ r3 *ℤ p2) *ℤ d1 +ℤ (r3 *ℤ p1 -ℤ r1 *ℤ p3) *ℤ d2 +ℤ
    (r1 *ℤ p2 -ℤ r2 *ℤ p1) *ℤ d3) *ℤ (q2 *ℤ d3 -ℤ q3 *ℤ d2) +ℤ ((p2 *ℤ q3 -ℤ p3 *ℤ q2) *ℤ d1 +ℤ (p3 *ℤ q1 -ℤ p1 *ℤ q3) *ℤ d2 +ℤ
    (p1 *ℤ q2 -ℤ p2 *ℤ q1) *ℤ d3) *ℤ (r2 *ℤ d3 -ℤ r3 *ℤ d2) ≡ pos 0
axis_x p1 p2 p3 q1 q2 q3 r1 r2 r3 d1 d2 d3 =
    alike (p1 ∷ p2 ∷ p3 ∷ q1 ∷ q2 ∷ q3 ∷ r1 ∷ r2 ∷ r3 ∷ d1 ∷ d2 ∷ d3 ∷ [])
    (((var 4 ⊗ var 8 ⊖ var 5 ⊗ var 7) ⊗ var 9 ⊕ (var 5 ⊗ var 6 ⊖ var 3 ⊗ var 8) ⊗ var 10 ⊕ (var 3 ⊗ var 7 ⊖ var 4 ⊗ var 6) ⊗ var 11) ⊗
    (var 1 ⊗ var 11 ⊖ var 2 ⊗ var 10) ⊕ ((var 7 ⊗ var 2 ⊖ var 8 ⊗ var 1) ⊗ var 9 ⊕ (var 8 ⊗ var 0 ⊖ var 6 ⊗ var 2) ⊗ var 10 ⊕
    (var 6 ⊗ var 1 ⊖ var 7 ⊗ var 0) ⊗ var 11) ⊗ (var 4 ⊗ var 11 ⊖ var 5 ⊗ var 10) ⊕
    ((var 1 ⊗ var 5 ⊖ var 2 ⊗ var 4) ⊗ var 9 ⊕ (var 2 ⊗ var 3 ⊖ var 0 ⊗ var 5) ⊗ var 10 ⊕ (var 0 ⊗ var 4 ⊖ var 1 ⊗ var 3) ⊗ var 11) ⊗
    (var 7 ⊗ var 11 ⊖ var 8 ⊗ var 10)) (num (pos 0)) refl

pub axis_y : (p1 p2 p3 q1 q2 q3 r1 r2 r3 d1 d2 d3 : ℤ) → ((q2 *ℤ r3 -ℤ q3 *ℤ r2) *ℤ d1 +ℤ (q3 *ℤ r1 -ℤ q1 *ℤ r3) *ℤ d2 +ℤ
    (q1 *ℤ r2 -ℤ q2 *ℤ r1) *ℤ d3) *ℤ (p3 *ℤ d1 -ℤ p1 *ℤ d3) +ℤ ((r2 *ℤ p3 -ℤ r3 *ℤ p2) *ℤ d1 +ℤ (r3 *ℤ p1 -ℤ r1 *ℤ p3) *ℤ d2 +ℤ
    (r1 *ℤ p2 -ℤ r2 *ℤ p1) *ℤ d3) *ℤ (q3 *ℤ d1 -ℤ q1 *ℤ d3) +ℤ ((p2 *ℤ q3 -ℤ p3 *ℤ q2) *ℤ d1 +ℤ (p3 *ℤ q1 -ℤ p1 *ℤ q3) *ℤ d2 +ℤ
    (p1 *ℤ q2 -ℤ p2 *ℤ q1) *ℤ d3) *ℤ (r3 *ℤ d1 -ℤ r1 *ℤ d3) ≡ pos 0
axis_y p1 p2 p3 q1 q2 q3 r1 r2 r3 d1 d2 d3 =
    alike (p1 ∷ p2 ∷ p3 ∷ q1 ∷ q2 ∷ q3 ∷ r1 ∷ r2 ∷ r3 ∷ d1 ∷ d2 ∷ d3 ∷ [])
    (((var 4 ⊗ var 8 ⊖ var 5 ⊗ var 7) ⊗ var 9 ⊕ (var 5 ⊗ var 6 ⊖ var 3 ⊗ var 8) ⊗ var 10 ⊕ (var 3 ⊗ var 7 ⊖ var 4 ⊗ var 6) ⊗ var 11) ⊗
    (var 2 ⊗ var 9 ⊖ var 0 ⊗ var 11) ⊕ ((var 7 ⊗ var 2 ⊖ var 8 ⊗ var 1) ⊗ var 9 ⊕ (var 8 ⊗ var 0 ⊖ var 6 ⊗ var 2) ⊗ var 10 ⊕
    (var 6 ⊗ var 1 ⊖ var 7 ⊗ var 0) ⊗ var 11) ⊗ (var 5 ⊗ var 9 ⊖ var 3 ⊗ var 11) ⊕
    ((var 1 ⊗ var 5 ⊖ var 2 ⊗ var 4) ⊗ var 9 ⊕ (var 2 ⊗ var 3 ⊖ var 0 ⊗ var 5) ⊗ var 10 ⊕ (var 0 ⊗ var 4 ⊖ var 1 ⊗ var 3) ⊗ var 11) ⊗
    (var 8 ⊗ var 9 ⊖ var 6 ⊗ var 11)) (num (pos 0)) refl

pub axis_z : (p1 p2 p3 q1 q2 q3 r1 r2 r3 d1 d2 d3 : ℤ) → ((q2 *ℤ r3 -ℤ q3 *ℤ r2) *ℤ d1 +ℤ (q3 *ℤ r1 -ℤ q1 *ℤ r3) *ℤ d2 +ℤ
    (q1 *ℤ r2 -ℤ q2 *ℤ r1) *ℤ d3) *ℤ (p1 *ℤ d2 -ℤ p2 *ℤ d1) +ℤ ((r2 *ℤ p3 -ℤ r3 *ℤ p2) *ℤ d1 +ℤ (r3 *ℤ p1 -ℤ r1 *ℤ p3) *ℤ d2 +ℤ
    (r1 *ℤ p2 -ℤ r2 *ℤ p1) *ℤ d3) *ℤ (q1 *ℤ d2 -ℤ q2 *ℤ d1) +ℤ ((p2 *ℤ q3 -ℤ p3 *ℤ q2) *ℤ d1 +ℤ (p3 *ℤ q1 -ℤ p1 *ℤ q3) *ℤ d2 +ℤ
    (p1 *ℤ q2 -ℤ p2 *ℤ q1) *ℤ d3) *ℤ (r1 *ℤ d2 -ℤ r2 *ℤ d1) ≡ pos 0
axis_z p1 p2 p3 q1 q2 q3 r1 r2 r3 d1 d2 d3 =
    alike (p1 ∷ p2 ∷ p3 ∷ q1 ∷ q2 ∷ q3 ∷ r1 ∷ r2 ∷ r3 ∷ d1 ∷ d2 ∷ d3 ∷ [])
    (((var 4 ⊗ var 8 ⊖ var 5 ⊗ var 7) ⊗ var 9 ⊕ (var 5 ⊗ var 6 ⊖ var 3 ⊗ var 8) ⊗ var 10 ⊕ (var 3 ⊗ var 7 ⊖ var 4 ⊗ var 6) ⊗ var 11) ⊗
    (var 0 ⊗ var 10 ⊖ var 1 ⊗ var 9) ⊕ ((var 7 ⊗ var 2 ⊖ var 8 ⊗ var 1) ⊗ var 9 ⊕ (var 8 ⊗ var 0 ⊖ var 6 ⊗ var 2) ⊗ var 10 ⊕
    (var 6 ⊗ var 1 ⊖ var 7 ⊗ var 0) ⊗ var 11) ⊗ (var 3 ⊗ var 10 ⊖ var 4 ⊗ var 9) ⊕
    ((var 1 ⊗ var 5 ⊖ var 2 ⊗ var 4) ⊗ var 9 ⊕ (var 2 ⊗ var 3 ⊖ var 0 ⊗ var 5) ⊗ var 10 ⊕ (var 0 ⊗ var 4 ⊖ var 1 ⊗ var 3) ⊗ var 11) ⊗
    (var 6 ⊗ var 10 ⊖ var 7 ⊗ var 9)) (num (pos 0)) refl

pub flat_yz : (p1 p2 p3 q1 q2 q3 r1 r2 r3 d1 d2 d3 : ℤ) → (q3 *ℤ d1 -ℤ q1 *ℤ d3 -ℤ (r3 *ℤ d1 -ℤ r1 *ℤ d3)) *ℤ (p1 *ℤ d2 -ℤ p2 *ℤ d1) +ℤ
    (r3 *ℤ d1 -ℤ r1 *ℤ d3 -ℤ (p3 *ℤ d1 -ℤ p1 *ℤ d3)) *ℤ (q1 *ℤ d2 -ℤ q2 *ℤ d1) +ℤ (p3 *ℤ d1 -ℤ p1 *ℤ d3 -ℤ (q3 *ℤ d1 -ℤ q1 *ℤ d3)) *ℤ
    (r1 *ℤ d2 -ℤ r2 *ℤ d1) ≡ ((q2 *ℤ r3 -ℤ q3 *ℤ r2) *ℤ d1 +ℤ (q3 *ℤ r1 -ℤ q1 *ℤ r3) *ℤ d2 +ℤ (q1 *ℤ r2 -ℤ q2 *ℤ r1) *ℤ d3 +ℤ
    ((r2 *ℤ p3 -ℤ r3 *ℤ p2) *ℤ d1 +ℤ (r3 *ℤ p1 -ℤ r1 *ℤ p3) *ℤ d2 +ℤ (r1 *ℤ p2 -ℤ r2 *ℤ p1) *ℤ d3) +ℤ
    ((p2 *ℤ q3 -ℤ p3 *ℤ q2) *ℤ d1 +ℤ (p3 *ℤ q1 -ℤ p1 *ℤ q3) *ℤ d2 +ℤ (p1 *ℤ q2 -ℤ p2 *ℤ q1) *ℤ d3)) *ℤ neg_ℤ d1
flat_yz p1 p2 p3 q1 q2 q3 r1 r2 r3 d1 d2 d3 =
    alike (p1 ∷ p2 ∷ p3 ∷ q1 ∷ q2 ∷ q3 ∷ r1 ∷ r2 ∷ r3 ∷ d1 ∷ d2 ∷ d3 ∷ [])
    ((var 5 ⊗ var 9 ⊖ var 3 ⊗ var 11 ⊖ (var 8 ⊗ var 9 ⊖ var 6 ⊗ var 11)) ⊗ (var 0 ⊗ var 10 ⊖ var 1 ⊗ var 9) ⊕
    (var 8 ⊗ var 9 ⊖ var 6 ⊗ var 11 ⊖ (var 2 ⊗ var 9 ⊖ var 0 ⊗ var 11)) ⊗ (var 3 ⊗ var 10 ⊖ var 4 ⊗ var 9) ⊕
    (var 2 ⊗ var 9 ⊖ var 0 ⊗ var 11 ⊖ (var 5 ⊗ var 9 ⊖ var 3 ⊗ var 11)) ⊗ (var 6 ⊗ var 10 ⊖ var 7 ⊗ var 9))
    (((var 4 ⊗ var 8 ⊖ var 5 ⊗ var 7) ⊗ var 9 ⊕ (var 5 ⊗ var 6 ⊖ var 3 ⊗ var 8) ⊗ var 10 ⊕ (var 3 ⊗ var 7 ⊖ var 4 ⊗ var 6) ⊗ var 11 ⊕
    ((var 7 ⊗ var 2 ⊖ var 8 ⊗ var 1) ⊗ var 9 ⊕ (var 8 ⊗ var 0 ⊖ var 6 ⊗ var 2) ⊗ var 10 ⊕ (var 6 ⊗ var 1 ⊖ var 7 ⊗ var 0) ⊗ var 11) ⊕
    ((var 1 ⊗ var 5 ⊖ var 2 ⊗ var 4) ⊗ var 9 ⊕ (var 2 ⊗ var 3 ⊖ var 0 ⊗ var 5) ⊗ var 10 ⊕ (var 0 ⊗ var 4 ⊖ var 1 ⊗ var 3) ⊗ var 11)) ⊗ opp
    (var 9)) refl

pub flat_zx : (p1 p2 p3 q1 q2 q3 r1 r2 r3 d1 d2 d3 : ℤ) → (q1 *ℤ d2 -ℤ q2 *ℤ d1 -ℤ (r1 *ℤ d2 -ℤ r2 *ℤ d1)) *ℤ (p2 *ℤ d3 -ℤ p3 *ℤ d2) +ℤ
    (r1 *ℤ d2 -ℤ r2 *ℤ d1 -ℤ (p1 *ℤ d2 -ℤ p2 *ℤ d1)) *ℤ (q2 *ℤ d3 -ℤ q3 *ℤ d2) +ℤ (p1 *ℤ d2 -ℤ p2 *ℤ d1 -ℤ (q1 *ℤ d2 -ℤ q2 *ℤ d1)) *ℤ
    (r2 *ℤ d3 -ℤ r3 *ℤ d2) ≡ ((q2 *ℤ r3 -ℤ q3 *ℤ r2) *ℤ d1 +ℤ (q3 *ℤ r1 -ℤ q1 *ℤ r3) *ℤ d2 +ℤ (q1 *ℤ r2 -ℤ q2 *ℤ r1) *ℤ d3 +ℤ
    ((r2 *ℤ p3 -ℤ r3 *ℤ p2) *ℤ d1 +ℤ (r3 *ℤ p1 -ℤ r1 *ℤ p3) *ℤ d2 +ℤ (r1 *ℤ p2 -ℤ r2 *ℤ p1) *ℤ d3) +ℤ
    ((p2 *ℤ q3 -ℤ p3 *ℤ q2) *ℤ d1 +ℤ (p3 *ℤ q1 -ℤ p1 *ℤ q3) *ℤ d2 +ℤ (p1 *ℤ q2 -ℤ p2 *ℤ q1) *ℤ d3)) *ℤ neg_ℤ d2
flat_zx p1 p2 p3 q1 q2 q3 r1 r2 r3 d1 d2 d3 =
    alike (p1 ∷ p2 ∷ p3 ∷ q1 ∷ q2 ∷ q3 ∷ r1 ∷ r2 ∷ r3 ∷ d1 ∷ d2 ∷ d3 ∷ [])
    ((var 3 ⊗ var 10 ⊖ var 4 ⊗ var 9 ⊖ (var 6 ⊗ var 10 ⊖ var 7 ⊗ var 9)) ⊗ (var 1 ⊗ var 11 ⊖ var 2 ⊗ var 10) ⊕
    (var 6 ⊗ var 10 ⊖ var 7 ⊗ var 9 ⊖ (var 0 ⊗ var 10 ⊖ var 1 ⊗ var 9)) ⊗ (var 4 ⊗ var 11 ⊖ var 5 ⊗ var 10) ⊕
    (var 0 ⊗ var 10 ⊖ var 1 ⊗ var 9 ⊖ (var 3 ⊗ var 10 ⊖ var 4 ⊗ var 9)) ⊗ (var 7 ⊗ var 11 ⊖ var 8 ⊗ var 10))
    (((var 4 ⊗ var 8 ⊖ var 5 ⊗ var 7) ⊗ var 9 ⊕ (var 5 ⊗ var 6 ⊖ var 3 ⊗ var 8) ⊗ var 10 ⊕ (var 3 ⊗ var 7 ⊖ var 4 ⊗ var 6) ⊗ var 11 ⊕
    ((var 7 ⊗ var 2 ⊖ var 8 ⊗ var 1) ⊗ var 9 ⊕ (var 8 ⊗ var 0 ⊖ var 6 ⊗ var 2) ⊗ var 10 ⊕ (var 6 ⊗ var 1 ⊖ var 7 ⊗ var 0) ⊗ var 11) ⊕
    ((var 1 ⊗ var 5 ⊖ var 2 ⊗ var 4) ⊗ var 9 ⊕ (var 2 ⊗ var 3 ⊖ var 0 ⊗ var 5) ⊗ var 10 ⊕ (var 0 ⊗ var 4 ⊖ var 1 ⊗ var 3) ⊗ var 11)) ⊗ opp
    (var 10)) refl

pub flat_xy : (p1 p2 p3 q1 q2 q3 r1 r2 r3 d1 d2 d3 : ℤ) → (q2 *ℤ d3 -ℤ q3 *ℤ d2 -ℤ (r2 *ℤ d3 -ℤ r3 *ℤ d2)) *ℤ (p3 *ℤ d1 -ℤ p1 *ℤ d3) +ℤ
    (r2 *ℤ d3 -ℤ r3 *ℤ d2 -ℤ (p2 *ℤ d3 -ℤ p3 *ℤ d2)) *ℤ (q3 *ℤ d1 -ℤ q1 *ℤ d3) +ℤ (p2 *ℤ d3 -ℤ p3 *ℤ d2 -ℤ (q2 *ℤ d3 -ℤ q3 *ℤ d2)) *ℤ
    (r3 *ℤ d1 -ℤ r1 *ℤ d3) ≡ ((q2 *ℤ r3 -ℤ q3 *ℤ r2) *ℤ d1 +ℤ (q3 *ℤ r1 -ℤ q1 *ℤ r3) *ℤ d2 +ℤ (q1 *ℤ r2 -ℤ q2 *ℤ r1) *ℤ d3 +ℤ
    ((r2 *ℤ p3 -ℤ r3 *ℤ p2) *ℤ d1 +ℤ (r3 *ℤ p1 -ℤ r1 *ℤ p3) *ℤ d2 +ℤ (r1 *ℤ p2 -ℤ r2 *ℤ p1) *ℤ d3) +ℤ
    ((p2 *ℤ q3 -ℤ p3 *ℤ q2) *ℤ d1 +ℤ (p3 *ℤ q1 -ℤ p1 *ℤ q3) *ℤ d2 +ℤ (p1 *ℤ q2 -ℤ p2 *ℤ q1) *ℤ d3)) *ℤ neg_ℤ d3
flat_xy p1 p2 p3 q1 q2 q3 r1 r2 r3 d1 d2 d3 =
    alike (p1 ∷ p2 ∷ p3 ∷ q1 ∷ q2 ∷ q3 ∷ r1 ∷ r2 ∷ r3 ∷ d1 ∷ d2 ∷ d3 ∷ [])
    ((var 4 ⊗ var 11 ⊖ var 5 ⊗ var 10 ⊖ (var 7 ⊗ var 11 ⊖ var 8 ⊗ var 10)) ⊗ (var 2 ⊗ var 9 ⊖ var 0 ⊗ var 11) ⊕
    (var 7 ⊗ var 11 ⊖ var 8 ⊗ var 10 ⊖ (var 1 ⊗ var 11 ⊖ var 2 ⊗ var 10)) ⊗ (var 5 ⊗ var 9 ⊖ var 3 ⊗ var 11) ⊕
    (var 1 ⊗ var 11 ⊖ var 2 ⊗ var 10 ⊖ (var 4 ⊗ var 11 ⊖ var 5 ⊗ var 10)) ⊗ (var 8 ⊗ var 9 ⊖ var 6 ⊗ var 11))
    (((var 4 ⊗ var 8 ⊖ var 5 ⊗ var 7) ⊗ var 9 ⊕ (var 5 ⊗ var 6 ⊖ var 3 ⊗ var 8) ⊗ var 10 ⊕ (var 3 ⊗ var 7 ⊖ var 4 ⊗ var 6) ⊗ var 11 ⊕
    ((var 7 ⊗ var 2 ⊖ var 8 ⊗ var 1) ⊗ var 9 ⊕ (var 8 ⊗ var 0 ⊖ var 6 ⊗ var 2) ⊗ var 10 ⊕ (var 6 ⊗ var 1 ⊖ var 7 ⊗ var 0) ⊗ var 11) ⊕
    ((var 1 ⊗ var 5 ⊖ var 2 ⊗ var 4) ⊗ var 9 ⊕ (var 2 ⊗ var 3 ⊖ var 0 ⊗ var 5) ⊗ var 10 ⊕ (var 0 ⊗ var 4 ⊖ var 1 ⊗ var 3) ⊗ var 11)) ⊗ opp
    (var 11)) refl

pub axis_low : (S nu p1 p2 p3 q1 q2 q3 r1 r2 r3 d1 d2 d3 : ℤ) → ((q2 *ℤ r3 -ℤ q3 *ℤ r2) *ℤ d1 +ℤ (q3 *ℤ r1 -ℤ q1 *ℤ r3) *ℤ d2 +ℤ
    (q1 *ℤ r2 -ℤ q2 *ℤ r1) *ℤ d3) *ℤ (S *ℤ (p1 *ℤ d1 +ℤ p2 *ℤ d2 +ℤ p3 *ℤ d3) -ℤ nu *ℤ (d1 *ℤ d1 +ℤ d2 *ℤ d2 +ℤ d3 *ℤ d3)) +ℤ
    ((r2 *ℤ p3 -ℤ r3 *ℤ p2) *ℤ d1 +ℤ (r3 *ℤ p1 -ℤ r1 *ℤ p3) *ℤ d2 +ℤ (r1 *ℤ p2 -ℤ r2 *ℤ p1) *ℤ d3) *ℤ
    (S *ℤ (q1 *ℤ d1 +ℤ q2 *ℤ d2 +ℤ q3 *ℤ d3) -ℤ nu *ℤ (d1 *ℤ d1 +ℤ d2 *ℤ d2 +ℤ d3 *ℤ d3)) +ℤ
    ((p2 *ℤ q3 -ℤ p3 *ℤ q2) *ℤ d1 +ℤ (p3 *ℤ q1 -ℤ p1 *ℤ q3) *ℤ d2 +ℤ (p1 *ℤ q2 -ℤ p2 *ℤ q1) *ℤ d3) *ℤ
    (S *ℤ (r1 *ℤ d1 +ℤ r2 *ℤ d2 +ℤ r3 *ℤ d3) -ℤ nu *ℤ (d1 *ℤ d1 +ℤ d2 *ℤ d2 +ℤ d3 *ℤ d3)) ≡ (d1 *ℤ d1 +ℤ d2 *ℤ d2 +ℤ d3 *ℤ d3) *ℤ
    (S *ℤ ((p2 *ℤ q3 -ℤ p3 *ℤ q2) *ℤ r1 +ℤ (p3 *ℤ q1 -ℤ p1 *ℤ q3) *ℤ r2 +ℤ (p1 *ℤ q2 -ℤ p2 *ℤ q1) *ℤ r3) -ℤ nu *ℤ
    ((q2 *ℤ r3 -ℤ q3 *ℤ r2) *ℤ d1 +ℤ (q3 *ℤ r1 -ℤ q1 *ℤ r3) *ℤ d2 +ℤ (q1 *ℤ r2 -ℤ q2 *ℤ r1) *ℤ d3 +ℤ
    ((r2 *ℤ p3 -ℤ r3 *ℤ p2) *ℤ d1 +ℤ (r3 *ℤ p1 -ℤ r1 *ℤ p3) *ℤ d2 +ℤ (r1 *ℤ p2 -ℤ r2 *ℤ p1) *ℤ d3) +ℤ
    ((p2 *ℤ q3 -ℤ p3 *ℤ q2) *ℤ d1 +ℤ (p3 *ℤ q1 -ℤ p1 *ℤ q3) *ℤ d2 +ℤ (p1 *ℤ q2 -ℤ p2 *ℤ q1) *ℤ d3)))
axis_low S nu p1 p2 p3 q1 q2 q3 r1 r2 r3 d1 d2 d3 =
    alike (S ∷ nu ∷ p1 ∷ p2 ∷ p3 ∷ q1 ∷ q2 ∷ q3 ∷ r1 ∷ r2 ∷ r3 ∷ d1 ∷ d2 ∷ d3 ∷ [])
    (((var 6 ⊗ var 10 ⊖ var 7 ⊗ var 9) ⊗ var 11 ⊕ (var 7 ⊗ var 8 ⊖ var 5 ⊗ var 10) ⊗ var 12 ⊕ (var 5 ⊗ var 9 ⊖ var 6 ⊗ var 8) ⊗ var 13) ⊗
    (var 0 ⊗ (var 2 ⊗ var 11 ⊕ var 3 ⊗ var 12 ⊕ var 4 ⊗ var 13) ⊖ var 1 ⊗ (var 11 ⊗ var 11 ⊕ var 12 ⊗ var 12 ⊕ var 13 ⊗ var 13)) ⊕
    ((var 9 ⊗ var 4 ⊖ var 10 ⊗ var 3) ⊗ var 11 ⊕ (var 10 ⊗ var 2 ⊖ var 8 ⊗ var 4) ⊗ var 12 ⊕ (var 8 ⊗ var 3 ⊖ var 9 ⊗ var 2) ⊗ var 13) ⊗
    (var 0 ⊗ (var 5 ⊗ var 11 ⊕ var 6 ⊗ var 12 ⊕ var 7 ⊗ var 13) ⊖ var 1 ⊗ (var 11 ⊗ var 11 ⊕ var 12 ⊗ var 12 ⊕ var 13 ⊗ var 13)) ⊕
    ((var 3 ⊗ var 7 ⊖ var 4 ⊗ var 6) ⊗ var 11 ⊕ (var 4 ⊗ var 5 ⊖ var 2 ⊗ var 7) ⊗ var 12 ⊕ (var 2 ⊗ var 6 ⊖ var 3 ⊗ var 5) ⊗ var 13) ⊗
    (var 0 ⊗ (var 8 ⊗ var 11 ⊕ var 9 ⊗ var 12 ⊕ var 10 ⊗ var 13) ⊖ var 1 ⊗ (var 11 ⊗ var 11 ⊕ var 12 ⊗ var 12 ⊕ var 13 ⊗ var 13)))
    ((var 11 ⊗ var 11 ⊕ var 12 ⊗ var 12 ⊕ var 13 ⊗ var 13) ⊗ (var 0 ⊗
    ((var 3 ⊗ var 7 ⊖ var 4 ⊗ var 6) ⊗ var 8 ⊕ (var 4 ⊗ var 5 ⊖ var 2 ⊗ var 7) ⊗ var 9 ⊕ (var 2 ⊗ var 6 ⊖ var 3 ⊗ var 5) ⊗ var 10) ⊖ var 1 ⊗
    ((var 6 ⊗ var 10 ⊖ var 7 ⊗ var 9) ⊗ var 11 ⊕ (var 7 ⊗ var 8 ⊖ var 5 ⊗ var 10) ⊗ var 12 ⊕ (var 5 ⊗ var 9 ⊖ var 6 ⊗ var 8) ⊗ var 13 ⊕
    ((var 9 ⊗ var 4 ⊖ var 10 ⊗ var 3) ⊗ var 11 ⊕ (var 10 ⊗ var 2 ⊖ var 8 ⊗ var 4) ⊗ var 12 ⊕ (var 8 ⊗ var 3 ⊖ var 9 ⊗ var 2) ⊗ var 13) ⊕
    ((var 3 ⊗ var 7 ⊖ var 4 ⊗ var 6) ⊗ var 11 ⊕ (var 4 ⊗ var 5 ⊖ var 2 ⊗ var 7) ⊗ var 12 ⊕ (var 2 ⊗ var 6 ⊖ var 3 ⊗ var 5) ⊗ var 13)))) refl

pub axis_high : (S nu p1 p2 p3 q1 q2 q3 r1 r2 r3 d1 d2 d3 : ℤ) → ((q2 *ℤ r3 -ℤ q3 *ℤ r2) *ℤ d1 +ℤ (q3 *ℤ r1 -ℤ q1 *ℤ r3) *ℤ d2 +ℤ
    (q1 *ℤ r2 -ℤ q2 *ℤ r1) *ℤ d3) *ℤ (nu *ℤ (d1 *ℤ d1 +ℤ d2 *ℤ d2 +ℤ d3 *ℤ d3) -ℤ S *ℤ (p1 *ℤ d1 +ℤ p2 *ℤ d2 +ℤ p3 *ℤ d3)) +ℤ
    ((r2 *ℤ p3 -ℤ r3 *ℤ p2) *ℤ d1 +ℤ (r3 *ℤ p1 -ℤ r1 *ℤ p3) *ℤ d2 +ℤ (r1 *ℤ p2 -ℤ r2 *ℤ p1) *ℤ d3) *ℤ
    (nu *ℤ (d1 *ℤ d1 +ℤ d2 *ℤ d2 +ℤ d3 *ℤ d3) -ℤ S *ℤ (q1 *ℤ d1 +ℤ q2 *ℤ d2 +ℤ q3 *ℤ d3)) +ℤ
    ((p2 *ℤ q3 -ℤ p3 *ℤ q2) *ℤ d1 +ℤ (p3 *ℤ q1 -ℤ p1 *ℤ q3) *ℤ d2 +ℤ (p1 *ℤ q2 -ℤ p2 *ℤ q1) *ℤ d3) *ℤ
    (nu *ℤ (d1 *ℤ d1 +ℤ d2 *ℤ d2 +ℤ d3 *ℤ d3) -ℤ S *ℤ (r1 *ℤ d1 +ℤ r2 *ℤ d2 +ℤ r3 *ℤ d3)) ≡ (d1 *ℤ d1 +ℤ d2 *ℤ d2 +ℤ d3 *ℤ d3) *ℤ
    (nu *ℤ ((q2 *ℤ r3 -ℤ q3 *ℤ r2) *ℤ d1 +ℤ (q3 *ℤ r1 -ℤ q1 *ℤ r3) *ℤ d2 +ℤ (q1 *ℤ r2 -ℤ q2 *ℤ r1) *ℤ d3 +ℤ
    ((r2 *ℤ p3 -ℤ r3 *ℤ p2) *ℤ d1 +ℤ (r3 *ℤ p1 -ℤ r1 *ℤ p3) *ℤ d2 +ℤ (r1 *ℤ p2 -ℤ r2 *ℤ p1) *ℤ d3) +ℤ
    ((p2 *ℤ q3 -ℤ p3 *ℤ q2) *ℤ d1 +ℤ (p3 *ℤ q1 -ℤ p1 *ℤ q3) *ℤ d2 +ℤ (p1 *ℤ q2 -ℤ p2 *ℤ q1) *ℤ d3)) -ℤ S *ℤ
    ((p2 *ℤ q3 -ℤ p3 *ℤ q2) *ℤ r1 +ℤ (p3 *ℤ q1 -ℤ p1 *ℤ q3) *ℤ r2 +ℤ (p1 *ℤ q2 -ℤ p2 *ℤ q1) *ℤ r3))
axis_high S nu p1 p2 p3 q1 q2 q3 r1 r2 r3 d1 d2 d3 =
    alike (S ∷ nu ∷ p1 ∷ p2 ∷ p3 ∷ q1 ∷ q2 ∷ q3 ∷ r1 ∷ r2 ∷ r3 ∷ d1 ∷ d2 ∷ d3 ∷ [])
    (((var 6 ⊗ var 10 ⊖ var 7 ⊗ var 9) ⊗ var 11 ⊕ (var 7 ⊗ var 8 ⊖ var 5 ⊗ var 10) ⊗ var 12 ⊕ (var 5 ⊗ var 9 ⊖ var 6 ⊗ var 8) ⊗ var 13) ⊗
    (var 1 ⊗ (var 11 ⊗ var 11 ⊕ var 12 ⊗ var 12 ⊕ var 13 ⊗ var 13) ⊖ var 0 ⊗ (var 2 ⊗ var 11 ⊕ var 3 ⊗ var 12 ⊕ var 4 ⊗ var 13)) ⊕
    ((var 9 ⊗ var 4 ⊖ var 10 ⊗ var 3) ⊗ var 11 ⊕ (var 10 ⊗ var 2 ⊖ var 8 ⊗ var 4) ⊗ var 12 ⊕ (var 8 ⊗ var 3 ⊖ var 9 ⊗ var 2) ⊗ var 13) ⊗
    (var 1 ⊗ (var 11 ⊗ var 11 ⊕ var 12 ⊗ var 12 ⊕ var 13 ⊗ var 13) ⊖ var 0 ⊗ (var 5 ⊗ var 11 ⊕ var 6 ⊗ var 12 ⊕ var 7 ⊗ var 13)) ⊕
    ((var 3 ⊗ var 7 ⊖ var 4 ⊗ var 6) ⊗ var 11 ⊕ (var 4 ⊗ var 5 ⊖ var 2 ⊗ var 7) ⊗ var 12 ⊕ (var 2 ⊗ var 6 ⊖ var 3 ⊗ var 5) ⊗ var 13) ⊗
    (var 1 ⊗ (var 11 ⊗ var 11 ⊕ var 12 ⊗ var 12 ⊕ var 13 ⊗ var 13) ⊖ var 0 ⊗ (var 8 ⊗ var 11 ⊕ var 9 ⊗ var 12 ⊕ var 10 ⊗ var 13)))
    ((var 11 ⊗ var 11 ⊕ var 12 ⊗ var 12 ⊕ var 13 ⊗ var 13) ⊗ (var 1 ⊗
    ((var 6 ⊗ var 10 ⊖ var 7 ⊗ var 9) ⊗ var 11 ⊕ (var 7 ⊗ var 8 ⊖ var 5 ⊗ var 10) ⊗ var 12 ⊕ (var 5 ⊗ var 9 ⊖ var 6 ⊗ var 8) ⊗ var 13 ⊕
    ((var 9 ⊗ var 4 ⊖ var 10 ⊗ var 3) ⊗ var 11 ⊕ (var 10 ⊗ var 2 ⊖ var 8 ⊗ var 4) ⊗ var 12 ⊕ (var 8 ⊗ var 3 ⊖ var 9 ⊗ var 2) ⊗ var 13) ⊕
    ((var 3 ⊗ var 7 ⊖ var 4 ⊗ var 6) ⊗ var 11 ⊕ (var 4 ⊗ var 5 ⊖ var 2 ⊗ var 7) ⊗ var 12 ⊕ (var 2 ⊗ var 6 ⊖ var 3 ⊗ var 5) ⊗ var 13))
    ⊖ var 0 ⊗ ((var 3 ⊗ var 7 ⊖ var 4 ⊗ var 6) ⊗ var 8 ⊕ (var 4 ⊗ var 5 ⊖ var 2 ⊗ var 7) ⊗ var 9 ⊕ (var 2 ⊗ var 6 ⊖ var 3 ⊗ var 5)
    ⊗ var 10))) refl

-- the foot of a cap's centre
pub shares : (i j k p1 p2 p3 q1 q2 q3 r1 r2 r3 e1 e2 e3 : ℤ) → (i *ℤ p1 +ℤ j *ℤ q1 +ℤ k *ℤ r1) *ℤ e1 +ℤ (i *ℤ p2 +ℤ j *ℤ q2 +ℤ k *ℤ r2)
    *ℤ e2 +ℤ (i *ℤ p3 +ℤ j *ℤ q3 +ℤ k *ℤ r3) *ℤ e3 ≡ i *ℤ (p1 *ℤ e1 +ℤ p2 *ℤ e2 +ℤ p3 *ℤ e3) +ℤ j *ℤ (q1 *ℤ e1 +ℤ q2 *ℤ e2 +ℤ q3 *ℤ e3) +ℤ k
    *ℤ (r1 *ℤ e1 +ℤ r2 *ℤ e2 +ℤ r3 *ℤ e3)
shares i j k p1 p2 p3 q1 q2 q3 r1 r2 r3 e1 e2 e3 =
    alike (i ∷ j ∷ k ∷ p1 ∷ p2 ∷ p3 ∷ q1 ∷ q2 ∷ q3 ∷ r1 ∷ r2 ∷ r3 ∷ e1 ∷ e2 ∷ e3 ∷ [])
    ((var 0 ⊗ var 3 ⊕ var 1 ⊗ var 6 ⊕ var 2 ⊗ var 9) ⊗ var 12 ⊕ (var 0 ⊗ var 4 ⊕ var 1 ⊗ var 7 ⊕ var 2 ⊗ var 10) ⊗ var 13 ⊕
    (var 0 ⊗ var 5 ⊕ var 1 ⊗ var 8 ⊕ var 2 ⊗ var 11) ⊗ var 14) (var 0 ⊗ (var 3 ⊗ var 12 ⊕ var 4 ⊗ var 13 ⊕ var 5 ⊗ var 14) ⊕ var 1 ⊗
    (var 6 ⊗ var 12 ⊕ var 7 ⊗ var 13 ⊕ var 8 ⊗ var 14) ⊕ var 2 ⊗ (var 9 ⊗ var 12 ⊕ var 10 ⊗ var 13 ⊕ var 11 ⊗ var 14)) refl

pub chord_first : (i j k s1 s2 s3 t1 t2 t3 S N D : ℤ) → (i +ℤ j +ℤ k) *ℤ D *ℤ (s2 *ℤ (S *ℤ t3 -ℤ N) -ℤ s3 *ℤ (S *ℤ t2 -ℤ N)) ≡ S *ℤ
    (((t2 -ℤ t3) *ℤ (s1 *ℤ D) +ℤ (t3 -ℤ t1) *ℤ (s2 *ℤ D) +ℤ (t1 -ℤ t2) *ℤ (s3 *ℤ D)) *ℤ i +ℤ neg_ℤ
    (i *ℤ (s1 *ℤ D) +ℤ j *ℤ (s2 *ℤ D) +ℤ k *ℤ (s3 *ℤ D)) *ℤ (t2 -ℤ t3)) +ℤ
    (i *ℤ (S *ℤ t1 -ℤ N) +ℤ j *ℤ (S *ℤ t2 -ℤ N) +ℤ k *ℤ (S *ℤ t3 -ℤ N)) *ℤ (D *ℤ (s2 -ℤ s3))
chord_first i j k s1 s2 s3 t1 t2 t3 S N D =
    alike (i ∷ j ∷ k ∷ s1 ∷ s2 ∷ s3 ∷ t1 ∷ t2 ∷ t3 ∷ S ∷ N ∷ D ∷ [])
    ((var 0 ⊕ var 1 ⊕ var 2) ⊗ var 11 ⊗ (var 4 ⊗ (var 9 ⊗ var 8 ⊖ var 10) ⊖ var 5 ⊗ (var 9 ⊗ var 7 ⊖ var 10)))
    (var 9 ⊗ (((var 7 ⊖ var 8) ⊗ (var 3 ⊗ var 11) ⊕ (var 8 ⊖ var 6) ⊗ (var 4 ⊗ var 11) ⊕ (var 6 ⊖ var 7) ⊗ (var 5 ⊗ var 11)) ⊗ var 0 ⊕ opp
    (var 0 ⊗ (var 3 ⊗ var 11) ⊕ var 1 ⊗ (var 4 ⊗ var 11) ⊕ var 2 ⊗ (var 5 ⊗ var 11)) ⊗ (var 7 ⊖ var 8)) ⊕
    (var 0 ⊗ (var 9 ⊗ var 6 ⊖ var 10) ⊕ var 1 ⊗ (var 9 ⊗ var 7 ⊖ var 10) ⊕ var 2 ⊗ (var 9 ⊗ var 8 ⊖ var 10)) ⊗ (var 11 ⊗ (var 4 ⊖ var 5)))
    refl

pub chord_second : (i j k s1 s2 s3 t1 t2 t3 S N D : ℤ) → (i +ℤ j +ℤ k) *ℤ D *ℤ (s3 *ℤ (S *ℤ t1 -ℤ N) -ℤ s1 *ℤ (S *ℤ t3 -ℤ N)) ≡ S *ℤ
    (((t2 -ℤ t3) *ℤ (s1 *ℤ D) +ℤ (t3 -ℤ t1) *ℤ (s2 *ℤ D) +ℤ (t1 -ℤ t2) *ℤ (s3 *ℤ D)) *ℤ j +ℤ neg_ℤ
    (i *ℤ (s1 *ℤ D) +ℤ j *ℤ (s2 *ℤ D) +ℤ k *ℤ (s3 *ℤ D)) *ℤ (t3 -ℤ t1)) +ℤ
    (i *ℤ (S *ℤ t1 -ℤ N) +ℤ j *ℤ (S *ℤ t2 -ℤ N) +ℤ k *ℤ (S *ℤ t3 -ℤ N)) *ℤ (D *ℤ (s3 -ℤ s1))
chord_second i j k s1 s2 s3 t1 t2 t3 S N D =
    alike (i ∷ j ∷ k ∷ s1 ∷ s2 ∷ s3 ∷ t1 ∷ t2 ∷ t3 ∷ S ∷ N ∷ D ∷ [])
    ((var 0 ⊕ var 1 ⊕ var 2) ⊗ var 11 ⊗ (var 5 ⊗ (var 9 ⊗ var 6 ⊖ var 10) ⊖ var 3 ⊗ (var 9 ⊗ var 8 ⊖ var 10)))
    (var 9 ⊗ (((var 7 ⊖ var 8) ⊗ (var 3 ⊗ var 11) ⊕ (var 8 ⊖ var 6) ⊗ (var 4 ⊗ var 11) ⊕ (var 6 ⊖ var 7) ⊗ (var 5 ⊗ var 11)) ⊗ var 1 ⊕ opp
    (var 0 ⊗ (var 3 ⊗ var 11) ⊕ var 1 ⊗ (var 4 ⊗ var 11) ⊕ var 2 ⊗ (var 5 ⊗ var 11)) ⊗ (var 8 ⊖ var 6)) ⊕
    (var 0 ⊗ (var 9 ⊗ var 6 ⊖ var 10) ⊕ var 1 ⊗ (var 9 ⊗ var 7 ⊖ var 10) ⊕ var 2 ⊗ (var 9 ⊗ var 8 ⊖ var 10)) ⊗ (var 11 ⊗ (var 5 ⊖ var 3)))
    refl

pub chord_third : (i j k s1 s2 s3 t1 t2 t3 S N D : ℤ) → (i +ℤ j +ℤ k) *ℤ D *ℤ (s1 *ℤ (S *ℤ t2 -ℤ N) -ℤ s2 *ℤ (S *ℤ t1 -ℤ N)) ≡ S *ℤ
    (((t2 -ℤ t3) *ℤ (s1 *ℤ D) +ℤ (t3 -ℤ t1) *ℤ (s2 *ℤ D) +ℤ (t1 -ℤ t2) *ℤ (s3 *ℤ D)) *ℤ k +ℤ neg_ℤ
    (i *ℤ (s1 *ℤ D) +ℤ j *ℤ (s2 *ℤ D) +ℤ k *ℤ (s3 *ℤ D)) *ℤ (t1 -ℤ t2)) +ℤ
    (i *ℤ (S *ℤ t1 -ℤ N) +ℤ j *ℤ (S *ℤ t2 -ℤ N) +ℤ k *ℤ (S *ℤ t3 -ℤ N)) *ℤ (D *ℤ (s1 -ℤ s2))
chord_third i j k s1 s2 s3 t1 t2 t3 S N D =
    alike (i ∷ j ∷ k ∷ s1 ∷ s2 ∷ s3 ∷ t1 ∷ t2 ∷ t3 ∷ S ∷ N ∷ D ∷ [])
    ((var 0 ⊕ var 1 ⊕ var 2) ⊗ var 11 ⊗ (var 3 ⊗ (var 9 ⊗ var 7 ⊖ var 10) ⊖ var 4 ⊗ (var 9 ⊗ var 6 ⊖ var 10)))
    (var 9 ⊗ (((var 7 ⊖ var 8) ⊗ (var 3 ⊗ var 11) ⊕ (var 8 ⊖ var 6) ⊗ (var 4 ⊗ var 11) ⊕ (var 6 ⊖ var 7) ⊗ (var 5 ⊗ var 11)) ⊗ var 2 ⊕ opp
    (var 0 ⊗ (var 3 ⊗ var 11) ⊕ var 1 ⊗ (var 4 ⊗ var 11) ⊕ var 2 ⊗ (var 5 ⊗ var 11)) ⊗ (var 6 ⊖ var 7)) ⊕
    (var 0 ⊗ (var 9 ⊗ var 6 ⊖ var 10) ⊕ var 1 ⊗ (var 9 ⊗ var 7 ⊖ var 10) ⊕ var 2 ⊗ (var 9 ⊗ var 8 ⊖ var 10)) ⊗ (var 11 ⊗ (var 3 ⊖ var 4)))
    refl

pub cap_total : (s1 s2 s3 t1 t2 t3 S N : ℤ) → s2 *ℤ (S *ℤ t3 -ℤ N) -ℤ s3 *ℤ (S *ℤ t2 -ℤ N) +ℤ (s3 *ℤ (S *ℤ t1 -ℤ N) -ℤ s1 *ℤ (S *ℤ t3 -ℤ N))
    +ℤ (s1 *ℤ (S *ℤ t2 -ℤ N) -ℤ s2 *ℤ (S *ℤ t1 -ℤ N)) ≡ S *ℤ ((t2 -ℤ t3) *ℤ s1 +ℤ (t3 -ℤ t1) *ℤ s2 +ℤ (t1 -ℤ t2) *ℤ s3)
cap_total s1 s2 s3 t1 t2 t3 S N =
    alike (s1 ∷ s2 ∷ s3 ∷ t1 ∷ t2 ∷ t3 ∷ S ∷ N ∷ []) (var 1 ⊗ (var 6 ⊗ var 5 ⊖ var 7) ⊖ var 2 ⊗ (var 6 ⊗ var 4 ⊖ var 7) ⊕
    (var 2 ⊗ (var 6 ⊗ var 3 ⊖ var 7) ⊖ var 0 ⊗ (var 6 ⊗ var 5 ⊖ var 7)) ⊕
    (var 0 ⊗ (var 6 ⊗ var 4 ⊖ var 7) ⊖ var 1 ⊗ (var 6 ⊗ var 3 ⊖ var 7)))
    (var 6 ⊗ ((var 4 ⊖ var 5) ⊗ var 0 ⊕ (var 5 ⊖ var 3) ⊗ var 1 ⊕ (var 3 ⊖ var 4) ⊗ var 2)) refl

pub cap_zero : (s1 s2 s3 f1 f2 f3 : ℤ) → (s2 *ℤ f3 -ℤ s3 *ℤ f2) *ℤ f1 +ℤ (s3 *ℤ f1 -ℤ s1 *ℤ f3) *ℤ f2 +ℤ (s1 *ℤ f2 -ℤ s2 *ℤ f1) *ℤ f3
    ≡ pos 0
cap_zero s1 s2 s3 f1 f2 f3 =
    alike (s1 ∷ s2 ∷ s3 ∷ f1 ∷ f2 ∷ f3 ∷ []) ((var 1 ⊗ var 5 ⊖ var 2 ⊗ var 4) ⊗ var 3 ⊕ (var 2 ⊗ var 3 ⊖ var 0 ⊗ var 5) ⊗ var 4 ⊕
    (var 0 ⊗ var 4 ⊖ var 1 ⊗ var 3) ⊗ var 5) (num (pos 0)) refl

pub cap_room : (ro D S theta g1 g2 g3 : ℤ) → ro *ℤ D *ℤ (S *ℤ (g1 *ℤ g1 +ℤ g2 *ℤ g2 +ℤ g3 *ℤ g3) *ℤ
    (S *ℤ (g1 *ℤ g1 +ℤ g2 *ℤ g2 +ℤ g3 *ℤ g3))) -ℤ (theta *ℤ g1 *ℤ (theta *ℤ g1) +ℤ theta *ℤ g2 *ℤ (theta *ℤ g2) +ℤ theta *ℤ g3 *ℤ
    (theta *ℤ g3)) ≡ (g1 *ℤ g1 +ℤ g2 *ℤ g2 +ℤ g3 *ℤ g3) *ℤ (ro *ℤ D *ℤ (S *ℤ S) *ℤ (g1 *ℤ g1 +ℤ g2 *ℤ g2 +ℤ g3 *ℤ g3) -ℤ theta *ℤ theta)
cap_room ro D S theta g1 g2 g3 =
    alike (ro ∷ D ∷ S ∷ theta ∷ g1 ∷ g2 ∷ g3 ∷ []) (var 0 ⊗ var 1 ⊗
    (var 2 ⊗ (var 4 ⊗ var 4 ⊕ var 5 ⊗ var 5 ⊕ var 6 ⊗ var 6) ⊗ (var 2 ⊗ (var 4 ⊗ var 4 ⊕ var 5 ⊗ var 5 ⊕ var 6 ⊗ var 6))) ⊖
    (var 3 ⊗ var 4 ⊗ (var 3 ⊗ var 4) ⊕ var 3 ⊗ var 5 ⊗ (var 3 ⊗ var 5) ⊕ var 3 ⊗ var 6 ⊗ (var 3 ⊗ var 6)))
    ((var 4 ⊗ var 4 ⊕ var 5 ⊗ var 5 ⊕ var 6 ⊗ var 6) ⊗ (var 0 ⊗ var 1 ⊗ (var 2 ⊗ var 2) ⊗ (var 4 ⊗ var 4 ⊕ var 5 ⊗ var 5 ⊕ var 6 ⊗ var 6)
    ⊖ var 3 ⊗ var 3)) refl

pub cap_kappa : (ro D S G kappa : ℤ) → ro *ℤ D *ℤ (S *ℤ S) *ℤ G -ℤ neg_ℤ (D *ℤ kappa) *ℤ neg_ℤ (D *ℤ kappa) ≡ D *ℤ
    (ro *ℤ (S *ℤ S) *ℤ G -ℤ kappa *ℤ kappa *ℤ D)
cap_kappa ro D S G kappa =
    alike (ro ∷ D ∷ S ∷ G ∷ kappa ∷ []) (var 0 ⊗ var 1 ⊗ (var 2 ⊗ var 2) ⊗ var 3 ⊖ opp (var 1 ⊗ var 4) ⊗ opp (var 1 ⊗ var 4))
    (var 1 ⊗ (var 0 ⊗ (var 2 ⊗ var 2) ⊗ var 3 ⊖ var 4 ⊗ var 4 ⊗ var 1)) refl

pub split_near : (s1 s2 s3 h1 h2 h3 v1 v2 v3 S N : ℤ) → (s2 *ℤ (S *ℤ h3 -ℤ N) -ℤ s3 *ℤ (S *ℤ h2 -ℤ N)) *ℤ v1 +ℤ
    (s3 *ℤ (S *ℤ h1 -ℤ N) -ℤ s1 *ℤ (S *ℤ h3 -ℤ N)) *ℤ v2 +ℤ (s1 *ℤ (S *ℤ h2 -ℤ N) -ℤ s2 *ℤ (S *ℤ h1 -ℤ N)) *ℤ v3 ≡ S *ℤ
    ((s2 *ℤ h3 -ℤ s3 *ℤ h2) *ℤ v1 +ℤ (s3 *ℤ h1 -ℤ s1 *ℤ h3) *ℤ v2 +ℤ (s1 *ℤ h2 -ℤ s2 *ℤ h1) *ℤ v3) -ℤ N *ℤ
    ((s2 -ℤ s3) *ℤ v1 +ℤ (s3 -ℤ s1) *ℤ v2 +ℤ (s1 -ℤ s2) *ℤ v3)
split_near s1 s2 s3 h1 h2 h3 v1 v2 v3 S N =
    alike (s1 ∷ s2 ∷ s3 ∷ h1 ∷ h2 ∷ h3 ∷ v1 ∷ v2 ∷ v3 ∷ S ∷ N ∷ [])
    ((var 1 ⊗ (var 9 ⊗ var 5 ⊖ var 10) ⊖ var 2 ⊗ (var 9 ⊗ var 4 ⊖ var 10)) ⊗ var 6 ⊕
    (var 2 ⊗ (var 9 ⊗ var 3 ⊖ var 10) ⊖ var 0 ⊗ (var 9 ⊗ var 5 ⊖ var 10)) ⊗ var 7 ⊕
    (var 0 ⊗ (var 9 ⊗ var 4 ⊖ var 10) ⊖ var 1 ⊗ (var 9 ⊗ var 3 ⊖ var 10)) ⊗ var 8)
    (var 9 ⊗ ((var 1 ⊗ var 5 ⊖ var 2 ⊗ var 4) ⊗ var 6 ⊕ (var 2 ⊗ var 3 ⊖ var 0 ⊗ var 5) ⊗ var 7 ⊕ (var 0 ⊗ var 4 ⊖ var 1 ⊗ var 3) ⊗ var 8)
    ⊖ var 10 ⊗ ((var 1 ⊖ var 2) ⊗ var 6 ⊕ (var 2 ⊖ var 0) ⊗ var 7 ⊕ (var 0 ⊖ var 1) ⊗ var 8)) refl

pub split_far : (s1 s2 s3 h1 h2 h3 v1 v2 v3 S N : ℤ) → (s2 *ℤ (S *ℤ neg_ℤ h3 -ℤ N) -ℤ s3 *ℤ (S *ℤ neg_ℤ h2 -ℤ N)) *ℤ v1 +ℤ
    (s3 *ℤ (S *ℤ neg_ℤ h1 -ℤ N) -ℤ s1 *ℤ (S *ℤ neg_ℤ h3 -ℤ N)) *ℤ v2 +ℤ (s1 *ℤ (S *ℤ neg_ℤ h2 -ℤ N) -ℤ s2 *ℤ (S *ℤ neg_ℤ h1 -ℤ N)) *ℤ v3
    ≡ neg_ℤ
    (S *ℤ ((s2 *ℤ h3 -ℤ s3 *ℤ h2) *ℤ v1 +ℤ (s3 *ℤ h1 -ℤ s1 *ℤ h3) *ℤ v2 +ℤ (s1 *ℤ h2 -ℤ s2 *ℤ h1) *ℤ v3)) -ℤ N *ℤ
    ((s2 -ℤ s3) *ℤ v1 +ℤ (s3 -ℤ s1) *ℤ v2 +ℤ (s1 -ℤ s2) *ℤ v3)
split_far s1 s2 s3 h1 h2 h3 v1 v2 v3 S N =
    alike (s1 ∷ s2 ∷ s3 ∷ h1 ∷ h2 ∷ h3 ∷ v1 ∷ v2 ∷ v3 ∷ S ∷ N ∷ [])
    ((var 1 ⊗ (var 9 ⊗ opp (var 5) ⊖ var 10) ⊖ var 2 ⊗ (var 9 ⊗ opp (var 4) ⊖ var 10)) ⊗ var 6 ⊕
    (var 2 ⊗ (var 9 ⊗ opp (var 3) ⊖ var 10) ⊖ var 0 ⊗ (var 9 ⊗ opp (var 5) ⊖ var 10)) ⊗ var 7 ⊕
    (var 0 ⊗ (var 9 ⊗ opp (var 4) ⊖ var 10) ⊖ var 1 ⊗ (var 9 ⊗ opp (var 3) ⊖ var 10)) ⊗ var 8)
    (opp (var 9 ⊗ ((var 1 ⊗ var 5 ⊖ var 2 ⊗ var 4) ⊗ var 6 ⊕ (var 2 ⊗ var 3 ⊖ var 0 ⊗ var 5) ⊗ var 7 ⊕ (var 0 ⊗ var 4 ⊖ var 1 ⊗ var 3)
    ⊗ var 8)) ⊖ var 10 ⊗ ((var 1 ⊖ var 2) ⊗ var 6 ⊕ (var 2 ⊖ var 0) ⊗ var 7 ⊕ (var 0 ⊖ var 1) ⊗ var 8)) refl

pub gather_near : (S nu D T W dx gx nx : ℤ) → S *ℤ ((dx *ℤ pos 0 -ℤ gx *ℤ D) *ℤ T) -ℤ nu *ℤ D *ℤ neg_ℤ (gx *ℤ W -ℤ pos 0 *ℤ nx) ≡ neg_ℤ
    (D *ℤ (S *ℤ T -ℤ nu *ℤ W)) *ℤ gx
gather_near S nu D T W dx gx nx =
    alike (S ∷ nu ∷ D ∷ T ∷ W ∷ dx ∷ gx ∷ nx ∷ []) (var 0 ⊗ ((var 5 ⊗ num (pos 0) ⊖ var 6 ⊗ var 2) ⊗ var 3) ⊖ var 1 ⊗ var 2 ⊗ opp
    (var 6 ⊗ var 4 ⊖ num (pos 0) ⊗ var 7)) (opp (var 2 ⊗ (var 0 ⊗ var 3 ⊖ var 1 ⊗ var 4)) ⊗ var 6) refl

pub gather_far : (S nu D T W dx gx nx : ℤ) → neg_ℤ (S *ℤ ((dx *ℤ pos 0 -ℤ gx *ℤ D) *ℤ T)) -ℤ neg_ℤ (nu *ℤ D) *ℤ neg_ℤ
    (gx *ℤ W -ℤ pos 0 *ℤ nx)
    ≡ neg_ℤ (D *ℤ (nu *ℤ W -ℤ S *ℤ T)) *ℤ gx
gather_far S nu D T W dx gx nx =
    alike (S ∷ nu ∷ D ∷ T ∷ W ∷ dx ∷ gx ∷ nx ∷ []) (opp (var 0 ⊗ ((var 5 ⊗ num (pos 0) ⊖ var 6 ⊗ var 2) ⊗ var 3)) ⊖ opp (var 1 ⊗ var 2)
    ⊗ opp (var 6 ⊗ var 4 ⊖ num (pos 0) ⊗ var 7)) (opp (var 2 ⊗ (var 1 ⊗ var 4 ⊖ var 0 ⊗ var 3)) ⊗ var 6) refl

pub level_moment_x : (u v w p1 p2 p3 q1 q2 q3 r1 r2 r3 d1 d2 d3 : ℤ) → u *ℤ (p2 *ℤ d3 -ℤ p3 *ℤ d2) +ℤ v *ℤ (q2 *ℤ d3 -ℤ q3 *ℤ d2) +ℤ w *ℤ
    (r2 *ℤ d3 -ℤ r3 *ℤ d2) ≡ (u *ℤ p2 +ℤ v *ℤ q2 +ℤ w *ℤ r2) *ℤ d3 -ℤ (u *ℤ p3 +ℤ v *ℤ q3 +ℤ w *ℤ r3) *ℤ d2
level_moment_x u v w p1 p2 p3 q1 q2 q3 r1 r2 r3 d1 d2 d3 =
    alike (u ∷ v ∷ w ∷ p1 ∷ p2 ∷ p3 ∷ q1 ∷ q2 ∷ q3 ∷ r1 ∷ r2 ∷ r3 ∷ d1 ∷ d2 ∷ d3 ∷ [])
    (var 0 ⊗ (var 4 ⊗ var 14 ⊖ var 5 ⊗ var 13) ⊕ var 1 ⊗ (var 7 ⊗ var 14 ⊖ var 8 ⊗ var 13) ⊕ var 2 ⊗ (var 10 ⊗ var 14 ⊖ var 11 ⊗ var 13))
    ((var 0 ⊗ var 4 ⊕ var 1 ⊗ var 7 ⊕ var 2 ⊗ var 10) ⊗ var 14 ⊖ (var 0 ⊗ var 5 ⊕ var 1 ⊗ var 8 ⊕ var 2 ⊗ var 11) ⊗ var 13) refl

pub level_moment_y : (u v w p1 p2 p3 q1 q2 q3 r1 r2 r3 d1 d2 d3 : ℤ) → u *ℤ (p3 *ℤ d1 -ℤ p1 *ℤ d3) +ℤ v *ℤ (q3 *ℤ d1 -ℤ q1 *ℤ d3) +ℤ w *ℤ
    (r3 *ℤ d1 -ℤ r1 *ℤ d3) ≡ (u *ℤ p3 +ℤ v *ℤ q3 +ℤ w *ℤ r3) *ℤ d1 -ℤ (u *ℤ p1 +ℤ v *ℤ q1 +ℤ w *ℤ r1) *ℤ d3
level_moment_y u v w p1 p2 p3 q1 q2 q3 r1 r2 r3 d1 d2 d3 =
    alike (u ∷ v ∷ w ∷ p1 ∷ p2 ∷ p3 ∷ q1 ∷ q2 ∷ q3 ∷ r1 ∷ r2 ∷ r3 ∷ d1 ∷ d2 ∷ d3 ∷ [])
    (var 0 ⊗ (var 5 ⊗ var 12 ⊖ var 3 ⊗ var 14) ⊕ var 1 ⊗ (var 8 ⊗ var 12 ⊖ var 6 ⊗ var 14) ⊕ var 2 ⊗ (var 11 ⊗ var 12 ⊖ var 9 ⊗ var 14))
    ((var 0 ⊗ var 5 ⊕ var 1 ⊗ var 8 ⊕ var 2 ⊗ var 11) ⊗ var 12 ⊖ (var 0 ⊗ var 3 ⊕ var 1 ⊗ var 6 ⊕ var 2 ⊗ var 9) ⊗ var 14) refl

pub level_moment_z : (u v w p1 p2 p3 q1 q2 q3 r1 r2 r3 d1 d2 d3 : ℤ) → u *ℤ (p1 *ℤ d2 -ℤ p2 *ℤ d1) +ℤ v *ℤ (q1 *ℤ d2 -ℤ q2 *ℤ d1) +ℤ w *ℤ
    (r1 *ℤ d2 -ℤ r2 *ℤ d1) ≡ (u *ℤ p1 +ℤ v *ℤ q1 +ℤ w *ℤ r1) *ℤ d2 -ℤ (u *ℤ p2 +ℤ v *ℤ q2 +ℤ w *ℤ r2) *ℤ d1
level_moment_z u v w p1 p2 p3 q1 q2 q3 r1 r2 r3 d1 d2 d3 =
    alike (u ∷ v ∷ w ∷ p1 ∷ p2 ∷ p3 ∷ q1 ∷ q2 ∷ q3 ∷ r1 ∷ r2 ∷ r3 ∷ d1 ∷ d2 ∷ d3 ∷ [])
    (var 0 ⊗ (var 3 ⊗ var 13 ⊖ var 4 ⊗ var 12) ⊕ var 1 ⊗ (var 6 ⊗ var 13 ⊖ var 7 ⊗ var 12) ⊕ var 2 ⊗ (var 9 ⊗ var 13 ⊖ var 10 ⊗ var 12))
    ((var 0 ⊗ var 3 ⊕ var 1 ⊗ var 6 ⊕ var 2 ⊗ var 9) ⊗ var 13 ⊖ (var 0 ⊗ var 4 ⊕ var 1 ⊗ var 7 ⊕ var 2 ⊗ var 10) ⊗ var 12) refl

pub moment_dot : (p1 p2 p3 g1 g2 g3 d1 d2 d3 : ℤ) → (p2 *ℤ d3 -ℤ p3 *ℤ d2) *ℤ (g2 *ℤ d3 -ℤ g3 *ℤ d2) +ℤ (p3 *ℤ d1 -ℤ p1 *ℤ d3) *ℤ
    (g3 *ℤ d1 -ℤ g1 *ℤ d3) +ℤ (p1 *ℤ d2 -ℤ p2 *ℤ d1) *ℤ (g1 *ℤ d2 -ℤ g2 *ℤ d1) ≡ (p1 *ℤ g1 +ℤ p2 *ℤ g2 +ℤ p3 *ℤ g3) *ℤ
    (d1 *ℤ d1 +ℤ d2 *ℤ d2 +ℤ d3 *ℤ d3) -ℤ (p1 *ℤ d1 +ℤ p2 *ℤ d2 +ℤ p3 *ℤ d3) *ℤ (g1 *ℤ d1 +ℤ g2 *ℤ d2 +ℤ g3 *ℤ d3)
moment_dot p1 p2 p3 g1 g2 g3 d1 d2 d3 =
    alike (p1 ∷ p2 ∷ p3 ∷ g1 ∷ g2 ∷ g3 ∷ d1 ∷ d2 ∷ d3 ∷ []) ((var 1 ⊗ var 8 ⊖ var 2 ⊗ var 7) ⊗ (var 4 ⊗ var 8 ⊖ var 5 ⊗ var 7) ⊕
    (var 2 ⊗ var 6 ⊖ var 0 ⊗ var 8) ⊗ (var 5 ⊗ var 6 ⊖ var 3 ⊗ var 8) ⊕ (var 0 ⊗ var 7 ⊖ var 1 ⊗ var 6) ⊗ (var 3 ⊗ var 7 ⊖ var 4 ⊗ var 6))
    ((var 0 ⊗ var 3 ⊕ var 1 ⊗ var 4 ⊕ var 2 ⊗ var 5) ⊗ (var 6 ⊗ var 6 ⊕ var 7 ⊗ var 7 ⊕ var 8 ⊗ var 8) ⊖
    (var 0 ⊗ var 6 ⊕ var 1 ⊗ var 7 ⊕ var 2 ⊗ var 8) ⊗ (var 3 ⊗ var 6 ⊕ var 4 ⊗ var 7 ⊕ var 5 ⊗ var 8)) refl

pub level_dot : (u v w p1 p2 p3 q1 q2 q3 r1 r2 r3 d1 d2 d3 : ℤ) → (u *ℤ p1 +ℤ v *ℤ q1 +ℤ w *ℤ r1) *ℤ d1 +ℤ (u *ℤ p2 +ℤ v *ℤ q2 +ℤ w *ℤ r2)
    *ℤ d2 +ℤ (u *ℤ p3 +ℤ v *ℤ q3 +ℤ w *ℤ r3) *ℤ d3 ≡ u *ℤ (p1 *ℤ d1 +ℤ p2 *ℤ d2 +ℤ p3 *ℤ d3) +ℤ v *ℤ (q1 *ℤ d1 +ℤ q2 *ℤ d2 +ℤ q3 *ℤ d3) +ℤ w
    *ℤ (r1 *ℤ d1 +ℤ r2 *ℤ d2 +ℤ r3 *ℤ d3)
level_dot u v w p1 p2 p3 q1 q2 q3 r1 r2 r3 d1 d2 d3 =
    alike (u ∷ v ∷ w ∷ p1 ∷ p2 ∷ p3 ∷ q1 ∷ q2 ∷ q3 ∷ r1 ∷ r2 ∷ r3 ∷ d1 ∷ d2 ∷ d3 ∷ [])
    ((var 0 ⊗ var 3 ⊕ var 1 ⊗ var 6 ⊕ var 2 ⊗ var 9) ⊗ var 12 ⊕ (var 0 ⊗ var 4 ⊕ var 1 ⊗ var 7 ⊕ var 2 ⊗ var 10) ⊗ var 13 ⊕
    (var 0 ⊗ var 5 ⊕ var 1 ⊗ var 8 ⊕ var 2 ⊗ var 11) ⊗ var 14) (var 0 ⊗ (var 3 ⊗ var 12 ⊕ var 4 ⊗ var 13 ⊕ var 5 ⊗ var 14) ⊕ var 1 ⊗
    (var 6 ⊗ var 12 ⊕ var 7 ⊗ var 13 ⊕ var 8 ⊗ var 14) ⊕ var 2 ⊗ (var 9 ⊗ var 12 ⊕ var 10 ⊗ var 13 ⊕ var 11 ⊗ var 14)) refl

pub own_level_back : (h1 h2 h3 : ℤ) → (neg_ℤ h2 -ℤ neg_ℤ h3) *ℤ h1 +ℤ (neg_ℤ h3 -ℤ neg_ℤ h1) *ℤ h2 +ℤ (neg_ℤ h1 -ℤ neg_ℤ h2) *ℤ h3 ≡ pos 0
own_level_back h1 h2 h3 =
    alike (h1 ∷ h2 ∷ h3 ∷ []) ((opp (var 1) ⊖ opp (var 2)) ⊗ var 0 ⊕ (opp (var 2) ⊖ opp (var 0)) ⊗ var 1 ⊕ (opp (var 0) ⊖ opp (var 1))
    ⊗ var 2) (num (pos 0)) refl

pub level_square : (u v w p1 p2 p3 q1 q2 q3 r1 r2 r3 : ℤ) → u *ℤ (p1 *ℤ (u *ℤ p1 +ℤ v *ℤ q1 +ℤ w *ℤ r1) +ℤ p2 *ℤ
    (u *ℤ p2 +ℤ v *ℤ q2 +ℤ w *ℤ r2) +ℤ p3 *ℤ (u *ℤ p3 +ℤ v *ℤ q3 +ℤ w *ℤ r3)) +ℤ v *ℤ
    (q1 *ℤ (u *ℤ p1 +ℤ v *ℤ q1 +ℤ w *ℤ r1) +ℤ q2 *ℤ (u *ℤ p2 +ℤ v *ℤ q2 +ℤ w *ℤ r2) +ℤ q3 *ℤ (u *ℤ p3 +ℤ v *ℤ q3 +ℤ w *ℤ r3)) +ℤ w *ℤ
    (r1 *ℤ (u *ℤ p1 +ℤ v *ℤ q1 +ℤ w *ℤ r1) +ℤ r2 *ℤ (u *ℤ p2 +ℤ v *ℤ q2 +ℤ w *ℤ r2) +ℤ r3 *ℤ (u *ℤ p3 +ℤ v *ℤ q3 +ℤ w *ℤ r3)) ≡
    (u *ℤ p1 +ℤ v *ℤ q1 +ℤ w *ℤ r1) *ℤ (u *ℤ p1 +ℤ v *ℤ q1 +ℤ w *ℤ r1) +ℤ (u *ℤ p2 +ℤ v *ℤ q2 +ℤ w *ℤ r2) *ℤ (u *ℤ p2 +ℤ v *ℤ q2 +ℤ w *ℤ r2)
    +ℤ (u *ℤ p3 +ℤ v *ℤ q3 +ℤ w *ℤ r3) *ℤ (u *ℤ p3 +ℤ v *ℤ q3 +ℤ w *ℤ r3)
level_square u v w p1 p2 p3 q1 q2 q3 r1 r2 r3 =
    alike (u ∷ v ∷ w ∷ p1 ∷ p2 ∷ p3 ∷ q1 ∷ q2 ∷ q3 ∷ r1 ∷ r2 ∷ r3 ∷ [])
    (var 0 ⊗ (var 3 ⊗ (var 0 ⊗ var 3 ⊕ var 1 ⊗ var 6 ⊕ var 2 ⊗ var 9) ⊕ var 4 ⊗ (var 0 ⊗ var 4 ⊕ var 1 ⊗ var 7 ⊕ var 2 ⊗ var 10) ⊕ var 5 ⊗
    (var 0 ⊗ var 5 ⊕ var 1 ⊗ var 8 ⊕ var 2 ⊗ var 11)) ⊕ var 1 ⊗ (var 6 ⊗ (var 0 ⊗ var 3 ⊕ var 1 ⊗ var 6 ⊕ var 2 ⊗ var 9) ⊕ var 7 ⊗
    (var 0 ⊗ var 4 ⊕ var 1 ⊗ var 7 ⊕ var 2 ⊗ var 10) ⊕ var 8 ⊗ (var 0 ⊗ var 5 ⊕ var 1 ⊗ var 8 ⊕ var 2 ⊗ var 11)) ⊕ var 2 ⊗
    (var 9 ⊗ (var 0 ⊗ var 3 ⊕ var 1 ⊗ var 6 ⊕ var 2 ⊗ var 9) ⊕ var 10 ⊗ (var 0 ⊗ var 4 ⊕ var 1 ⊗ var 7 ⊕ var 2 ⊗ var 10) ⊕ var 11 ⊗
    (var 0 ⊗ var 5 ⊕ var 1 ⊗ var 8 ⊕ var 2 ⊗ var 11))) ((var 0 ⊗ var 3 ⊕ var 1 ⊗ var 6 ⊕ var 2 ⊗ var 9) ⊗
    (var 0 ⊗ var 3 ⊕ var 1 ⊗ var 6 ⊕ var 2 ⊗ var 9) ⊕ (var 0 ⊗ var 4 ⊕ var 1 ⊗ var 7 ⊕ var 2 ⊗ var 10) ⊗
    (var 0 ⊗ var 4 ⊕ var 1 ⊗ var 7 ⊕ var 2 ⊗ var 10) ⊕ (var 0 ⊗ var 5 ⊕ var 1 ⊗ var 8 ⊕ var 2 ⊗ var 11) ⊗
    (var 0 ⊗ var 5 ⊕ var 1 ⊗ var 8 ⊕ var 2 ⊗ var 11)) refl

pub other_sum : (i j k f1 f2 f3 L : ℤ) → i *ℤ (L -ℤ f1) +ℤ j *ℤ (L -ℤ f2) +ℤ k *ℤ (L -ℤ f3) ≡ L *ℤ (i +ℤ j +ℤ k) -ℤ
    (i *ℤ f1 +ℤ j *ℤ f2 +ℤ k *ℤ f3)
other_sum i j k f1 f2 f3 L =
    alike (i ∷ j ∷ k ∷ f1 ∷ f2 ∷ f3 ∷ L ∷ []) (var 0 ⊗ (var 6 ⊖ var 3) ⊕ var 1 ⊗ (var 6 ⊖ var 4) ⊕ var 2 ⊗ (var 6 ⊖ var 5))
    (var 6 ⊗ (var 0 ⊕ var 1 ⊕ var 2) ⊖ (var 0 ⊗ var 3 ⊕ var 1 ⊗ var 4 ⊕ var 2 ⊗ var 5)) refl

pub less_nothing : (x y : ℤ) → x -ℤ y *ℤ pos 0 ≡ x
less_nothing x y = alike (x ∷ y ∷ []) (var 0 ⊖ var 1 ⊗ num (pos 0)) (var 0) refl

-- the point with weights
pub drill_low : (S nu i j k p1 p2 p3 q1 q2 q3 r1 r2 r3 d1 d2 d3 : ℤ) → S *ℤ
    ((i *ℤ p1 +ℤ j *ℤ q1 +ℤ k *ℤ r1) *ℤ d1 +ℤ (i *ℤ p2 +ℤ j *ℤ q2 +ℤ k *ℤ r2) *ℤ d2 +ℤ (i *ℤ p3 +ℤ j *ℤ q3 +ℤ k *ℤ r3) *ℤ d3) -ℤ nu *ℤ
    (d1 *ℤ d1 +ℤ d2 *ℤ d2 +ℤ d3 *ℤ d3) *ℤ (i +ℤ j +ℤ k) ≡ i *ℤ (S *ℤ (p1 *ℤ d1 +ℤ p2 *ℤ d2 +ℤ p3 *ℤ d3) -ℤ nu *ℤ
    (d1 *ℤ d1 +ℤ d2 *ℤ d2 +ℤ d3 *ℤ d3)) +ℤ j *ℤ (S *ℤ (q1 *ℤ d1 +ℤ q2 *ℤ d2 +ℤ q3 *ℤ d3) -ℤ nu *ℤ (d1 *ℤ d1 +ℤ d2 *ℤ d2 +ℤ d3 *ℤ d3)) +ℤ k
    *ℤ (S *ℤ (r1 *ℤ d1 +ℤ r2 *ℤ d2 +ℤ r3 *ℤ d3) -ℤ nu *ℤ (d1 *ℤ d1 +ℤ d2 *ℤ d2 +ℤ d3 *ℤ d3))
drill_low S nu i j k p1 p2 p3 q1 q2 q3 r1 r2 r3 d1 d2 d3 =
    alike (S ∷ nu ∷ i ∷ j ∷ k ∷ p1 ∷ p2 ∷ p3 ∷ q1 ∷ q2 ∷ q3 ∷ r1 ∷ r2 ∷ r3 ∷ d1 ∷ d2 ∷ d3 ∷ [])
    (var 0 ⊗ ((var 2 ⊗ var 5 ⊕ var 3 ⊗ var 8 ⊕ var 4 ⊗ var 11) ⊗ var 14 ⊕ (var 2 ⊗ var 6 ⊕ var 3 ⊗ var 9 ⊕ var 4 ⊗ var 12) ⊗ var 15 ⊕
    (var 2 ⊗ var 7 ⊕ var 3 ⊗ var 10 ⊕ var 4 ⊗ var 13) ⊗ var 16) ⊖ var 1 ⊗ (var 14 ⊗ var 14 ⊕ var 15 ⊗ var 15 ⊕ var 16 ⊗ var 16) ⊗
    (var 2 ⊕ var 3 ⊕ var 4)) (var 2 ⊗ (var 0 ⊗ (var 5 ⊗ var 14 ⊕ var 6 ⊗ var 15 ⊕ var 7 ⊗ var 16) ⊖ var 1 ⊗
    (var 14 ⊗ var 14 ⊕ var 15 ⊗ var 15 ⊕ var 16 ⊗ var 16)) ⊕ var 3 ⊗
    (var 0 ⊗ (var 8 ⊗ var 14 ⊕ var 9 ⊗ var 15 ⊕ var 10 ⊗ var 16) ⊖ var 1 ⊗ (var 14 ⊗ var 14 ⊕ var 15 ⊗ var 15 ⊕ var 16 ⊗ var 16)) ⊕ var 4 ⊗
    (var 0 ⊗ (var 11 ⊗ var 14 ⊕ var 12 ⊗ var 15 ⊕ var 13 ⊗ var 16) ⊖ var 1 ⊗ (var 14 ⊗ var 14 ⊕ var 15 ⊗ var 15 ⊕ var 16 ⊗ var 16))) refl

pub drill_high : (S nu i j k p1 p2 p3 q1 q2 q3 r1 r2 r3 d1 d2 d3 : ℤ) → nu *ℤ (d1 *ℤ d1 +ℤ d2 *ℤ d2 +ℤ d3 *ℤ d3) *ℤ (i +ℤ j +ℤ k) -ℤ S *ℤ
    ((i *ℤ p1 +ℤ j *ℤ q1 +ℤ k *ℤ r1) *ℤ d1 +ℤ (i *ℤ p2 +ℤ j *ℤ q2 +ℤ k *ℤ r2) *ℤ d2 +ℤ (i *ℤ p3 +ℤ j *ℤ q3 +ℤ k *ℤ r3) *ℤ d3) ≡ i *ℤ
    (nu *ℤ (d1 *ℤ d1 +ℤ d2 *ℤ d2 +ℤ d3 *ℤ d3) -ℤ S *ℤ (p1 *ℤ d1 +ℤ p2 *ℤ d2 +ℤ p3 *ℤ d3)) +ℤ j *ℤ
    (nu *ℤ (d1 *ℤ d1 +ℤ d2 *ℤ d2 +ℤ d3 *ℤ d3) -ℤ S *ℤ (q1 *ℤ d1 +ℤ q2 *ℤ d2 +ℤ q3 *ℤ d3)) +ℤ k *ℤ
    (nu *ℤ (d1 *ℤ d1 +ℤ d2 *ℤ d2 +ℤ d3 *ℤ d3) -ℤ S *ℤ (r1 *ℤ d1 +ℤ r2 *ℤ d2 +ℤ r3 *ℤ d3))
drill_high S nu i j k p1 p2 p3 q1 q2 q3 r1 r2 r3 d1 d2 d3 =
    alike (S ∷ nu ∷ i ∷ j ∷ k ∷ p1 ∷ p2 ∷ p3 ∷ q1 ∷ q2 ∷ q3 ∷ r1 ∷ r2 ∷ r3 ∷ d1 ∷ d2 ∷ d3 ∷ [])
    (var 1 ⊗ (var 14 ⊗ var 14 ⊕ var 15 ⊗ var 15 ⊕ var 16 ⊗ var 16) ⊗ (var 2 ⊕ var 3 ⊕ var 4) ⊖ var 0 ⊗
    ((var 2 ⊗ var 5 ⊕ var 3 ⊗ var 8 ⊕ var 4 ⊗ var 11) ⊗ var 14 ⊕ (var 2 ⊗ var 6 ⊕ var 3 ⊗ var 9 ⊕ var 4 ⊗ var 12) ⊗ var 15 ⊕
    (var 2 ⊗ var 7 ⊕ var 3 ⊗ var 10 ⊕ var 4 ⊗ var 13) ⊗ var 16)) (var 2 ⊗
    (var 1 ⊗ (var 14 ⊗ var 14 ⊕ var 15 ⊗ var 15 ⊕ var 16 ⊗ var 16) ⊖ var 0 ⊗ (var 5 ⊗ var 14 ⊕ var 6 ⊗ var 15 ⊕ var 7 ⊗ var 16)) ⊕ var 3 ⊗
    (var 1 ⊗ (var 14 ⊗ var 14 ⊕ var 15 ⊗ var 15 ⊕ var 16 ⊗ var 16) ⊖ var 0 ⊗ (var 8 ⊗ var 14 ⊕ var 9 ⊗ var 15 ⊕ var 10 ⊗ var 16)) ⊕ var 4 ⊗
    (var 1 ⊗ (var 14 ⊗ var 14 ⊕ var 15 ⊗ var 15 ⊕ var 16 ⊗ var 16) ⊖ var 0 ⊗ (var 11 ⊗ var 14 ⊕ var 12 ⊗ var 15 ⊕ var 13 ⊗ var 16))) refl

pub drill_room : (R D x1 x2 x3 d1 d2 d3 : ℤ) → R *ℤ (D *ℤ D) -ℤ ((x2 *ℤ d3 -ℤ x3 *ℤ d2) *ℤ (x2 *ℤ d3 -ℤ x3 *ℤ d2) +ℤ (x3 *ℤ d1 -ℤ x1 *ℤ d3)
    *ℤ (x3 *ℤ d1 -ℤ x1 *ℤ d3) +ℤ (x1 *ℤ d2 -ℤ x2 *ℤ d1) *ℤ (x1 *ℤ d2 -ℤ x2 *ℤ d1)) ≡ R *ℤ (D *ℤ D) -ℤ
    ((x1 *ℤ x1 +ℤ x2 *ℤ x2 +ℤ x3 *ℤ x3) *ℤ (d1 *ℤ d1 +ℤ d2 *ℤ d2 +ℤ d3 *ℤ d3) -ℤ (x1 *ℤ d1 +ℤ x2 *ℤ d2 +ℤ x3 *ℤ d3) *ℤ
    (x1 *ℤ d1 +ℤ x2 *ℤ d2 +ℤ x3 *ℤ d3))
drill_room R D x1 x2 x3 d1 d2 d3 =
    alike (R ∷ D ∷ x1 ∷ x2 ∷ x3 ∷ d1 ∷ d2 ∷ d3 ∷ []) (var 0 ⊗ (var 1 ⊗ var 1) ⊖
    ((var 3 ⊗ var 7 ⊖ var 4 ⊗ var 6) ⊗ (var 3 ⊗ var 7 ⊖ var 4 ⊗ var 6) ⊕ (var 4 ⊗ var 5 ⊖ var 2 ⊗ var 7) ⊗ (var 4 ⊗ var 5 ⊖ var 2 ⊗ var 7) ⊕
    (var 2 ⊗ var 6 ⊖ var 3 ⊗ var 5) ⊗ (var 2 ⊗ var 6 ⊖ var 3 ⊗ var 5)))
    (var 0 ⊗ (var 1 ⊗ var 1) ⊖ ((var 2 ⊗ var 2 ⊕ var 3 ⊗ var 3 ⊕ var 4 ⊗ var 4) ⊗ (var 5 ⊗ var 5 ⊕ var 6 ⊗ var 6 ⊕ var 7 ⊗ var 7) ⊖
    (var 2 ⊗ var 5 ⊕ var 3 ⊗ var 6 ⊕ var 4 ⊗ var 7) ⊗ (var 2 ⊗ var 5 ⊕ var 3 ⊗ var 6 ⊕ var 4 ⊗ var 7))) refl

pub high_other : (F N h : ℤ) → F -ℤ h ≡ F -ℤ N -ℤ (h -ℤ N)
high_other F N h = alike (F ∷ N ∷ h ∷ []) (var 0 ⊖ var 2) (var 0 ⊖ var 1 ⊖ (var 2 ⊖ var 1)) refl

pub low_other : (F N h : ℤ) → h -ℤ N ≡ F -ℤ N -ℤ (F -ℤ h)
low_other F N h = alike (F ∷ N ∷ h ∷ []) (var 2 ⊖ var 1) (var 0 ⊖ var 1 ⊖ (var 0 ⊖ var 2)) refl

pub apart_ends : (F N D : ℤ) → F *ℤ D -ℤ N *ℤ D ≡ (F -ℤ N) *ℤ D
apart_ends F N D = alike (F ∷ N ∷ D ∷ []) (var 0 ⊗ var 2 ⊖ var 1 ⊗ var 2) ((var 0 ⊖ var 1) ⊗ var 2) refl

pub minus_zero_lem : (x : ℤ) → x -ℤ pos 0 ≡ x
minus_zero_lem x = alike (x ∷ []) (var 0 ⊖ num (pos 0)) (var 0) refl

-- how far a coordinate is off the axis
pub reach_x : (rho D x1 x2 x3 d1 d2 d3 : ℤ) → (d1 *ℤ d1 +ℤ d2 *ℤ d2 +ℤ d3 *ℤ d3) *ℤ
    (rho *ℤ rho *ℤ (d1 *ℤ d1 +ℤ d2 *ℤ d2 +ℤ d3 *ℤ d3) *ℤ (D *ℤ D) -ℤ
    ((x1 *ℤ x1 +ℤ x2 *ℤ x2 +ℤ x3 *ℤ x3) *ℤ (d1 *ℤ d1 +ℤ d2 *ℤ d2 +ℤ d3 *ℤ d3) -ℤ (x1 *ℤ d1 +ℤ x2 *ℤ d2 +ℤ x3 *ℤ d3) *ℤ
    (x1 *ℤ d1 +ℤ x2 *ℤ d2 +ℤ x3 *ℤ d3))) +ℤ (((d1 *ℤ d1 +ℤ d2 *ℤ d2 +ℤ d3 *ℤ d3) *ℤ x2 -ℤ (x1 *ℤ d1 +ℤ x2 *ℤ d2 +ℤ x3 *ℤ d3) *ℤ d2) *ℤ
    ((d1 *ℤ d1 +ℤ d2 *ℤ d2 +ℤ d3 *ℤ d3) *ℤ x2 -ℤ (x1 *ℤ d1 +ℤ x2 *ℤ d2 +ℤ x3 *ℤ d3) *ℤ d2) +ℤ
    ((d1 *ℤ d1 +ℤ d2 *ℤ d2 +ℤ d3 *ℤ d3) *ℤ x3 -ℤ (x1 *ℤ d1 +ℤ x2 *ℤ d2 +ℤ x3 *ℤ d3) *ℤ d3) *ℤ
    ((d1 *ℤ d1 +ℤ d2 *ℤ d2 +ℤ d3 *ℤ d3) *ℤ x3 -ℤ (x1 *ℤ d1 +ℤ x2 *ℤ d2 +ℤ x3 *ℤ d3) *ℤ d3)) ≡ rho *ℤ (d1 *ℤ d1 +ℤ d2 *ℤ d2 +ℤ d3 *ℤ d3) *ℤ D
    *ℤ (rho *ℤ (d1 *ℤ d1 +ℤ d2 *ℤ d2 +ℤ d3 *ℤ d3) *ℤ D) -ℤ ((d1 *ℤ d1 +ℤ d2 *ℤ d2 +ℤ d3 *ℤ d3) *ℤ x1 -ℤ (x1 *ℤ d1 +ℤ x2 *ℤ d2 +ℤ x3 *ℤ d3)
    *ℤ d1) *ℤ ((d1 *ℤ d1 +ℤ d2 *ℤ d2 +ℤ d3 *ℤ d3) *ℤ x1 -ℤ (x1 *ℤ d1 +ℤ x2 *ℤ d2 +ℤ x3 *ℤ d3) *ℤ d1)
reach_x rho D x1 x2 x3 d1 d2 d3 =
    alike (rho ∷ D ∷ x1 ∷ x2 ∷ x3 ∷ d1 ∷ d2 ∷ d3 ∷ []) ((var 5 ⊗ var 5 ⊕ var 6 ⊗ var 6 ⊕ var 7 ⊗ var 7) ⊗
    (var 0 ⊗ var 0 ⊗ (var 5 ⊗ var 5 ⊕ var 6 ⊗ var 6 ⊕ var 7 ⊗ var 7) ⊗ (var 1 ⊗ var 1) ⊖
    ((var 2 ⊗ var 2 ⊕ var 3 ⊗ var 3 ⊕ var 4 ⊗ var 4) ⊗ (var 5 ⊗ var 5 ⊕ var 6 ⊗ var 6 ⊕ var 7 ⊗ var 7) ⊖
    (var 2 ⊗ var 5 ⊕ var 3 ⊗ var 6 ⊕ var 4 ⊗ var 7) ⊗ (var 2 ⊗ var 5 ⊕ var 3 ⊗ var 6 ⊕ var 4 ⊗ var 7))) ⊕
    (((var 5 ⊗ var 5 ⊕ var 6 ⊗ var 6 ⊕ var 7 ⊗ var 7) ⊗ var 3 ⊖ (var 2 ⊗ var 5 ⊕ var 3 ⊗ var 6 ⊕ var 4 ⊗ var 7) ⊗ var 6) ⊗
    ((var 5 ⊗ var 5 ⊕ var 6 ⊗ var 6 ⊕ var 7 ⊗ var 7) ⊗ var 3 ⊖ (var 2 ⊗ var 5 ⊕ var 3 ⊗ var 6 ⊕ var 4 ⊗ var 7) ⊗ var 6) ⊕
    ((var 5 ⊗ var 5 ⊕ var 6 ⊗ var 6 ⊕ var 7 ⊗ var 7) ⊗ var 4 ⊖ (var 2 ⊗ var 5 ⊕ var 3 ⊗ var 6 ⊕ var 4 ⊗ var 7) ⊗ var 7) ⊗
    ((var 5 ⊗ var 5 ⊕ var 6 ⊗ var 6 ⊕ var 7 ⊗ var 7) ⊗ var 4 ⊖ (var 2 ⊗ var 5 ⊕ var 3 ⊗ var 6 ⊕ var 4 ⊗ var 7) ⊗ var 7)))
    (var 0 ⊗ (var 5 ⊗ var 5 ⊕ var 6 ⊗ var 6 ⊕ var 7 ⊗ var 7) ⊗ var 1 ⊗ (var 0 ⊗ (var 5 ⊗ var 5 ⊕ var 6 ⊗ var 6 ⊕ var 7 ⊗ var 7) ⊗ var 1) ⊖
    ((var 5 ⊗ var 5 ⊕ var 6 ⊗ var 6 ⊕ var 7 ⊗ var 7) ⊗ var 2 ⊖ (var 2 ⊗ var 5 ⊕ var 3 ⊗ var 6 ⊕ var 4 ⊗ var 7) ⊗ var 5) ⊗
    ((var 5 ⊗ var 5 ⊕ var 6 ⊗ var 6 ⊕ var 7 ⊗ var 7) ⊗ var 2 ⊖ (var 2 ⊗ var 5 ⊕ var 3 ⊗ var 6 ⊕ var 4 ⊗ var 7) ⊗ var 5)) refl

pub reach_y : (rho D x1 x2 x3 d1 d2 d3 : ℤ) → (d1 *ℤ d1 +ℤ d2 *ℤ d2 +ℤ d3 *ℤ d3) *ℤ
    (rho *ℤ rho *ℤ (d1 *ℤ d1 +ℤ d2 *ℤ d2 +ℤ d3 *ℤ d3) *ℤ (D *ℤ D) -ℤ
    ((x1 *ℤ x1 +ℤ x2 *ℤ x2 +ℤ x3 *ℤ x3) *ℤ (d1 *ℤ d1 +ℤ d2 *ℤ d2 +ℤ d3 *ℤ d3) -ℤ (x1 *ℤ d1 +ℤ x2 *ℤ d2 +ℤ x3 *ℤ d3) *ℤ
    (x1 *ℤ d1 +ℤ x2 *ℤ d2 +ℤ x3 *ℤ d3))) +ℤ (((d1 *ℤ d1 +ℤ d2 *ℤ d2 +ℤ d3 *ℤ d3) *ℤ x1 -ℤ (x1 *ℤ d1 +ℤ x2 *ℤ d2 +ℤ x3 *ℤ d3) *ℤ d1) *ℤ
    ((d1 *ℤ d1 +ℤ d2 *ℤ d2 +ℤ d3 *ℤ d3) *ℤ x1 -ℤ (x1 *ℤ d1 +ℤ x2 *ℤ d2 +ℤ x3 *ℤ d3) *ℤ d1) +ℤ
    ((d1 *ℤ d1 +ℤ d2 *ℤ d2 +ℤ d3 *ℤ d3) *ℤ x3 -ℤ (x1 *ℤ d1 +ℤ x2 *ℤ d2 +ℤ x3 *ℤ d3) *ℤ d3) *ℤ
    ((d1 *ℤ d1 +ℤ d2 *ℤ d2 +ℤ d3 *ℤ d3) *ℤ x3 -ℤ (x1 *ℤ d1 +ℤ x2 *ℤ d2 +ℤ x3 *ℤ d3) *ℤ d3)) ≡ rho *ℤ (d1 *ℤ d1 +ℤ d2 *ℤ d2 +ℤ d3 *ℤ d3) *ℤ D
    *ℤ (rho *ℤ (d1 *ℤ d1 +ℤ d2 *ℤ d2 +ℤ d3 *ℤ d3) *ℤ D) -ℤ ((d1 *ℤ d1 +ℤ d2 *ℤ d2 +ℤ d3 *ℤ d3) *ℤ x2 -ℤ (x1 *ℤ d1 +ℤ x2 *ℤ d2 +ℤ x3 *ℤ d3)
    *ℤ d2) *ℤ ((d1 *ℤ d1 +ℤ d2 *ℤ d2 +ℤ d3 *ℤ d3) *ℤ x2 -ℤ (x1 *ℤ d1 +ℤ x2 *ℤ d2 +ℤ x3 *ℤ d3) *ℤ d2)
reach_y rho D x1 x2 x3 d1 d2 d3 =
    alike (rho ∷ D ∷ x1 ∷ x2 ∷ x3 ∷ d1 ∷ d2 ∷ d3 ∷ []) ((var 5 ⊗ var 5 ⊕ var 6 ⊗ var 6 ⊕ var 7 ⊗ var 7) ⊗
    (var 0 ⊗ var 0 ⊗ (var 5 ⊗ var 5 ⊕ var 6 ⊗ var 6 ⊕ var 7 ⊗ var 7) ⊗ (var 1 ⊗ var 1) ⊖
    ((var 2 ⊗ var 2 ⊕ var 3 ⊗ var 3 ⊕ var 4 ⊗ var 4) ⊗ (var 5 ⊗ var 5 ⊕ var 6 ⊗ var 6 ⊕ var 7 ⊗ var 7) ⊖
    (var 2 ⊗ var 5 ⊕ var 3 ⊗ var 6 ⊕ var 4 ⊗ var 7) ⊗ (var 2 ⊗ var 5 ⊕ var 3 ⊗ var 6 ⊕ var 4 ⊗ var 7))) ⊕
    (((var 5 ⊗ var 5 ⊕ var 6 ⊗ var 6 ⊕ var 7 ⊗ var 7) ⊗ var 2 ⊖ (var 2 ⊗ var 5 ⊕ var 3 ⊗ var 6 ⊕ var 4 ⊗ var 7) ⊗ var 5) ⊗
    ((var 5 ⊗ var 5 ⊕ var 6 ⊗ var 6 ⊕ var 7 ⊗ var 7) ⊗ var 2 ⊖ (var 2 ⊗ var 5 ⊕ var 3 ⊗ var 6 ⊕ var 4 ⊗ var 7) ⊗ var 5) ⊕
    ((var 5 ⊗ var 5 ⊕ var 6 ⊗ var 6 ⊕ var 7 ⊗ var 7) ⊗ var 4 ⊖ (var 2 ⊗ var 5 ⊕ var 3 ⊗ var 6 ⊕ var 4 ⊗ var 7) ⊗ var 7) ⊗
    ((var 5 ⊗ var 5 ⊕ var 6 ⊗ var 6 ⊕ var 7 ⊗ var 7) ⊗ var 4 ⊖ (var 2 ⊗ var 5 ⊕ var 3 ⊗ var 6 ⊕ var 4 ⊗ var 7) ⊗ var 7)))
    (var 0 ⊗ (var 5 ⊗ var 5 ⊕ var 6 ⊗ var 6 ⊕ var 7 ⊗ var 7) ⊗ var 1 ⊗ (var 0 ⊗ (var 5 ⊗ var 5 ⊕ var 6 ⊗ var 6 ⊕ var 7 ⊗ var 7) ⊗ var 1) ⊖
    ((var 5 ⊗ var 5 ⊕ var 6 ⊗ var 6 ⊕ var 7 ⊗ var 7) ⊗ var 3 ⊖ (var 2 ⊗ var 5 ⊕ var 3 ⊗ var 6 ⊕ var 4 ⊗ var 7) ⊗ var 6) ⊗
    ((var 5 ⊗ var 5 ⊕ var 6 ⊗ var 6 ⊕ var 7 ⊗ var 7) ⊗ var 3 ⊖ (var 2 ⊗ var 5 ⊕ var 3 ⊗ var 6 ⊕ var 4 ⊗ var 7) ⊗ var 6)) refl

pub reach_z : (rho D x1 x2 x3 d1 d2 d3 : ℤ) → (d1 *ℤ d1 +ℤ d2 *ℤ d2 +ℤ d3 *ℤ d3) *ℤ
    (rho *ℤ rho *ℤ (d1 *ℤ d1 +ℤ d2 *ℤ d2 +ℤ d3 *ℤ d3) *ℤ (D *ℤ D) -ℤ
    ((x1 *ℤ x1 +ℤ x2 *ℤ x2 +ℤ x3 *ℤ x3) *ℤ (d1 *ℤ d1 +ℤ d2 *ℤ d2 +ℤ d3 *ℤ d3) -ℤ (x1 *ℤ d1 +ℤ x2 *ℤ d2 +ℤ x3 *ℤ d3) *ℤ
    (x1 *ℤ d1 +ℤ x2 *ℤ d2 +ℤ x3 *ℤ d3))) +ℤ (((d1 *ℤ d1 +ℤ d2 *ℤ d2 +ℤ d3 *ℤ d3) *ℤ x1 -ℤ (x1 *ℤ d1 +ℤ x2 *ℤ d2 +ℤ x3 *ℤ d3) *ℤ d1) *ℤ
    ((d1 *ℤ d1 +ℤ d2 *ℤ d2 +ℤ d3 *ℤ d3) *ℤ x1 -ℤ (x1 *ℤ d1 +ℤ x2 *ℤ d2 +ℤ x3 *ℤ d3) *ℤ d1) +ℤ
    ((d1 *ℤ d1 +ℤ d2 *ℤ d2 +ℤ d3 *ℤ d3) *ℤ x2 -ℤ (x1 *ℤ d1 +ℤ x2 *ℤ d2 +ℤ x3 *ℤ d3) *ℤ d2) *ℤ
    ((d1 *ℤ d1 +ℤ d2 *ℤ d2 +ℤ d3 *ℤ d3) *ℤ x2 -ℤ (x1 *ℤ d1 +ℤ x2 *ℤ d2 +ℤ x3 *ℤ d3) *ℤ d2)) ≡ rho *ℤ (d1 *ℤ d1 +ℤ d2 *ℤ d2 +ℤ d3 *ℤ d3) *ℤ D
    *ℤ (rho *ℤ (d1 *ℤ d1 +ℤ d2 *ℤ d2 +ℤ d3 *ℤ d3) *ℤ D) -ℤ ((d1 *ℤ d1 +ℤ d2 *ℤ d2 +ℤ d3 *ℤ d3) *ℤ x3 -ℤ (x1 *ℤ d1 +ℤ x2 *ℤ d2 +ℤ x3 *ℤ d3)
    *ℤ d3) *ℤ ((d1 *ℤ d1 +ℤ d2 *ℤ d2 +ℤ d3 *ℤ d3) *ℤ x3 -ℤ (x1 *ℤ d1 +ℤ x2 *ℤ d2 +ℤ x3 *ℤ d3) *ℤ d3)
reach_z rho D x1 x2 x3 d1 d2 d3 =
    alike (rho ∷ D ∷ x1 ∷ x2 ∷ x3 ∷ d1 ∷ d2 ∷ d3 ∷ []) ((var 5 ⊗ var 5 ⊕ var 6 ⊗ var 6 ⊕ var 7 ⊗ var 7) ⊗
    (var 0 ⊗ var 0 ⊗ (var 5 ⊗ var 5 ⊕ var 6 ⊗ var 6 ⊕ var 7 ⊗ var 7) ⊗ (var 1 ⊗ var 1) ⊖
    ((var 2 ⊗ var 2 ⊕ var 3 ⊗ var 3 ⊕ var 4 ⊗ var 4) ⊗ (var 5 ⊗ var 5 ⊕ var 6 ⊗ var 6 ⊕ var 7 ⊗ var 7) ⊖
    (var 2 ⊗ var 5 ⊕ var 3 ⊗ var 6 ⊕ var 4 ⊗ var 7) ⊗ (var 2 ⊗ var 5 ⊕ var 3 ⊗ var 6 ⊕ var 4 ⊗ var 7))) ⊕
    (((var 5 ⊗ var 5 ⊕ var 6 ⊗ var 6 ⊕ var 7 ⊗ var 7) ⊗ var 2 ⊖ (var 2 ⊗ var 5 ⊕ var 3 ⊗ var 6 ⊕ var 4 ⊗ var 7) ⊗ var 5) ⊗
    ((var 5 ⊗ var 5 ⊕ var 6 ⊗ var 6 ⊕ var 7 ⊗ var 7) ⊗ var 2 ⊖ (var 2 ⊗ var 5 ⊕ var 3 ⊗ var 6 ⊕ var 4 ⊗ var 7) ⊗ var 5) ⊕
    ((var 5 ⊗ var 5 ⊕ var 6 ⊗ var 6 ⊕ var 7 ⊗ var 7) ⊗ var 3 ⊖ (var 2 ⊗ var 5 ⊕ var 3 ⊗ var 6 ⊕ var 4 ⊗ var 7) ⊗ var 6) ⊗
    ((var 5 ⊗ var 5 ⊕ var 6 ⊗ var 6 ⊕ var 7 ⊗ var 7) ⊗ var 3 ⊖ (var 2 ⊗ var 5 ⊕ var 3 ⊗ var 6 ⊕ var 4 ⊗ var 7) ⊗ var 6)))
    (var 0 ⊗ (var 5 ⊗ var 5 ⊕ var 6 ⊗ var 6 ⊕ var 7 ⊗ var 7) ⊗ var 1 ⊗ (var 0 ⊗ (var 5 ⊗ var 5 ⊕ var 6 ⊗ var 6 ⊕ var 7 ⊗ var 7) ⊗ var 1) ⊖
    ((var 5 ⊗ var 5 ⊕ var 6 ⊗ var 6 ⊕ var 7 ⊗ var 7) ⊗ var 4 ⊖ (var 2 ⊗ var 5 ⊕ var 3 ⊗ var 6 ⊕ var 4 ⊗ var 7) ⊗ var 7) ⊗
    ((var 5 ⊗ var 5 ⊕ var 6 ⊗ var 6 ⊕ var 7 ⊗ var 7) ⊗ var 4 ⊖ (var 2 ⊗ var 5 ⊕ var 3 ⊗ var 6 ⊕ var 4 ⊗ var 7) ⊗ var 7)) refl

pub root_parts : (c y : ℤ) → c *ℤ c -ℤ y *ℤ y ≡ (c +ℤ y) *ℤ (c -ℤ y)
root_parts c y = alike (c ∷ y ∷ []) (var 0 ⊗ var 0 ⊖ var 1 ⊗ var 1) ((var 0 ⊕ var 1) ⊗ (var 0 ⊖ var 1)) refl

pub root_sum : (c y : ℤ) → c +ℤ c -ℤ (c -ℤ y) ≡ c +ℤ y
root_sum c y = alike (c ∷ y ∷ []) (var 0 ⊕ var 0 ⊖ (var 0 ⊖ var 1)) (var 0 ⊕ var 1) refl

pub root_back : (c y : ℤ) → c *ℤ c -ℤ neg_ℤ y *ℤ neg_ℤ y ≡ c *ℤ c -ℤ y *ℤ y
root_back c y = alike (c ∷ y ∷ []) (var 0 ⊗ var 0 ⊖ opp (var 1) ⊗ opp (var 1)) (var 0 ⊗ var 0 ⊖ var 1 ⊗ var 1) refl

pub rise_up : (S rho q D s e x h : ℤ) → q *ℤ (D *ℤ (s *ℤ e +ℤ S *ℤ rho) -ℤ S *ℤ x) ≡ S *ℤ (rho *ℤ q *ℤ D -ℤ (q *ℤ x -ℤ h *ℤ e)) +ℤ e *ℤ
    (s *ℤ q *ℤ D -ℤ S *ℤ h)
rise_up S rho q D s e x h =
    alike (S ∷ rho ∷ q ∷ D ∷ s ∷ e ∷ x ∷ h ∷ []) (var 2 ⊗ (var 3 ⊗ (var 4 ⊗ var 5 ⊕ var 0 ⊗ var 1) ⊖ var 0 ⊗ var 6))
    (var 0 ⊗ (var 1 ⊗ var 2 ⊗ var 3 ⊖ (var 2 ⊗ var 6 ⊖ var 7 ⊗ var 5)) ⊕ var 5 ⊗ (var 4 ⊗ var 2 ⊗ var 3 ⊖ var 0 ⊗ var 7)) refl

pub fall_up : (S rho q D s e x h : ℤ) → q *ℤ (D *ℤ (s *ℤ e +ℤ S *ℤ rho) -ℤ S *ℤ x)
    ≡ S *ℤ (rho *ℤ q *ℤ D -ℤ (q *ℤ x -ℤ h *ℤ e)) +ℤ neg_ℤ e *ℤ
    (S *ℤ h -ℤ s *ℤ q *ℤ D)
fall_up S rho q D s e x h =
    alike (S ∷ rho ∷ q ∷ D ∷ s ∷ e ∷ x ∷ h ∷ []) (var 2 ⊗ (var 3 ⊗ (var 4 ⊗ var 5 ⊕ var 0 ⊗ var 1) ⊖ var 0 ⊗ var 6))
    (var 0 ⊗ (var 1 ⊗ var 2 ⊗ var 3 ⊖ (var 2 ⊗ var 6 ⊖ var 7 ⊗ var 5)) ⊕ opp (var 5) ⊗ (var 0 ⊗ var 7 ⊖ var 4 ⊗ var 2 ⊗ var 3)) refl

pub rise_down : (S rho q D s e x h : ℤ) → q *ℤ (S *ℤ x -ℤ D *ℤ (s *ℤ e -ℤ S *ℤ rho)) ≡ S *ℤ (rho *ℤ q *ℤ D -ℤ neg_ℤ (q *ℤ x -ℤ h *ℤ e)) +ℤ e
    *ℤ (S *ℤ h -ℤ s *ℤ q *ℤ D)
rise_down S rho q D s e x h =
    alike (S ∷ rho ∷ q ∷ D ∷ s ∷ e ∷ x ∷ h ∷ []) (var 2 ⊗ (var 0 ⊗ var 6 ⊖ var 3 ⊗ (var 4 ⊗ var 5 ⊖ var 0 ⊗ var 1)))
    (var 0 ⊗ (var 1 ⊗ var 2 ⊗ var 3 ⊖ opp (var 2 ⊗ var 6 ⊖ var 7 ⊗ var 5)) ⊕ var 5 ⊗ (var 0 ⊗ var 7 ⊖ var 4 ⊗ var 2 ⊗ var 3)) refl

pub fall_down : (S rho q D s e x h : ℤ) → q *ℤ (S *ℤ x -ℤ D *ℤ (s *ℤ e -ℤ S *ℤ rho)) ≡ S *ℤ (rho *ℤ q *ℤ D -ℤ neg_ℤ (q *ℤ x -ℤ h *ℤ e))
    +ℤ neg_ℤ e *ℤ (s *ℤ q *ℤ D -ℤ S *ℤ h)
fall_down S rho q D s e x h =
    alike (S ∷ rho ∷ q ∷ D ∷ s ∷ e ∷ x ∷ h ∷ []) (var 2 ⊗ (var 0 ⊗ var 6 ⊖ var 3 ⊗ (var 4 ⊗ var 5 ⊖ var 0 ⊗ var 1)))
    (var 0 ⊗ (var 1 ⊗ var 2 ⊗ var 3 ⊖ opp (var 2 ⊗ var 6 ⊖ var 7 ⊗ var 5)) ⊕ opp (var 5) ⊗ (var 4 ⊗ var 2 ⊗ var 3 ⊖ var 0 ⊗ var 7)) refl

pub mean_up : (i j k S A B C O s e rho : ℤ) → (i +ℤ j +ℤ k) *ℤ (S *ℤ O +ℤ s *ℤ e +ℤ S *ℤ rho) -ℤ
    (i *ℤ (S *ℤ A) +ℤ j *ℤ (S *ℤ B) +ℤ k *ℤ (S *ℤ C)) ≡ (i +ℤ j +ℤ k) *ℤ (s *ℤ e +ℤ S *ℤ rho) -ℤ S *ℤ
    (i *ℤ (A -ℤ O) +ℤ j *ℤ (B -ℤ O) +ℤ k *ℤ (C -ℤ O))
mean_up i j k S A B C O s e rho =
    alike (i ∷ j ∷ k ∷ S ∷ A ∷ B ∷ C ∷ O ∷ s ∷ e ∷ rho ∷ []) ((var 0 ⊕ var 1 ⊕ var 2) ⊗ (var 3 ⊗ var 7 ⊕ var 8 ⊗ var 9 ⊕ var 3 ⊗ var 10) ⊖
    (var 0 ⊗ (var 3 ⊗ var 4) ⊕ var 1 ⊗ (var 3 ⊗ var 5) ⊕ var 2 ⊗ (var 3 ⊗ var 6)))
    ((var 0 ⊕ var 1 ⊕ var 2) ⊗ (var 8 ⊗ var 9 ⊕ var 3 ⊗ var 10) ⊖ var 3 ⊗
    (var 0 ⊗ (var 4 ⊖ var 7) ⊕ var 1 ⊗ (var 5 ⊖ var 7) ⊕ var 2 ⊗ (var 6 ⊖ var 7))) refl

pub mean_down : (i j k S A B C O s e rho : ℤ) → i *ℤ (S *ℤ A) +ℤ j *ℤ (S *ℤ B) +ℤ k *ℤ (S *ℤ C) -ℤ (i +ℤ j +ℤ k) *ℤ
    (S *ℤ O +ℤ s *ℤ e -ℤ S *ℤ rho) ≡ S *ℤ (i *ℤ (A -ℤ O) +ℤ j *ℤ (B -ℤ O) +ℤ k *ℤ (C -ℤ O)) -ℤ (i +ℤ j +ℤ k) *ℤ (s *ℤ e -ℤ S *ℤ rho)
mean_down i j k S A B C O s e rho =
    alike (i ∷ j ∷ k ∷ S ∷ A ∷ B ∷ C ∷ O ∷ s ∷ e ∷ rho ∷ []) (var 0 ⊗ (var 3 ⊗ var 4) ⊕ var 1 ⊗ (var 3 ⊗ var 5) ⊕ var 2 ⊗ (var 3 ⊗ var 6) ⊖
    (var 0 ⊕ var 1 ⊕ var 2) ⊗ (var 3 ⊗ var 7 ⊕ var 8 ⊗ var 9 ⊖ var 3 ⊗ var 10))
    (var 3 ⊗ (var 0 ⊗ (var 4 ⊖ var 7) ⊕ var 1 ⊗ (var 5 ⊖ var 7) ⊕ var 2 ⊗ (var 6 ⊖ var 7)) ⊖ (var 0 ⊕ var 1 ⊕ var 2) ⊗
    (var 8 ⊗ var 9 ⊖ var 3 ⊗ var 10)) refl

pub floor_up : (S A rho E : ℤ) → E -ℤ S *ℤ (A -ℤ rho) ≡ E +ℤ S *ℤ rho -ℤ S *ℤ A
floor_up S A rho E = alike (S ∷ A ∷ rho ∷ E ∷ []) (var 3 ⊖ var 0 ⊗ (var 1 ⊖ var 2)) (var 3 ⊕ var 0 ⊗ var 2 ⊖ var 0 ⊗ var 1) refl

pub floor_down : (S A rho E : ℤ) → S *ℤ (A +ℤ rho) -ℤ E ≡ S *ℤ A -ℤ (E -ℤ S *ℤ rho)
floor_down S A rho E = alike (S ∷ A ∷ rho ∷ E ∷ []) (var 0 ⊗ (var 1 ⊕ var 2) ⊖ var 3) (var 0 ⊗ var 1 ⊖ (var 3 ⊖ var 0 ⊗ var 2)) refl

pub cancels : (z : ℤ) → neg_ℤ z +ℤ z ≡ pos 0
cancels z = alike (z ∷ []) (opp (var 0) ⊕ var 0) (num (pos 0)) refl

pub both_ends : (t F N W : ℤ) → t -ℤ N *ℤ W +ℤ (F *ℤ W -ℤ t) ≡ (F -ℤ N) *ℤ W
both_ends t F N W = alike (t ∷ F ∷ N ∷ W ∷ []) (var 0 ⊖ var 2 ⊗ var 3 ⊕ (var 1 ⊗ var 3 ⊖ var 0)) ((var 1 ⊖ var 2) ⊗ var 3) refl

pub first_of_sum : (f h : ℤ) → f +ℤ h -ℤ h ≡ f
first_of_sum f h = alike (f ∷ h ∷ []) (var 0 ⊕ var 1 ⊖ var 1) (var 0) refl

pub negated_both : (f h : ℤ) → neg_ℤ f +ℤ neg_ℤ h ≡ neg_ℤ (f +ℤ h)
negated_both f h = alike (f ∷ h ∷ []) (opp (var 0) ⊕ opp (var 1)) (opp (var 0 ⊕ var 1)) refl

-- the segment
pub scaled_mix : (S Q i j k p q r : ℤ) → S *ℤ (Q *ℤ i *ℤ p +ℤ Q *ℤ j *ℤ q +ℤ Q *ℤ k *ℤ r) ≡ S *ℤ (Q *ℤ (i *ℤ p +ℤ j *ℤ q +ℤ k *ℤ r))
scaled_mix S Q i j k p q r =
    alike (S ∷ Q ∷ i ∷ j ∷ k ∷ p ∷ q ∷ r ∷ []) (var 0 ⊗ (var 1 ⊗ var 2 ⊗ var 5 ⊕ var 1 ⊗ var 3 ⊗ var 6 ⊕ var 1 ⊗ var 4 ⊗ var 7))
    (var 0 ⊗ (var 1 ⊗ (var 2 ⊗ var 5 ⊕ var 3 ⊗ var 6 ⊕ var 4 ⊗ var 7))) refl

pub moved_out : (S h e : ℤ) → S *ℤ (h *ℤ e) ≡ S *ℤ h *ℤ e
moved_out S h e = alike (S ∷ h ∷ e ∷ []) (var 0 ⊗ (var 1 ⊗ var 2)) (var 0 ⊗ var 1 ⊗ var 2) refl

pub segment_height : (S x1 x2 x3 d1 d2 d3 : ℤ) → S *ℤ (x1 *ℤ d1 +ℤ x2 *ℤ d2 +ℤ x3 *ℤ d3) ≡ S *ℤ x1 *ℤ d1 +ℤ S *ℤ x2 *ℤ d2 +ℤ S *ℤ x3 *ℤ d3
segment_height S x1 x2 x3 d1 d2 d3 =
    alike (S ∷ x1 ∷ x2 ∷ x3 ∷ d1 ∷ d2 ∷ d3 ∷ []) (var 0 ⊗ (var 1 ⊗ var 4 ⊕ var 2 ⊗ var 5 ⊕ var 3 ⊗ var 6))
    (var 0 ⊗ var 1 ⊗ var 4 ⊕ var 0 ⊗ var 2 ⊗ var 5 ⊕ var 0 ⊗ var 3 ⊗ var 6) refl

pub segment_square : (t d1 d2 d3 : ℤ) → t *ℤ d1 *ℤ d1 +ℤ t *ℤ d2 *ℤ d2 +ℤ t *ℤ d3 *ℤ d3 ≡ t *ℤ (d1 *ℤ d1 +ℤ d2 *ℤ d2 +ℤ d3 *ℤ d3)
segment_square t d1 d2 d3 =
    alike (t ∷ d1 ∷ d2 ∷ d3 ∷ []) (var 0 ⊗ var 1 ⊗ var 1 ⊕ var 0 ⊗ var 2 ⊗ var 2 ⊕ var 0 ⊗ var 3 ⊗ var 3)
    (var 0 ⊗ (var 1 ⊗ var 1 ⊕ var 2 ⊗ var 2 ⊕ var 3 ⊗ var 3)) refl

pub segment_flat : (S x1 x2 x3 q h : ℤ) → S *ℤ S *ℤ ((x1 *ℤ x1 +ℤ x2 *ℤ x2 +ℤ x3 *ℤ x3) *ℤ q -ℤ h *ℤ h) ≡
    (S *ℤ x1 *ℤ (S *ℤ x1) +ℤ S *ℤ x2 *ℤ (S *ℤ x2) +ℤ S *ℤ x3 *ℤ (S *ℤ x3)) *ℤ q -ℤ S *ℤ h *ℤ (S *ℤ h)
segment_flat S x1 x2 x3 q h =
    alike (S ∷ x1 ∷ x2 ∷ x3 ∷ q ∷ h ∷ []) (var 0 ⊗ var 0 ⊗ ((var 1 ⊗ var 1 ⊕ var 2 ⊗ var 2 ⊕ var 3 ⊗ var 3) ⊗ var 4 ⊖ var 5 ⊗ var 5))
    ((var 0 ⊗ var 1 ⊗ (var 0 ⊗ var 1) ⊕ var 0 ⊗ var 2 ⊗ (var 0 ⊗ var 2) ⊕ var 0 ⊗ var 3 ⊗ (var 0 ⊗ var 3)) ⊗ var 4 ⊖ var 0 ⊗ var 5 ⊗
    (var 0 ⊗ var 5)) refl

pub segment_none : (t d1 d2 d3 : ℤ) → (t *ℤ d1 *ℤ (t *ℤ d1) +ℤ t *ℤ d2 *ℤ (t *ℤ d2) +ℤ t *ℤ d3 *ℤ (t *ℤ d3)) *ℤ
    (d1 *ℤ d1 +ℤ d2 *ℤ d2 +ℤ d3 *ℤ d3) -ℤ t *ℤ (d1 *ℤ d1 +ℤ d2 *ℤ d2 +ℤ d3 *ℤ d3) *ℤ (t *ℤ (d1 *ℤ d1 +ℤ d2 *ℤ d2 +ℤ d3 *ℤ d3)) ≡ pos 0
segment_none t d1 d2 d3 =
    alike (t ∷ d1 ∷ d2 ∷ d3 ∷ []) ((var 0 ⊗ var 1 ⊗ (var 0 ⊗ var 1) ⊕ var 0 ⊗ var 2 ⊗ (var 0 ⊗ var 2) ⊕ var 0 ⊗ var 3 ⊗ (var 0 ⊗ var 3)) ⊗
    (var 1 ⊗ var 1 ⊕ var 2 ⊗ var 2 ⊕ var 3 ⊗ var 3) ⊖ var 0 ⊗ (var 1 ⊗ var 1 ⊕ var 2 ⊗ var 2 ⊕ var 3 ⊗ var 3) ⊗
    (var 0 ⊗ (var 1 ⊗ var 1 ⊕ var 2 ⊗ var 2 ⊕ var 3 ⊗ var 3))) (num (pos 0)) refl

pub segment_low : (t N q D : ℤ) → t *ℤ q -ℤ N *ℤ q *ℤ D ≡ q *ℤ (t -ℤ N *ℤ D)
segment_low t N q D = alike (t ∷ N ∷ q ∷ D ∷ []) (var 0 ⊗ var 2 ⊖ var 1 ⊗ var 2 ⊗ var 3) (var 2 ⊗ (var 0 ⊖ var 1 ⊗ var 3)) refl

pub segment_high : (t N q D : ℤ) → N *ℤ q *ℤ D -ℤ t *ℤ q ≡ q *ℤ (N *ℤ D -ℤ t)
segment_high t N q D = alike (t ∷ N ∷ q ∷ D ∷ []) (var 1 ⊗ var 2 ⊗ var 3 ⊖ var 0 ⊗ var 2) (var 2 ⊗ (var 1 ⊗ var 3 ⊖ var 0)) refl

pub cancels_right : (y : ℤ) → y +ℤ neg_ℤ y ≡ pos 0
cancels_right y = alike (y ∷ []) (var 0 ⊕ opp (var 0)) (num (pos 0)) refl

pub wider_by : (s r q D x : ℤ) → s *ℤ q *ℤ D -ℤ x ≡ (s -ℤ r) *ℤ (q *ℤ D) +ℤ (r *ℤ q *ℤ D -ℤ x)
wider_by s r q D x =
    alike (s ∷ r ∷ q ∷ D ∷ x ∷ []) (var 0 ⊗ var 2 ⊗ var 3 ⊖ var 4)
    ((var 0 ⊖ var 1) ⊗ (var 2 ⊗ var 3) ⊕ (var 1 ⊗ var 2 ⊗ var 3 ⊖ var 4)) refl

pub no_reach : (q D y : ℤ) → pos 0 *ℤ q *ℤ D -ℤ y ≡ neg_ℤ y
no_reach q D y = alike (q ∷ D ∷ y ∷ []) (num (pos 0) ⊗ var 0 ⊗ var 1 ⊖ var 2) (opp (var 2)) refl

-- early exits
pub all_negative : (i j k f g h : ℤ) → neg_ℤ (i *ℤ f +ℤ j *ℤ g +ℤ k *ℤ h) ≡ i +ℤ j +ℤ k +ℤ
    (i *ℤ (neg_ℤ f -ℤ pos 1) +ℤ j *ℤ (neg_ℤ g -ℤ pos 1) +ℤ k *ℤ (neg_ℤ h -ℤ pos 1))
all_negative i j k f g h =
    alike (i ∷ j ∷ k ∷ f ∷ g ∷ h ∷ []) (opp (var 0 ⊗ var 3 ⊕ var 1 ⊗ var 4 ⊕ var 2 ⊗ var 5))
    (var 0 ⊕ var 1 ⊕ var 2 ⊕ (var 0 ⊗ (opp (var 3) ⊖ num (pos 1)) ⊕ var 1 ⊗ (opp (var 4) ⊖ num (pos 1)) ⊕ var 2 ⊗
    (opp (var 5) ⊖ num (pos 1)))) refl

pub separate : (R D m x y z u1 u2 u3 : ℤ) → (u1 *ℤ u1 +ℤ u2 *ℤ u2 +ℤ u3 *ℤ u3) *ℤ (R *ℤ (D *ℤ D) -ℤ (x *ℤ x +ℤ y *ℤ y +ℤ z *ℤ z)) +ℤ
    (D *ℤ D *ℤ (m *ℤ m -ℤ R *ℤ (u1 *ℤ u1 +ℤ u2 *ℤ u2 +ℤ u3 *ℤ u3)) +ℤ
    ((x *ℤ u1 +ℤ y *ℤ u2 +ℤ z *ℤ u3 -ℤ m *ℤ D) *ℤ (x *ℤ u1 +ℤ y *ℤ u2 +ℤ z *ℤ u3 +ℤ m *ℤ D) +ℤ
    ((y *ℤ u3 -ℤ z *ℤ u2) *ℤ (y *ℤ u3 -ℤ z *ℤ u2) +ℤ (z *ℤ u1 -ℤ x *ℤ u3) *ℤ (z *ℤ u1 -ℤ x *ℤ u3) +ℤ (x *ℤ u2 -ℤ y *ℤ u1) *ℤ
    (x *ℤ u2 -ℤ y *ℤ u1)))) ≡ pos 0
separate R D m x y z u1 u2 u3 =
    alike (R ∷ D ∷ m ∷ x ∷ y ∷ z ∷ u1 ∷ u2 ∷ u3 ∷ []) ((var 6 ⊗ var 6 ⊕ var 7 ⊗ var 7 ⊕ var 8 ⊗ var 8) ⊗
    (var 0 ⊗ (var 1 ⊗ var 1) ⊖ (var 3 ⊗ var 3 ⊕ var 4 ⊗ var 4 ⊕ var 5 ⊗ var 5)) ⊕
    (var 1 ⊗ var 1 ⊗ (var 2 ⊗ var 2 ⊖ var 0 ⊗ (var 6 ⊗ var 6 ⊕ var 7 ⊗ var 7 ⊕ var 8 ⊗ var 8)) ⊕
    ((var 3 ⊗ var 6 ⊕ var 4 ⊗ var 7 ⊕ var 5 ⊗ var 8 ⊖ var 2 ⊗ var 1) ⊗ (var 3 ⊗ var 6 ⊕ var 4 ⊗ var 7 ⊕ var 5 ⊗ var 8 ⊕ var 2 ⊗ var 1) ⊕
    ((var 4 ⊗ var 8 ⊖ var 5 ⊗ var 7) ⊗ (var 4 ⊗ var 8 ⊖ var 5 ⊗ var 7) ⊕ (var 5 ⊗ var 6 ⊖ var 3 ⊗ var 8) ⊗ (var 5 ⊗ var 6 ⊖ var 3 ⊗ var 8) ⊕
    (var 3 ⊗ var 7 ⊖ var 4 ⊗ var 6) ⊗ (var 3 ⊗ var 7 ⊖ var 4 ⊗ var 6))))) (num (pos 0)) refl

pub twice_more : (x y : ℤ) → x -ℤ y +ℤ (y +ℤ y) ≡ x +ℤ y
twice_more x y = alike (x ∷ y ∷ []) (var 0 ⊖ var 1 ⊕ (var 1 ⊕ var 1)) (var 0 ⊕ var 1) refl

pub beyond : (i j k p q r m : ℤ) → i *ℤ p +ℤ j *ℤ q +ℤ k *ℤ r -ℤ m *ℤ (i +ℤ j +ℤ k) ≡ i *ℤ (p -ℤ m) +ℤ j *ℤ (q -ℤ m) +ℤ k *ℤ (r -ℤ m)
beyond i j k p q r m =
    alike (i ∷ j ∷ k ∷ p ∷ q ∷ r ∷ m ∷ []) (var 0 ⊗ var 3 ⊕ var 1 ⊗ var 4 ⊕ var 2 ⊗ var 5 ⊖ var 6 ⊗ (var 0 ⊕ var 1 ⊕ var 2))
    (var 0 ⊗ (var 3 ⊖ var 6) ⊕ var 1 ⊗ (var 4 ⊖ var 6) ⊕ var 2 ⊗ (var 5 ⊖ var 6)) refl
