-- The sheared space: a point of the line in the triangle, in space and as the line sees it, over plain whole numbers. Assumes nothing.
use Rattle.std.proofs.Common.{◌≡◌, ℕ, ◌+◌, ◌*◌, ◌<◌, ℤ, pos, ◌+ℤ◌, ◌-ℤ◌, ◌*ℤ◌, neg_ℤ, sym, ap, ◌∙◌, arith}
use native.Mathlib.Nat.{eq_of_mul-eq-mul_right}
use Rattle.wide_integers.specs.Determinant.{determinant}
use Rattle.wide_integers.proofs.Integers.{pp, np}
use Rattle.wide_integers.proofs.Polynomials.{own, own_pos, rep_add, rep_sub, rep_neg, rep_mul, equal, ring, times_assoc}
use Rattle.wide_integers.proofs.Polynomials.{times_left_comm}
use Rattle.wide_integers.proofs.Polynomials.{diff_minus, diff_add, diff_left, diff_right, diff_equal, equal_of_minus, Diff}
use Rattle.wide_integers.proofs.Order.{rep_same}
use Rattle.exact_depth.proofs.Weights.{spread}

-- ---- a positive factor cancels
pub cancel_left : (S : ℕ) (x y : ℤ) → 0 < S → pos S *ℤ x ≡ pos S *ℤ y → x ≡ y
cancel_left S x y p h =
    let e = rep_same (rep_mul (own_pos S) (own x)) (rep_mul (own_pos S) (own y)) h in
    let e' : (pp x + np y) * S ≡ (pp y + np x) * S = omega (arith, e) in
    equal (own x) (own y) (eq_of_mul-eq-mul_right S p (pp x + np y) (pp y + np x) e')

-- ---- sums with weights
pub mix_minus : (i j k x y z u v w p q : ℤ)
    → i *ℤ (x *ℤ p -ℤ u *ℤ q) +ℤ j *ℤ (y *ℤ p -ℤ v *ℤ q) +ℤ k *ℤ (z *ℤ p -ℤ w *ℤ q)
    ≡ (i *ℤ x +ℤ j *ℤ y +ℤ k *ℤ z) *ℤ p -ℤ (i *ℤ u +ℤ j *ℤ v +ℤ k *ℤ w) *ℤ q
mix_minus i j k x y z u v w p q = simp ring

pub mix_times : (i j k x y z p : ℤ) → i *ℤ (p *ℤ x) +ℤ j *ℤ (p *ℤ y) +ℤ k *ℤ (p *ℤ z) ≡ p *ℤ (i *ℤ x +ℤ j *ℤ y +ℤ k *ℤ z)
mix_times i j k x y z p = simp ring

pub mix_more : (i j k x y z g : ℤ) → i *ℤ g *ℤ x +ℤ j *ℤ g *ℤ y +ℤ k *ℤ g *ℤ z ≡ g *ℤ (i *ℤ x +ℤ j *ℤ y +ℤ k *ℤ z)
mix_more i j k x y z g = simp ring

-- ---- differences of differences
diff_neg : {z P N : ℤ} → Diff z P N → Diff (neg_ℤ z) N P
diff_neg {z} {P} {N} a = record { is = ap (λ (x : ℤ). neg_ℤ z +ℤ x) (sym a.is) ∙ back z N }
  where
    back : (z N : ℤ) → neg_ℤ z +ℤ (z +ℤ N) ≡ N
    back z N = equal (rep_add (rep_neg (own z)) (rep_add (own z) (own N))) (own N) (omega arith)

diff_mul : {z w P N Q K : ℤ} → Diff z P N → Diff w Q K → Diff (z *ℤ w) (P *ℤ Q +ℤ N *ℤ K) (P *ℤ K +ℤ N *ℤ Q)
diff_mul {z} {w} {P} {N} {Q} {K} a b =
    record {
      is =
          (λ s. z *ℤ w +ℤ (sym a.is s *ℤ K +ℤ N *ℤ sym b.is s)) ∙ shuffle z w N K
          ∙ (λ s. a.is s *ℤ b.is s +ℤ N *ℤ K);
    }
  where
    shuffle : (z w N K : ℤ) → z *ℤ w +ℤ ((z +ℤ N) *ℤ K +ℤ N *ℤ (w +ℤ K)) ≡ (z +ℤ N) *ℤ (w +ℤ K) +ℤ N *ℤ K
    shuffle z w N K = simp ring

-- ---- turns: those of the sheared spots, by those of the space
determinant_diff : {a b c d A A' B B' C C' E E' : ℤ} → Diff a A A' → Diff b B B' → Diff c C C' → Diff d E E'
    → Diff (determinant a b c d) ((A *ℤ E +ℤ A' *ℤ E') +ℤ (B *ℤ C' +ℤ B' *ℤ C)) ((A *ℤ E' +ℤ A' *ℤ E) +ℤ (B *ℤ C +ℤ B' *ℤ C'))
determinant_diff a b c d = diff_add (diff_mul a d) (diff_neg (diff_mul b c))

determinant_sheared : (p q r s v w a b m : ℤ)
    → determinant (p *ℤ m -ℤ r *ℤ a) (q *ℤ m -ℤ r *ℤ b) (s *ℤ m -ℤ w *ℤ a) (v *ℤ m -ℤ w *ℤ b)
    ≡ m *ℤ (m *ℤ determinant p q s v +ℤ a *ℤ determinant q r v w +ℤ b *ℤ determinant r p w s)
determinant_sheared p q r s v w a b m =
    diff_equal
    (determinant_diff (diff_minus (p *ℤ m) (r *ℤ a)) (diff_minus (q *ℤ m) (r *ℤ b)) (diff_minus (s *ℤ m) (w *ℤ a))
    (diff_minus (v *ℤ m) (w *ℤ b)))
    (diff_left m
    (diff_add (diff_add (diff_left m (diff_minus (p *ℤ v) (q *ℤ s))) (diff_left a (diff_minus (q *ℤ w) (r *ℤ v))))
    (diff_left b (diff_minus (r *ℤ s) (p *ℤ w)))))
    (simp ring)

-- seen from a side: the depth k times the main coordinate
determinant_aside : (p r s w a m k : ℤ) → determinant (p *ℤ m -ℤ r *ℤ a) (k *ℤ r) (s *ℤ m -ℤ w *ℤ a) (k *ℤ w) ≡ k *ℤ m *ℤ determinant p r
    s w
determinant_aside p r s w a m k =
    diff_equal
    (diff_add (diff_right (diff_minus (p *ℤ m) (r *ℤ a)) (k *ℤ w)) (diff_neg (diff_left (k *ℤ r) (diff_minus (s *ℤ m) (w *ℤ a)))))
    (diff_left (k *ℤ m) (diff_minus (p *ℤ w) (r *ℤ s))) (simp ring)

-- the turns of three corners about the origin add up to that of the edges from the first
pub determinant_edges : (p q r s v w : ℤ) → determinant r s v w +ℤ determinant v w p q +ℤ determinant p q r s ≡ determinant (r -ℤ p)
    (s -ℤ q) (v -ℤ p) (w -ℤ q)
determinant_edges p q r s v w =
    diff_equal
    (diff_add (diff_add (diff_minus (r *ℤ w) (s *ℤ v)) (diff_minus (v *ℤ q) (w *ℤ p))) (diff_minus (p *ℤ s) (q *ℤ r)))
    (determinant_diff (diff_minus r p) (diff_minus s q) (diff_minus v p) (diff_minus w q)) (simp ring)

-- seen from another origin an edge is the same
pub edge_from : (o p r : ℤ) → (r -ℤ o) -ℤ (p -ℤ o) ≡ r -ℤ p
edge_from o p r = equal (rep_sub (rep_sub (own r) (own o)) (rep_sub (own p) (own o))) (rep_sub (own r) (own p)) (omega arith)

-- ---- of three corners
pub spread_sheared : (p q r s v w x y z a b m : ℤ)
    → spread (p *ℤ m -ℤ r *ℤ a) (q *ℤ m -ℤ r *ℤ b) (s *ℤ m -ℤ w *ℤ a) (v *ℤ m -ℤ w *ℤ b) (x *ℤ m -ℤ z *ℤ a) (y *ℤ m -ℤ z *ℤ b)
    ≡ m *ℤ (m *ℤ spread p q s v x y +ℤ a *ℤ spread q r v w y z +ℤ b *ℤ spread r p w s z x)
spread_sheared p q r s v w x y z a b m =
    (λ t. determinant_sheared s v w x y z a b m t +ℤ determinant_sheared x y z p q r a b m t +ℤ determinant_sheared p q r s v w a b m t)
    ∙ gather m a b (determinant s v x y) (determinant x y p q) (determinant p q s v) (determinant v w y z) (determinant y z q r)
    (determinant q r v w) (determinant w s z x)
    (determinant z x r p) (determinant r p w s)
  where
    gather : (m a b e f g e' f' g' e'' f'' g'' : ℤ)
        → m *ℤ (m *ℤ e +ℤ a *ℤ e' +ℤ b *ℤ e'') +ℤ m *ℤ (m *ℤ f +ℤ a *ℤ f' +ℤ b *ℤ f'') +ℤ m *ℤ (m *ℤ g +ℤ a *ℤ g' +ℤ b *ℤ g'')
        ≡ m *ℤ (m *ℤ (e +ℤ f +ℤ g) +ℤ a *ℤ (e' +ℤ f' +ℤ g') +ℤ b *ℤ (e'' +ℤ f'' +ℤ g''))
    gather m a b e f g e' f' g' e'' f'' g'' = simp ring

pub spread_aside : (p r s w x z a m k : ℤ)
    → spread (p *ℤ m -ℤ r *ℤ a) (k *ℤ r) (s *ℤ m -ℤ w *ℤ a) (k *ℤ w) (x *ℤ m -ℤ z *ℤ a) (k *ℤ z) ≡ k *ℤ m *ℤ spread p r s w x z
spread_aside p r s w x z a m k =
    (λ t. determinant_aside s w x z a m k t +ℤ determinant_aside x z p r a m k t +ℤ determinant_aside p r s w a m k t)
    ∙ gather (k *ℤ m) (determinant s w x z) (determinant x z p r) (determinant p r s w)
  where
    gather : (n e f g : ℤ) → n *ℤ e +ℤ n *ℤ f +ℤ n *ℤ g ≡ n *ℤ (e +ℤ f +ℤ g)
    gather n e f g = simp ring

pub spread_flip : (p r s w x z : ℤ) → spread p r s w x z ≡ neg_ℤ (spread r p w s z x)
spread_flip p r s w x z = simp ring

-- ---- the line's point, in space and as the line sees it: X and M are the corners' weighted sums
module _ (S : ℕ) (some : 0 < S) (X M t a m : ℤ) (h : pos S *ℤ X ≡ t *ℤ a) (g : pos S *ℤ M ≡ t *ℤ m) where
  pub across_zero : X *ℤ m -ℤ M *ℤ a ≡ pos 0
  across_zero =
      minus_self (X *ℤ m) (M *ℤ a)
      (cancel_left S (X *ℤ m) (M *ℤ a) some
      (sym (times_assoc (pos S) X m) ∙ ap (λ (z : ℤ). z *ℤ m) h ∙ swap t a m ∙ ap (λ (z : ℤ). z *ℤ a) (sym g) ∙ times_assoc (pos S) M a))
    where
      swap : (t a m : ℤ) → t *ℤ a *ℤ m ≡ t *ℤ m *ℤ a
      swap t a m = simp ring

      minus_self : (x y : ℤ) → x ≡ y → x -ℤ y ≡ pos 0
      minus_self x y e = ap (λ (z : ℤ). z -ℤ y) e ∙ equal (rep_sub (own y) (own y)) (own_pos 0) (omega arith)

  pub depth_is : (K : ℤ) (G : ℕ) → K *ℤ m ≡ pos S *ℤ pos G → K *ℤ M ≡ t *ℤ pos G
  depth_is K G e =
      cancel_left S (K *ℤ M) (t *ℤ pos G) some
      (times_left_comm (pos S) K M ∙ ap (λ (z : ℤ). K *ℤ z) g ∙ times_left_comm K t m ∙ ap (λ (z : ℤ). t *ℤ z) e
      ∙ times_left_comm t (pos S) (pos G))

module _ (S K G X M t a m : ℤ) (e : K *ℤ m ≡ S *ℤ G) (g : K *ℤ M ≡ t) where
  pub across_back : X *ℤ m -ℤ M *ℤ a ≡ pos 0 → S *ℤ (G *ℤ X) ≡ t *ℤ a
  across_back h =
      sym (times_assoc S G X) ∙ ap (λ (z : ℤ). z *ℤ X) (sym e) ∙ swap K m X ∙ ap (λ (z : ℤ). K *ℤ z) (equal_of_minus (X *ℤ m) (M *ℤ a) h)
      ∙ sym (times_assoc K M a) ∙ ap (λ (z : ℤ). z *ℤ a) g
    where
      swap : (K m X : ℤ) → K *ℤ m *ℤ X ≡ K *ℤ (X *ℤ m)
      swap K m X = simp ring

  pub depth_back : S *ℤ (G *ℤ M) ≡ t *ℤ m
  depth_back = sym (times_assoc S G M) ∙ ap (λ (z : ℤ). z *ℤ M) (sym e) ∙ swap K m M ∙ ap (λ (z : ℤ). z *ℤ m) g
    where
      swap : (K m M : ℤ) → K *ℤ m *ℤ M ≡ K *ℤ M *ℤ m
      swap K m M = simp ring
