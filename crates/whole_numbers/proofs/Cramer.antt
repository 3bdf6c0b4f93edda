-- The crossing, by Cramer's rule over the whole numbers. Assumes nothing.
use mathlib.Core.Path.{◌≡◌, refl, sym, ap, ◌∙◌}
use Prim.Native.Nat.{ℕ, suc, ◌*◌}
use native.Mathlib.Omega.{arith}
use lib.IntN.{ℤ, pos, negsuc, neg_ℤ, nat_abs, ◌+ℤ◌, ◌-ℤ◌, ◌*ℤ◌, +ℤ_idl, +ℤ_idr, +ℤ_invr, +ℤ-neg_ℤ_cancel, *ℤ-zero}
use Rattle.wide_integers.proofs.Integers.{pp, np, neg_pp, neg_np}
use Rattle.whole_numbers.specs.Points.{Point, cross_p, dot_p}
use Rattle.whole_numbers.specs.WholeTriangle.{add_p, scale_p}
use Rattle.whole_numbers.proofs.Decisions.{signed_by}
use Rattle.wide_integers.proofs.Polynomials.{ring, times_neg, times_comm, diff_minus, diff_add, diff_left, diff_right}
use Rattle.wide_integers.proofs.Polynomials.{diff_equal, Diff}
use Rattle.whole_numbers.proofs.Polynomials.{triple}

-- ---- a dot is linear, and 0 with a cross of its own
linear : (p q : ℤ) (a b c : Point) → dot_p (add_p (scale_p p a) (scale_p q b)) c ≡ p *ℤ dot_p a c +ℤ q *ℤ dot_p b c
linear p q a b c = simp ring

cycle : (a b c : Point) → dot_p a (cross_p b c) ≡ dot_p b (cross_p c a)
cycle a b c = simp ring

minus_swapped : (p q : ℤ) → p *ℤ q -ℤ q *ℤ p ≡ pos 0
minus_swapped p q = ap (λ (z : ℤ). p *ℤ q -ℤ z) (times_comm q p) ∙ +ℤ_invr (p *ℤ q)

self_cross : (a b : Point) → dot_p a (cross_p b b) ≡ pos 0
self_cross a b =
    ap (λ (z : ℤ). a.x *ℤ z +ℤ a.y *ℤ (cross_p b b).y +ℤ a.z *ℤ (cross_p b b).z) (minus_swapped b.y b.z)
    ∙ ap (λ (z : ℤ). a.x *ℤ pos 0 +ℤ a.y *ℤ z +ℤ a.z *ℤ (cross_p b b).z) (minus_swapped b.z b.x)
    ∙ ap (λ (z : ℤ). a.x *ℤ pos 0 +ℤ a.y *ℤ pos 0 +ℤ a.z *ℤ z) (minus_swapped b.x b.y)
    ∙ simp (*ℤ-zero)

pub own_first : (a b : Point) → dot_p a (cross_p a b) ≡ pos 0
own_first a b = cycle a a b ∙ cycle a b a ∙ self_cross b a

pub own_second : (a b : Point) → dot_p b (cross_p a b) ≡ pos 0
own_second a b = cycle b a b ∙ self_cross a b

-- ---- from the point where line and plane meet to the determinants
module _ (k t u v : ℤ) (off dir a b : Point) (m : add_p (scale_p k off) (scale_p t dir) ≡ add_p (scale_p u a) (scale_p v b)) where
  against : (c : Point) → k *ℤ dot_p off c +ℤ t *ℤ dot_p dir c ≡ u *ℤ dot_p a c +ℤ v *ℤ dot_p b c
  against c = sym (linear k t off dir c) ∙ ap (λ (p : Point). dot_p p c) m ∙ linear u v a b c

  pub cramer_u : k *ℤ dot_p off (cross_p dir b) ≡ u *ℤ dot_p a (cross_p dir b)
  cramer_u =
      sym (ap (λ (z : ℤ). k *ℤ dot_p off (cross_p dir b) +ℤ t *ℤ z) (own_first dir b) ∙ simp (*ℤ-zero, +ℤ_idr))
      ∙ against (cross_p dir b)
      ∙ ap (λ (z : ℤ). u *ℤ dot_p a (cross_p dir b) +ℤ v *ℤ z) (own_second dir b) ∙ simp (*ℤ-zero, +ℤ_idr)

  pub cramer_v : k *ℤ dot_p dir (cross_p off a) ≡ v *ℤ dot_p a (cross_p dir b)
  cramer_v =
      ap (λ (z : ℤ). k *ℤ z) (cycle dir off a)
      ∙ sym (ap (λ (z : ℤ). k *ℤ dot_p off (cross_p a dir) +ℤ t *ℤ z) (own_second a dir) ∙ simp (*ℤ-zero, +ℤ_idr))
      ∙ against (cross_p a dir)
      ∙ ap (λ (z : ℤ). u *ℤ z +ℤ v *ℤ dot_p b (cross_p a dir)) (own_first a dir) ∙ (simp (*ℤ-zero, +ℤ_idl))
      ∙ ap (λ (z : ℤ). v *ℤ z) (cycle b a dir)

  pub cramer_t : k *ℤ dot_p b (cross_p off a) ≡ t *ℤ dot_p a (cross_p dir b)
  cramer_t =
      ap (λ (z : ℤ). k *ℤ z) (cycle b off a)
      ∙ moved (k *ℤ dot_p off (cross_p a b)) (t *ℤ dot_p dir (cross_p a b))
      (against (cross_p a b) ∙ ap (λ (z : ℤ). u *ℤ z +ℤ v *ℤ dot_p b (cross_p a b)) (own_first a b)
      ∙ ap (λ (z : ℤ). u *ℤ pos 0 +ℤ v *ℤ z) (own_second a b) ∙ simp (*ℤ-zero))
      ∙ sym (times_neg t (dot_p dir (cross_p a b)))
      ∙ ap (λ (z : ℤ). t *ℤ z) (sym (triple a dir b))
    where
      moved : (x y : ℤ) → x +ℤ y ≡ pos 0 → x ≡ neg_ℤ y
      moved x y h = sym (+ℤ-neg_ℤ_cancel x y) ∙ ap (λ (z : ℤ). z -ℤ y) h ∙ +ℤ_idl (neg_ℤ y)

-- ---- with the divisor's sign
sign_moves : (k w n d : ℤ) → k *ℤ n ≡ w *ℤ d → k *ℤ signed_by d n ≡ w *ℤ pos (nat_abs d)
sign_moves k w n (pos d) h = h
sign_moves k w n (negsuc d) h = times_neg k n ∙ ap neg_ℤ h ∙ sym (times_neg w (negsuc d))

pos_pp : (k : ℕ) (z : ℤ) → pp (pos k *ℤ z) ≡ k * pp z
pos_pp k (pos n) = refl
pos_pp k (negsuc n) = neg_pp (pos (k * suc n)) ∙ omega arith

pos_np : (k : ℕ) (z : ℤ) → np (pos k *ℤ z) ≡ k * np z
pos_np k (pos n) = omega arith
pos_np k (negsuc n) = neg_np (pos (k * suc n))

pub parts : (K δ : ℕ) (w n d : ℤ) → δ ≡ nat_abs d → pos K *ℤ n ≡ w *ℤ d
    → (K * pp (signed_by d n) ≡ δ * pp w) × (K * np (signed_by d n) ≡ δ * np w)
parts K δ w n d e h =
    let q : pos K *ℤ signed_by d n ≡ pos δ *ℤ w = sign_moves (pos K) w n d h ∙ times_comm w (pos (nat_abs d)) ∙ ap (λ (z : ℕ). pos z *ℤ w)
    (sym e) in
    (sym (pos_pp K (signed_by d n)) ∙ ap pp q ∙ pos_pp δ w, sym (pos_np K (signed_by d n)) ∙ ap np q ∙ pos_np δ w)

-- ---- and back: where the determinant is not 0 the line meets the plane there
diff_triple : (a b c : Point) → Diff (dot_p a (cross_p b c))
    (a.x *ℤ (b.y *ℤ c.z) +ℤ a.y *ℤ (b.z *ℤ c.x) +ℤ a.z *ℤ (b.x *ℤ c.y))
    (a.x *ℤ (b.z *ℤ c.y) +ℤ a.y *ℤ (b.x *ℤ c.z) +ℤ a.z *ℤ (b.y *ℤ c.x))
diff_triple a b c =
    diff_add
    (diff_add (diff_left a.x (diff_minus (b.y *ℤ c.z) (b.z *ℤ c.y))) (diff_left a.y (diff_minus (b.z *ℤ c.x) (b.x *ℤ c.z))))
    (diff_left a.z (diff_minus (b.x *ℤ c.y) (b.y *ℤ c.x)))

module _ (o d a b : Point) where
  meet_x : dot_p a (cross_p d b) *ℤ o.x +ℤ dot_p b (cross_p o a) *ℤ d.x ≡ dot_p o (cross_p d b) *ℤ a.x +ℤ dot_p d (cross_p o a) *ℤ b.x
  meet_x =
      diff_equal (diff_add (diff_right (diff_triple a d b) o.x) (diff_right (diff_triple b o a) d.x))
      (diff_add (diff_right (diff_triple o d b) a.x) (diff_right (diff_triple d o a) b.x)) (simp ring)

  meet_y : dot_p a (cross_p d b) *ℤ o.y +ℤ dot_p b (cross_p o a) *ℤ d.y ≡ dot_p o (cross_p d b) *ℤ a.y +ℤ dot_p d (cross_p o a) *ℤ b.y
  meet_y =
      diff_equal (diff_add (diff_right (diff_triple a d b) o.y) (diff_right (diff_triple b o a) d.y))
      (diff_add (diff_right (diff_triple o d b) a.y) (diff_right (diff_triple d o a) b.y)) (simp ring)

  meet_z : dot_p a (cross_p d b) *ℤ o.z +ℤ dot_p b (cross_p o a) *ℤ d.z ≡ dot_p o (cross_p d b) *ℤ a.z +ℤ dot_p d (cross_p o a) *ℤ b.z
  meet_z =
      diff_equal (diff_add (diff_right (diff_triple a d b) o.z) (diff_right (diff_triple b o a) d.z))
      (diff_add (diff_right (diff_triple o d b) a.z) (diff_right (diff_triple d o a) b.z)) (simp ring)

  -- with the sign of the determinant
  all_signed : (k t u v : ℤ) (x y z w : ℤ) → k *ℤ x +ℤ t *ℤ y ≡ u *ℤ z +ℤ v *ℤ w
      → pos (nat_abs k) *ℤ x +ℤ signed_by k t *ℤ y ≡ signed_by k u *ℤ z +ℤ signed_by k v *ℤ w
  all_signed (pos k) t u v x y z w h = h
  all_signed (negsuc k) t u v x y z w h = sym (both (negsuc k) t x y) ∙ ap neg_ℤ h ∙ both u v z w
    where
      both : (p q x y : ℤ) → neg_ℤ (p *ℤ x +ℤ q *ℤ y) ≡ neg_ℤ p *ℤ x +ℤ neg_ℤ q *ℤ y
      both p q x y = simp ring

  pub meet :
      let Δ = dot_p a (cross_p d b) in
      add_p (scale_p (pos (nat_abs Δ)) o) (scale_p (signed_by Δ (dot_p b (cross_p o a))) d)
      ≡ add_p (scale_p (signed_by Δ (dot_p o (cross_p d b))) a) (scale_p (signed_by Δ (dot_p d (cross_p o a))) b)
  meet = λ i. record {
    x =
        all_signed (dot_p a (cross_p d b)) (dot_p b (cross_p o a)) (dot_p o (cross_p d b)) (dot_p d (cross_p o a)) o.x d.x a.x
        b.x meet_x i;
    y =
        all_signed (dot_p a (cross_p d b)) (dot_p b (cross_p o a)) (dot_p o (cross_p d b)) (dot_p d (cross_p o a)) o.y d.y a.y
        b.y meet_y i;
    z =
        all_signed (dot_p a (cross_p d b)) (dot_p b (cross_p o a)) (dot_p o (cross_p d b)) (dot_p d (cross_p o a)) o.z d.z a.z
        b.z meet_z i;
  }
