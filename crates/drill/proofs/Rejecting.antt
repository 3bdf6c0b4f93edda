-- What lies past a cap or to one side of the axis has no point in the drill. Assumes nothing.
use mathlib.Core.Path.{◌≡◌, refl, sym, ap, ◌∙◌}
use mathlib.Core.Logic.{◌⊎◌, inl, inr}
use mathlib.Core.Bool.{Bool, true, false, cond, ◌&&◌, ◌||◌, false≢true}
use mathlib.Core.List.{[], ◌∷◌}
use Prim.Native.Nat.{ℕ, suc, ◌+◌, ◌*◌, ◌≤◌, ◌<◌}
use native.Mathlib.Omega.{arith}
use lib.IntN.{ℤ, pos, negsuc, neg_ℤ, nat_abs, ◌+ℤ◌, ◌-ℤ◌, ◌*ℤ◌}
use lib.Signed.{lt_z, le_z}
use borrow.Author.Tests.{le-leb}
use Rattle.lists.proofs.JoinedTests.{and_first, and_second}
use Rattle.wide_integers.proofs.Integers.{pp, np}
use Rattle.wide_integers.proofs.Polynomials.{own, own_pos, rep_sub}
use Rattle.wide_integers.proofs.Order.{rep_lt, lt_rep}
use Rattle.drill.specs.Decision.{FromAxis}
use Rattle.wide_integers.proofs.Ring.{var, num, ◌⊕◌, ◌⊖◌, ◌⊗◌, opp, alike}
use Rattle.wide_integers.proofs.Signs.{Nonneg, Positive, natural, nonneg_as, positive_as, nonneg_sum, nonneg_times, positive_times}
use Rattle.wide_integers.proofs.Signs.{positive_nonneg, positive_sum, square_nonneg, nonneg_of_le, minus_of_le}
use Rattle.wide_integers.proofs.Signs.{le_of_nonneg, le_of_minus, positive_of_lt, no_positive_zero}
use Rattle.drill.proofs.Weighing.{Weights, total, sum_of, disc, In}
use Rattle.drill.specs.Code.{SideOf, all_above, all_below, one_side_of, beyond, outside}

or_cases : (p q : Bool) → (p || q) ≡ true → (p ≡ true) ⊎ (q ≡ true)
or_cases true q h = inl refl
or_cases false q h = inr h

-- ---- differences
positive_minus : (x y : ℤ) → lt_z x y ≡ true → Positive (y -ℤ x)
positive_minus x y h =
    let e = rep_lt (own x) (own y) h in
    let a = pp x in
    let b = np x in
    let c = pp y in
    let d = np y in
    let k : 0 + (d + a) < c + b + 0 = omega (arith, e) in
    positive_of_lt (y -ℤ x) (lt_rep (own_pos 0) (rep_sub (own y) (own x)) k)

-- ---- a mean of numbers above 0 is above 0
one_more : {x : ℤ} (p : Positive x) → x ≡ pos 1 +ℤ pos p.less
one_more p = let e : suc p.less ≡ 1 + p.less = omega arith in p.is ∙ ap pos e

module _ {i j k : ℤ} (hi : Nonneg i) (hj : Nonneg j) (hk : Nonneg k) (all : Positive (i +ℤ j +ℤ k)) where
  parted : (u v w : ℤ) → i +ℤ j +ℤ k +ℤ (i *ℤ u +ℤ j *ℤ v +ℤ k *ℤ w)
      ≡ i *ℤ (pos 1 +ℤ u) +ℤ j *ℤ (pos 1 +ℤ v) +ℤ k *ℤ (pos 1 +ℤ w)
  parted u v w =
      alike (i ∷ j ∷ k ∷ u ∷ v ∷ w ∷ []) (var 0 ⊕ var 1 ⊕ var 2 ⊕ (var 0 ⊗ var 3 ⊕ var 1 ⊗ var 4 ⊕ var 2 ⊗ var 5))
      (var 0 ⊗ (num (pos 1) ⊕ var 3) ⊕ var 1 ⊗ (num (pos 1) ⊕ var 4) ⊕ var 2 ⊗ (num (pos 1) ⊕ var 5)) refl

  positive_mix : {x y z : ℤ} → Positive x → Positive y → Positive z → Positive (i *ℤ x +ℤ j *ℤ y +ℤ k *ℤ z)
  positive_mix p q r =
      positive_as
      (parted (pos p.less) (pos q.less) (pos r.less)
      ∙ (λ s. i *ℤ sym (one_more p) s +ℤ j *ℤ sym (one_more q) s +ℤ k *ℤ sym (one_more r) s))
      (positive_sum all (nonneg_sum (nonneg_sum (nonneg_times hi (natural p.less)) (nonneg_times hj (natural q.less)))
      (nonneg_times hk (natural r.less))))

-- ---- past a cap
module _ {i j k : ℤ} (hi : Nonneg i) (hj : Nonneg j) (hk : Nonneg k) (all : Positive (i +ℤ j +ℤ k)) (x y z : ℤ) where
  cancels : i *ℤ (pos 0 -ℤ x) +ℤ j *ℤ (pos 0 -ℤ y) +ℤ k *ℤ (pos 0 -ℤ z) +ℤ (i *ℤ x +ℤ j *ℤ y +ℤ k *ℤ z) ≡ pos 0
  cancels =
      alike (i ∷ j ∷ k ∷ x ∷ y ∷ z ∷ [])
      (var 0 ⊗ (num (pos 0) ⊖ var 3) ⊕ var 1 ⊗ (num (pos 0) ⊖ var 4) ⊕ var 2 ⊗ (num (pos 0) ⊖ var 5)
      ⊕ (var 0 ⊗ var 3 ⊕ var 1 ⊗ var 4 ⊕ var 2 ⊗ var 5)) (num (pos 0)) refl

  none_below : lt_z x (pos 0) ≡ true → lt_z y (pos 0) ≡ true → lt_z z (pos 0) ≡ true → Nonneg (i *ℤ x +ℤ j *ℤ y +ℤ k *ℤ z) → ⊥
  none_below p q r h =
      no_positive_zero (positive_sum (positive_mix hi hj hk all (positive_minus x (pos 0) p) (positive_minus y (pos 0) q)
      (positive_minus z (pos 0) r)) h) cancels

-- ---- to one side
module _ (R L D S T : ℤ) (hL : Nonneg L) (enough : Nonneg (L *ℤ L -ℤ R)) (hD : Positive D) (hT : Nonneg T) where
  adds_up : (S -ℤ D *ℤ L) *ℤ (S -ℤ D *ℤ L +ℤ (D *ℤ L +ℤ D *ℤ L)) +ℤ (R *ℤ (D *ℤ D) -ℤ (S *ℤ S +ℤ T)) +ℤ (L *ℤ L -ℤ R) *ℤ (D *ℤ D) +ℤ T
      ≡ pos 0
  adds_up =
      alike (R ∷ L ∷ D ∷ S ∷ T ∷ [])
      ((var 3 ⊖ var 2 ⊗ var 1) ⊗ (var 3 ⊖ var 2 ⊗ var 1 ⊕ (var 2 ⊗ var 1 ⊕ var 2 ⊗ var 1))
      ⊕ (var 0 ⊗ (var 2 ⊗ var 2) ⊖ (var 3 ⊗ var 3 ⊕ var 4)) ⊕ (var 1 ⊗ var 1 ⊖ var 0) ⊗ (var 2 ⊗ var 2) ⊕ var 4) (num (pos 0)) refl

  too_far : Positive (S -ℤ D *ℤ L) → Nonneg (R *ℤ (D *ℤ D) -ℤ (S *ℤ S +ℤ T)) → ⊥
  too_far p h =
      let d : Nonneg (D *ℤ L) = nonneg_times (positive_nonneg hD) hL in
      no_positive_zero (positive_sum (positive_sum (positive_sum (positive_times p (positive_sum p (nonneg_sum d d))) h)
      (nonneg_times enough (nonneg_times (positive_nonneg hD) (positive_nonneg hD)))) hT) adds_up

  turned_about : R *ℤ (D *ℤ D) -ℤ (S *ℤ S +ℤ T) ≡ R *ℤ (D *ℤ D) -ℤ (neg_ℤ S *ℤ neg_ℤ S +ℤ T)
  turned_about =
      alike (R ∷ D ∷ S ∷ T ∷ []) (var 0 ⊗ (var 1 ⊗ var 1) ⊖ (var 2 ⊗ var 2 ⊕ var 3))
      (var 0 ⊗ (var 1 ⊗ var 1) ⊖ (opp (var 2) ⊗ opp (var 2) ⊕ var 3)) refl

module _ (R L T : ℤ) {i j k : ℤ} (hi : Nonneg i) (hj : Nonneg j) (hk : Nonneg k) (all : Positive (i +ℤ j +ℤ k)) (hL : Nonneg L)
    (enough : Nonneg (L *ℤ L -ℤ R)) (hT : Nonneg T) (x y z : ℤ) where
  abbrev D : ℤ
  D = i +ℤ j +ℤ k

  abbrev S : ℤ
  S = i *ℤ x +ℤ j *ℤ y +ℤ k *ℤ z

  above_is : i *ℤ (x -ℤ L) +ℤ j *ℤ (y -ℤ L) +ℤ k *ℤ (z -ℤ L) ≡ i *ℤ x +ℤ j *ℤ y +ℤ k *ℤ z -ℤ (i +ℤ j +ℤ k) *ℤ L
  above_is =
      alike (i ∷ j ∷ k ∷ x ∷ y ∷ z ∷ L ∷ []) (var 0 ⊗ (var 3 ⊖ var 6) ⊕ var 1 ⊗ (var 4 ⊖ var 6) ⊕ var 2 ⊗ (var 5 ⊖ var 6))
      (var 0 ⊗ var 3 ⊕ var 1 ⊗ var 4 ⊕ var 2 ⊗ var 5 ⊖ (var 0 ⊕ var 1 ⊕ var 2) ⊗ var 6) refl

  below_is : i *ℤ (neg_ℤ L -ℤ x) +ℤ j *ℤ (neg_ℤ L -ℤ y) +ℤ k *ℤ (neg_ℤ L -ℤ z) ≡ neg_ℤ (i *ℤ x +ℤ j *ℤ y +ℤ k *ℤ z) -ℤ (i +ℤ j +ℤ k) *ℤ L
  below_is =
      alike (i ∷ j ∷ k ∷ x ∷ y ∷ z ∷ L ∷ [])
      (var 0 ⊗ (opp (var 6) ⊖ var 3) ⊕ var 1 ⊗ (opp (var 6) ⊖ var 4) ⊕ var 2 ⊗ (opp (var 6) ⊖ var 5))
      (opp (var 0 ⊗ var 3 ⊕ var 1 ⊗ var 4 ⊕ var 2 ⊗ var 5) ⊖ (var 0 ⊕ var 1 ⊕ var 2) ⊗ var 6) refl

  none_one_side : one_side_of L x y z ≡ true
      → Nonneg (R *ℤ ((i +ℤ j +ℤ k) *ℤ (i +ℤ j +ℤ k)) -ℤ ((i *ℤ x +ℤ j *ℤ y +ℤ k *ℤ z) *ℤ (i *ℤ x +ℤ j *ℤ y +ℤ k *ℤ z) +ℤ T)) → ⊥
  unfolding one_side_of
  none_one_side e h = elim (or_cases (all_above L x y z) (all_below (neg_ℤ L) x y z) e) [
    | inl a ↦
        let p = and_first (lt_z L x) (lt_z L y && lt_z L z) a in
        let b = and_second (lt_z L x) (lt_z L y && lt_z L z) a in
        let q = and_first (lt_z L y) (lt_z L z) b in
        let r = and_second (lt_z L y) (lt_z L z) b in
        too_far R L D S T hL enough all hT
        (positive_as above_is (positive_mix hi hj hk all (positive_minus L x p) (positive_minus L y q) (positive_minus L z r))) h
    | inr a ↦
        let p = and_first (lt_z x (neg_ℤ L)) (lt_z y (neg_ℤ L) && lt_z z (neg_ℤ L)) a in
        let b = and_second (lt_z x (neg_ℤ L)) (lt_z y (neg_ℤ L) && lt_z z (neg_ℤ L)) a in
        let q = and_first (lt_z y (neg_ℤ L)) (lt_z z (neg_ℤ L)) b in
        let r = and_second (lt_z y (neg_ℤ L)) (lt_z z (neg_ℤ L)) b in
        too_far R L D (neg_ℤ S) T hL enough all hT
        (positive_as below_is (positive_mix hi hj hk all (positive_minus x (neg_ℤ L) p) (positive_minus y (neg_ℤ L) q)
        (positive_minus z (neg_ℤ L) r))) (nonneg_as (turned_about R L D S T hL enough all hT) h)
  ]

-- ---- the room by one coordinate and the others
by_x : (R D x y z : ℤ) → disc R D x y z ≡ R *ℤ (D *ℤ D) -ℤ (x *ℤ x +ℤ (y *ℤ y +ℤ z *ℤ z))
by_x R D x y z =
    alike (R ∷ D ∷ x ∷ y ∷ z ∷ []) (var 0 ⊗ (var 1 ⊗ var 1) ⊖ (var 2 ⊗ var 2 ⊕ var 3 ⊗ var 3 ⊕ var 4 ⊗ var 4))
    (var 0 ⊗ (var 1 ⊗ var 1) ⊖ (var 2 ⊗ var 2 ⊕ (var 3 ⊗ var 3 ⊕ var 4 ⊗ var 4))) refl

by_y : (R D x y z : ℤ) → disc R D x y z ≡ R *ℤ (D *ℤ D) -ℤ (y *ℤ y +ℤ (x *ℤ x +ℤ z *ℤ z))
by_y R D x y z =
    alike (R ∷ D ∷ x ∷ y ∷ z ∷ []) (var 0 ⊗ (var 1 ⊗ var 1) ⊖ (var 2 ⊗ var 2 ⊕ var 3 ⊗ var 3 ⊕ var 4 ⊗ var 4))
    (var 0 ⊗ (var 1 ⊗ var 1) ⊖ (var 3 ⊗ var 3 ⊕ (var 2 ⊗ var 2 ⊕ var 4 ⊗ var 4))) refl

by_z : (R D x y z : ℤ) → disc R D x y z ≡ R *ℤ (D *ℤ D) -ℤ (z *ℤ z +ℤ (x *ℤ x +ℤ y *ℤ y))
by_z R D x y z =
    alike (R ∷ D ∷ x ∷ y ∷ z ∷ []) (var 0 ⊗ (var 1 ⊗ var 1) ⊖ (var 2 ⊗ var 2 ⊕ var 3 ⊗ var 3 ⊕ var 4 ⊗ var 4))
    (var 0 ⊗ (var 1 ⊗ var 1) ⊖ (var 4 ⊗ var 4 ⊕ (var 2 ⊗ var 2 ⊕ var 3 ⊗ var 3))) refl

-- ---- together
module _ (R L : ℤ) (a b c : FromAxis) (s : SideOf R L) (w : Weights) (h : In R a b c w) where
  below_cap : (x y z : ℤ) → all_below (pos 0) x y z ≡ true → Nonneg (sum_of w x y z) → ⊥
  below_cap x y z e =
      let p = and_first (lt_z x (pos 0)) (lt_z y (pos 0) && lt_z z (pos 0)) e in
      let f = and_second (lt_z x (pos 0)) (lt_z y (pos 0) && lt_z z (pos 0)) e in
      none_below h.first h.second h.third h.size x y z p (and_first (lt_z y (pos 0)) (lt_z z (pos 0)) f)
      (and_second (lt_z y (pos 0)) (lt_z z (pos 0)) f)

  abbrev X : ℤ
  X = sum_of w a.moment.x b.moment.x c.moment.x

  abbrev Y : ℤ
  Y = sum_of w a.moment.y b.moment.y c.moment.y

  abbrev Z : ℤ
  Z = sum_of w a.moment.z b.moment.z c.moment.z

  limit : Nonneg L
  limit = nonneg_of_le L s.least

  room_left : Nonneg (L *ℤ L -ℤ R)
  room_left = minus_of_le R (L *ℤ L) s.enough

  one_side_x : one_side_of L a.moment.x b.moment.x c.moment.x ≡ true → ⊥
  one_side_x e =
      none_one_side R L (Y *ℤ Y +ℤ Z *ℤ Z) h.first h.second h.third h.size limit room_left
      (nonneg_sum (square_nonneg Y) (square_nonneg Z)) a.moment.x b.moment.x c.moment.x e
      (nonneg_as (by_x R (total w) X Y Z) h.near)

  one_side_y : one_side_of L a.moment.y b.moment.y c.moment.y ≡ true → ⊥
  one_side_y e =
      none_one_side R L (X *ℤ X +ℤ Z *ℤ Z) h.first h.second h.third h.size limit room_left
      (nonneg_sum (square_nonneg X) (square_nonneg Z)) a.moment.y b.moment.y c.moment.y e
      (nonneg_as (by_y R (total w) X Y Z) h.near)

  one_side_z : one_side_of L a.moment.z b.moment.z c.moment.z ≡ true → ⊥
  one_side_z e =
      none_one_side R L (X *ℤ X +ℤ Y *ℤ Y) h.first h.second h.third h.size limit room_left
      (nonneg_sum (square_nonneg X) (square_nonneg Y)) a.moment.z b.moment.z c.moment.z e
      (nonneg_as (by_z R (total w) X Y Z) h.near)

  abbrev low : Bool
  low = all_below (pos 0) a.low b.low c.low

  abbrev high : Bool
  high = all_below (pos 0) a.high b.high c.high

  abbrev on_x : Bool
  on_x = one_side_of L a.moment.x b.moment.x c.moment.x

  abbrev on_y : Bool
  on_y = one_side_of L a.moment.y b.moment.y c.moment.y

  abbrev on_z : Bool
  on_z = one_side_of L a.moment.z b.moment.z c.moment.z

  pub none_beyond : beyond L a b c ≡ true → ⊥
  unfolding beyond
  none_beyond e = elim (or_cases low (high || (on_x || (on_y || on_z))) e) [
    | inl p ↦ below_cap a.low b.low c.low p h.low
    | inr f ↦ elim (or_cases high (on_x || (on_y || on_z)) f) [
      | inl p ↦ below_cap a.high b.high c.high p h.high
      | inr g ↦ elim (or_cases on_x (on_y || on_z) g) [
        | inl p ↦ one_side_x p
        | inr k ↦ elim (or_cases on_y on_z k) [ inl p ↦ one_side_y p | inr p ↦ one_side_z p ]
      ]
    ]
  ]

-- ---- the limit: a radius times what is no less than the length
pub side_enough : (n m : ℕ) (r length : ℤ) → r ≡ pos n → le_z length (pos m *ℤ pos m) ≡ true
    → SideOf (pos (n * n) *ℤ length) (r *ℤ pos m)
side_enough n m r length e h = record {
  least = ap (λ (z : ℤ). le_z (pos 0) (z *ℤ pos m)) e ∙ le_of_nonneg (natural (n * m));
  enough =
      ap (λ (z : ℤ). le_z (pos (n * n) *ℤ length) (z *ℤ pos m *ℤ (z *ℤ pos m))) e
      ∙ le_of_minus (pos (n * n) *ℤ length) (pos n *ℤ pos m *ℤ (pos n *ℤ pos m))
      (nonneg_as (factored (pos n) (pos m) length) (nonneg_times (natural (n * n)) (minus_of_le length (pos m *ℤ pos m) h)));
}
  where
    factored : (x y z : ℤ) → x *ℤ x *ℤ (y *ℤ y -ℤ z) ≡ x *ℤ y *ℤ (x *ℤ y) -ℤ x *ℤ x *ℤ z
    factored x y z =
        alike (x ∷ y ∷ z ∷ []) (var 0 ⊗ var 0 ⊗ (var 1 ⊗ var 1 ⊖ var 2)) (var 0 ⊗ var 1 ⊗ (var 0 ⊗ var 1) ⊖ var 0 ⊗ var 0 ⊗ var 2) refl

pub size_at_most : (n : ℕ) (z : ℤ) → nat_abs z ≤ n → le_z z (pos n) ≡ true
size_at_most n (pos m) h = le-leb m n h
size_at_most n (negsuc m) h = refl

-- ---- a crossing that is too far off in one coordinate
outside_positive : (m x : ℤ) → outside m x ≡ true → Positive (x *ℤ x -ℤ m *ℤ m)
unfolding outside
outside_positive m x h = go (lt_z m x) (lt_z x m) refl refl h
  where
    above : (x -ℤ m) *ℤ (x -ℤ neg_ℤ m) ≡ x *ℤ x -ℤ m *ℤ m
    above = alike (m ∷ x ∷ []) ((var 1 ⊖ var 0) ⊗ (var 1 ⊖ opp (var 0))) (var 1 ⊗ var 1 ⊖ var 0 ⊗ var 0) refl

    below : (m -ℤ x) *ℤ (neg_ℤ m -ℤ x) ≡ x *ℤ x -ℤ m *ℤ m
    below = alike (m ∷ x ∷ []) ((var 0 ⊖ var 1) ⊗ (opp (var 0) ⊖ var 1)) (var 1 ⊗ var 1 ⊖ var 0 ⊗ var 0) refl

    go : (b c : Bool) → lt_z m x ≡ b → lt_z x m ≡ c → cond b (lt_z (neg_ℤ m) x) (cond c (lt_z x (neg_ℤ m)) false) ≡ true
        → Positive (x *ℤ x -ℤ m *ℤ m)
    go true c e f k = positive_as above (positive_times (positive_minus m x e) (positive_minus (neg_ℤ m) x k))
    go false true e f k = positive_as below (positive_times (positive_minus x m f) (positive_minus x (neg_ℤ m) k))
    go false false e f k = absurd (false≢true k)

module _ (R L s : ℤ) (side : SideOf R L) where
  crossing_adds : (X T : ℤ)
      → X *ℤ X -ℤ s *ℤ L *ℤ (s *ℤ L) +ℤ (R *ℤ (s *ℤ s) -ℤ (X *ℤ X +ℤ T)) +ℤ (L *ℤ L -ℤ R) *ℤ (s *ℤ s) +ℤ T ≡ pos 0
  crossing_adds X T =
      alike (R ∷ L ∷ s ∷ X ∷ T ∷ [])
      (var 3 ⊗ var 3 ⊖ var 2 ⊗ var 1 ⊗ (var 2 ⊗ var 1) ⊕ (var 0 ⊗ (var 2 ⊗ var 2) ⊖ (var 3 ⊗ var 3 ⊕ var 4))
      ⊕ (var 1 ⊗ var 1 ⊖ var 0) ⊗ (var 2 ⊗ var 2) ⊕ var 4) (num (pos 0)) refl

  crossing_far : (X T : ℤ) → Nonneg T → outside (s *ℤ L) X ≡ true → Nonneg (R *ℤ (s *ℤ s) -ℤ (X *ℤ X +ℤ T)) → ⊥
  crossing_far X T t e h =
      no_positive_zero (positive_sum (positive_sum (positive_sum (outside_positive (s *ℤ L) X e) h)
      (nonneg_times (minus_of_le R (L *ℤ L) side.enough) (square_nonneg s))) t) (crossing_adds X T)

  pub crossing_beyond : (X Y Z : ℤ) → (outside (s *ℤ L) X || (outside (s *ℤ L) Y || outside (s *ℤ L) Z)) ≡ true
      → false ≡ le_z (X *ℤ X +ℤ Y *ℤ Y +ℤ Z *ℤ Z) (R *ℤ (s *ℤ s))
  crossing_beyond X Y Z e = go (le_z (X *ℤ X +ℤ Y *ℤ Y +ℤ Z *ℤ Z) (R *ℤ (s *ℤ s))) refl
    where
      impossible : Nonneg (R *ℤ (s *ℤ s) -ℤ (X *ℤ X +ℤ Y *ℤ Y +ℤ Z *ℤ Z)) → ⊥
      impossible h = elim (or_cases (outside (s *ℤ L) X) (outside (s *ℤ L) Y || outside (s *ℤ L) Z) e) [
        | inl p ↦ crossing_far X (Y *ℤ Y +ℤ Z *ℤ Z) (nonneg_sum (square_nonneg Y) (square_nonneg Z)) p (nonneg_as (by_x R s X Y Z) h)
        | inr f ↦ elim (or_cases (outside (s *ℤ L) Y) (outside (s *ℤ L) Z) f) [
          | inl p ↦ crossing_far Y (X *ℤ X +ℤ Z *ℤ Z) (nonneg_sum (square_nonneg X) (square_nonneg Z)) p (nonneg_as (by_y R s X Y Z) h)
          | inr p ↦ crossing_far Z (X *ℤ X +ℤ Y *ℤ Y) (nonneg_sum (square_nonneg X) (square_nonneg Y)) p (nonneg_as (by_z R s X Y Z) h)
        ]
      ]

      go : (b : Bool) → le_z (X *ℤ X +ℤ Y *ℤ Y +ℤ Z *ℤ Z) (R *ℤ (s *ℤ s)) ≡ b → false ≡ le_z (X *ℤ X +ℤ Y *ℤ Y +ℤ Z *ℤ Z) (R *ℤ (s *ℤ s))
      go true k = absurd (impossible (minus_of_le (X *ℤ X +ℤ Y *ℤ Y +ℤ Z *ℤ Z) (R *ℤ (s *ℤ s)) k))
      go false k = sym k
