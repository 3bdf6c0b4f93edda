-- Whole numbers that are not below 0, as natural numbers. Assumes nothing.
use Rattle.std.proofs.Common.{◌≡◌, ℕ, zero, suc, ◌+◌, ◌*◌, ◌<◌, true, false, ◌⊎◌, ℤ, pos, negsuc, ◌+ℤ◌, ◌-ℤ◌, ◌*ℤ◌, neg_ℤ, nat_abs, sym}
use Rattle.std.proofs.Common.{refl, ap, ◌∙◌, subst, inl, inr, true≢false, zero-lt-suc, mul-pos, arith}
use mathlib.Core.Bool.{false≢true}
use lib.IntN.{*ℤ-zero}
use lib.Signed.{lt_z, le_z}
use Rattle.wide_integers.proofs.Integers.{no_factor, size_zero, mul_size}
use Rattle.wide_integers.proofs.Polynomials.{own, own_pos, own_neg, rep_add, rep_mul, rep_sub, equal}
use Rattle.wide_integers.proofs.Order.{rep_le, le_rep, rep_lt, lt_rep, nlt_rep, rep_same}

pub record Nonneg (z : ℤ) : Type 0 where
  pub size : ℕ
  pub is : z ≡ pos size

pub record Positive (z : ℤ) : Type 0 where
  pub less : ℕ
  pub is : z ≡ pos (suc less)

pub record Negative (z : ℤ) : Type 0 where
  pub less : ℕ
  pub is : z ≡ negsuc less

pub natural : (n : ℕ) → Nonneg (pos n)
natural n = record { size = n; is = refl }

pub nonneg_as : {x y : ℤ} → x ≡ y → Nonneg x → Nonneg y
nonneg_as e h = subst Nonneg e h

pub positive_as : {x y : ℤ} → x ≡ y → Positive x → Positive y
positive_as e h = subst Positive e h

pub positive_nonneg : {x : ℤ} → Positive x → Nonneg x
positive_nonneg p = record { size = suc p.less; is = p.is }

pub sign_of : (z : ℤ) → Negative z ⊎ Nonneg z
sign_of (pos n) = inr (record { size = n; is = refl })
sign_of (negsuc n) = inl (record { less = n; is = refl })

pub nonneg_sum : {x y : ℤ} → Nonneg x → Nonneg y → Nonneg (x +ℤ y)
nonneg_sum p q = record { size = p.size + q.size; is = λ s. p.is s +ℤ q.is s }

pub nonneg_times : {x y : ℤ} → Nonneg x → Nonneg y → Nonneg (x *ℤ y)
nonneg_times p q = record { size = p.size * q.size; is = λ s. p.is s *ℤ q.is s }

pub positive_times : {x y : ℤ} → Positive x → Positive y → Positive (x *ℤ y)
positive_times p q =
    subst Positive (λ s. sym p.is s *ℤ sym q.is s) (record { less = p.less * suc q.less + q.less; is = ap pos (omega arith) })

pub square_nonneg : (x : ℤ) → Nonneg (x *ℤ x)
square_nonneg (pos n) = record { size = n * n; is = refl }
square_nonneg (negsuc n) = record { size = suc n * suc n; is = refl }

pub positive_sum : {x y : ℤ} → Positive x → Nonneg y → Positive (x +ℤ y)
positive_sum p q = subst Positive (λ s. sym p.is s +ℤ sym q.is s) (record { less = p.less + q.size; is = ap pos (omega arith) })

-- not below 0, or not above it
pub nonneg_of_le : (x : ℤ) → le_z (pos 0) x ≡ true → Nonneg x
nonneg_of_le (pos n) h = natural n
nonneg_of_le (negsuc n) h = absurd (false≢true h)

pub clash_signs : {z : ℤ} → Nonneg z → Negative z → ⊥
clash_signs p n = clash p.size n.less (sym p.is ∙ n.is)
  where
    clash : (a b : ℕ) → pos a ≡ negsuc b → ⊥
    clash a b e = let k = rep_same (own_pos a) (own_neg b) e in omega (arith, k)

negative_times : {k x : ℤ} → Positive k → Negative x → Negative (k *ℤ x)
negative_times p n =
    subst Negative (λ s. sym p.is s *ℤ sym n.is s)
    (record {
      less = p.less * suc n.less + n.less;
      is = equal (rep_mul (own_pos (suc p.less)) (own_neg n.less)) (own_neg (p.less * suc n.less + n.less)) (omega arith);
    })

pub nonneg_cancel : {k x : ℤ} → Positive k → Nonneg (k *ℤ x) → Nonneg x
nonneg_cancel {k} {x} p h = elim (sign_of x) [
  | inl n ↦ absurd (clash_signs h (negative_times p n))
  | inr q ↦ q
]

-- above 0, or 0
pub positive_or_zero : {x : ℤ} → Nonneg x → Positive x ⊎ (x ≡ pos 0)
positive_or_zero h = go h.size h.is
  where
    go : {x : ℤ} (n : ℕ) → x ≡ pos n → Positive x ⊎ (x ≡ pos 0)
    go zero e = inr e
    go (suc n) e = inl (record { less = n; is = e })

pub zero_sum : {x y : ℤ} → Nonneg x → Nonneg y → x +ℤ y ≡ pos 0 → x ≡ pos 0
zero_sum p q e =
    let k = rep_same (rep_add (own_pos p.size) (own_pos q.size)) (own_pos 0) ((λ s. sym p.is s +ℤ sym q.is s) ∙ e) in
    let n : p.size ≡ 0 = omega (arith, k) in
    p.is ∙ ap pos n

pub second_zero : {x y : ℤ} → Nonneg x → Nonneg y → x +ℤ y ≡ pos 0 → y ≡ pos 0
second_zero p q e =
    let k = rep_same (rep_add (own_pos p.size) (own_pos q.size)) (own_pos 0) ((λ s. sym p.is s +ℤ sym q.is s) ∙ e) in
    let n : q.size ≡ 0 = omega (arith, k) in
    q.is ∙ ap pos n

pub positive_cancel : {k x : ℤ} → Positive k → Positive (k *ℤ x) → Positive x
positive_cancel {k} {x} p h = elim (positive_or_zero (nonneg_cancel p (positive_nonneg h))) [
  | inl q ↦ q
  | inr z ↦
      let e = rep_same (own_pos (suc h.less)) (own_pos 0) (sym h.is ∙ ap (λ (y : ℤ). k *ℤ y) z ∙ *ℤ-zero k) in
      absurd (omega (arith, e))
]

pub square_zero : (x : ℤ) → x *ℤ x ≡ pos 0 → x ≡ pos 0
square_zero x h = size_zero x (no_square (nat_abs x) (sym (mul_size x x) ∙ ap nat_abs h))
  where
    no_square : (n : ℕ) → n * n ≡ 0 → n ≡ 0
    no_square zero e = refl
    no_square (suc n) e = absurd (omega (arith, e, mul-pos (zero-lt-suc n) (zero-lt-suc n)))

-- ---- what the tests say
pub le_of_nonneg : {x : ℤ} → Nonneg x → le_z (pos 0) x ≡ true
le_of_nonneg {x} h = le_rep (own_pos 0) (own x) (let e = rep_same (own x) (own_pos h.size) h.is in omega (arith, e))

pub minus_of_le : (x y : ℤ) → le_z x y ≡ true → Nonneg (y -ℤ x)
minus_of_le x y h = elim (sign_of (y -ℤ x)) [
  | inr p ↦ p
  | inl n ↦
      let e = rep_same (rep_sub (own y) (own x)) (own_neg n.less) n.is in
      let m = rep_le (own x) (own y) h in
      absurd (omega (arith, e, m))
]

pub le_of_minus : (x y : ℤ) → Nonneg (y -ℤ x) → le_z x y ≡ true
le_of_minus x y h =
    le_rep (own x) (own y) (let e = rep_same (rep_sub (own y) (own x)) (own_pos h.size) h.is in omega (arith, e))

pub positive_of_lt : (x : ℤ) → lt_z (pos 0) x ≡ true → Positive x
positive_of_lt (pos zero) h = absurd (let e = rep_lt (own_pos 0) (own_pos 0) h in omega (arith, e))
positive_of_lt (pos (suc n)) h = record { less = n; is = refl }
positive_of_lt (negsuc n) h = absurd (false≢true h)

pub lt_of_positive : {x : ℤ} → Positive x → lt_z (pos 0) x ≡ true
lt_of_positive {x} h = lt_rep (own_pos 0) (own x) (let e = rep_same (own x) (own_pos (suc h.less)) h.is in omega (arith, e))

pub below_of_negative : {x : ℤ} → Negative x → lt_z x (pos 0) ≡ true
below_of_negative {x} h = lt_rep (own x) (own_pos 0) (let e = rep_same (own x) (own_neg h.less) h.is in omega (arith, e))

pub not_below : {x : ℤ} → Nonneg x → lt_z x (pos 0) ≡ false
not_below {x} h = nlt_rep (own x) (own_pos 0) (let e = rep_same (own x) (own_pos h.size) h.is in omega (arith, e))

pub negative_of_lt : (x : ℤ) → lt_z x (pos 0) ≡ true → Negative x
negative_of_lt (pos n) h = absurd (let e = rep_lt (own_pos n) (own_pos 0) h in omega (arith, e))
negative_of_lt (negsuc n) h = record { less = n; is = refl }

pub nonneg_of_not : (x : ℤ) → lt_z x (pos 0) ≡ false → Nonneg x
nonneg_of_not (pos n) h = natural n
nonneg_of_not (negsuc n) h = absurd (true≢false h)

-- ---- the other way round
pub negated_positive : {x : ℤ} → Negative x → Positive (neg_ℤ x)
negated_positive h = record { less = h.less; is = ap neg_ℤ h.is }

pub no_negative_zero : {x : ℤ} → Negative x → x ≡ pos 0 → ⊥
no_negative_zero h e = clash_signs (record { size = 0; is = e }) h

pub no_positive_zero : {x : ℤ} → Positive x → x ≡ pos 0 → ⊥
no_positive_zero h e = let k = rep_same (own_pos (suc h.less)) (own_pos 0) (sym h.is ∙ e) in absurd (omega (arith, k))

-- a product that is 0
pub zero_factor : {x y : ℤ} → Positive y → x *ℤ y ≡ pos 0 → x ≡ pos 0
zero_factor {x} {y} p h =
    size_zero x (no_factor (nat_abs x) (nat_abs y) (subst (λ (z : ℤ). 0 < nat_abs z) (sym p.is) (zero-lt-suc p.less))
    (sym (mul_size x y) ∙ ap nat_abs h))

pub zero_or_not : (z : ℤ) → (z ≡ pos 0) ⊎ (z ≡ pos 0 → ⊥)
zero_or_not (pos zero) = inl refl
zero_or_not (pos (suc n)) = inr (λ e. no_positive_zero (record { less = n; is = refl }) e)
zero_or_not (negsuc n) = inr (λ e. no_negative_zero (record { less = n; is = refl }) e)
