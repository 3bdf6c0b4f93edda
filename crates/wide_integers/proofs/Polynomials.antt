-- Equations of whole numbers, as equations of natural numbers: each whole number is written as a difference. Assumes nothing.
use Rattle.std.proofs.Common.{◌≡◌, ℕ, suc, ◌+◌, ◌*◌, ℤ, pos, negsuc, ◌+ℤ◌, ◌-ℤ◌, ◌*ℤ◌, neg_ℤ, sym, refl, ap, ◌∙◌, arith}
use lib.IntN.{neg_ℤ-neg_ℤ, +ℤ_idl, +ℤ-neg_ℤ_cancel, -ℤ-+ℤ_cancel}
use Rattle.wide_integers.proofs.Integers.{pp, np, neg_pp, neg_np, add_parts, sub_parts, mul_parts}

-- z is p - n
pub record Rep (z : ℤ) (p n : ℕ) : Type 0 where
  pub is : pp z + n ≡ p + np z

pub own : (z : ℤ) → Rep z (pp z) (np z)
own z = record { is = refl }

pub own_pos : (n : ℕ) → Rep (pos n) n 0
own_pos n = record { is = refl }

pub own_neg : (n : ℕ) → Rep (negsuc n) 0 (suc n)
own_neg n = record { is = refl }

pub rep_add : {z w : ℤ} {p n q k : ℕ} → Rep z p n → Rep w q k → Rep (z +ℤ w) (p + q) (n + k)
rep_add {z} {w} a b = record { is = omega (arith, a.is, b.is, add_parts z w) }

pub rep_sub : {z w : ℤ} {p n q k : ℕ} → Rep z p n → Rep w q k → Rep (z -ℤ w) (p + k) (n + q)
rep_sub {z} {w} a b = record { is = omega (arith, a.is, b.is, sub_parts z w) }

pub rep_neg : {z : ℤ} {p n : ℕ} → Rep z p n → Rep (neg_ℤ z) n p
rep_neg {z} a = record { is = omega (arith, a.is, neg_pp z, neg_np z) }

product : (a b c d p n q k : ℕ) → a + n ≡ p + b → c + k ≡ q + d → a * c + b * d + (p * k + n * q) ≡ p * q + n * k + (a * d + b * c)
product a b c d p n q k h g =
    let h⁺ : (a + n) * c ≡ (p + b) * c = ap (λ (z : ℕ). z * c) h in
    let h⁻ : (a + n) * d ≡ (p + b) * d = ap (λ (z : ℕ). z * d) h in
    let g⁺ : (c + k) * p ≡ (q + d) * p = ap (λ (z : ℕ). z * p) g in
    let g⁻ : (c + k) * n ≡ (q + d) * n = ap (λ (z : ℕ). z * n) g in
    omega (arith, h⁺, h⁻, g⁺, g⁻)

pub rep_mul : {z w : ℤ} {p n q k : ℕ} → Rep z p n → Rep w q k → Rep (z *ℤ w) (p * q + n * k) (p * k + n * q)
rep_mul {z} {w} {p} {n} {q} {k} a b =
    record { is = omega (arith, product (pp z) (np z) (pp w) (np w) p n q k a.is b.is, mul_parts z w) }

-- equal differences are equal whole numbers
parts_equal : (z w : ℤ) → pp z + np w ≡ pp w + np z → z ≡ w
parts_equal (pos a) (pos b) h = ap pos (omega (arith, h))
parts_equal (pos a) (negsuc b) h = absurd (omega (arith, h))
parts_equal (negsuc a) (pos b) h = absurd (omega (arith, h))
parts_equal (negsuc a) (negsuc b) h = let e : a ≡ b = omega (arith, h) in ap negsuc e

pub equal : {z w : ℤ} {p n q k : ℕ} → Rep z p n → Rep w q k → p + k ≡ q + n → z ≡ w
equal {z} {w} a b h = parts_equal z w (omega (arith, a.is, b.is, h))

-- ---- the ring's laws
pub times_assoc : (a b c : ℤ) → (a *ℤ b) *ℤ c ≡ a *ℤ (b *ℤ c)
times_assoc a b c = equal (rep_mul (rep_mul (own a) (own b)) (own c)) (rep_mul (own a) (rep_mul (own b) (own c))) (omega arith)

pub times_comm : (a b : ℤ) → a *ℤ b ≡ b *ℤ a
times_comm a b = equal (rep_mul (own a) (own b)) (rep_mul (own b) (own a)) (omega arith)

pub times_left_comm : (a b c : ℤ) → a *ℤ (b *ℤ c) ≡ b *ℤ (a *ℤ c)
times_left_comm a b c = sym (times_assoc a b c) ∙ ap (λ (z : ℤ). z *ℤ c) (times_comm a b) ∙ times_assoc b a c

pub times_plus : (a b c : ℤ) → a *ℤ (b +ℤ c) ≡ a *ℤ b +ℤ a *ℤ c
times_plus a b c =
    equal (rep_mul (own a) (rep_add (own b) (own c))) (rep_add (rep_mul (own a) (own b)) (rep_mul (own a) (own c))) (omega arith)

pub plus_times : (a b c : ℤ) → (a +ℤ b) *ℤ c ≡ a *ℤ c +ℤ b *ℤ c
plus_times a b c =
    equal (rep_mul (rep_add (own a) (own b)) (own c)) (rep_add (rep_mul (own a) (own c)) (rep_mul (own b) (own c))) (omega arith)

pub times_neg : (a b : ℤ) → a *ℤ neg_ℤ b ≡ neg_ℤ (a *ℤ b)
times_neg a b = equal (rep_mul (own a) (rep_neg (own b))) (rep_neg (rep_mul (own a) (own b))) (omega arith)

pub neg_times : (a b : ℤ) → neg_ℤ a *ℤ b ≡ neg_ℤ (a *ℤ b)
neg_times a b = equal (rep_mul (rep_neg (own a)) (own b)) (rep_neg (rep_mul (own a) (own b))) (omega arith)

pub sum_comm : (a b : ℤ) → a +ℤ b ≡ b +ℤ a
sum_comm a b = equal (rep_add (own a) (own b)) (rep_add (own b) (own a)) (omega arith)

pub sum_assoc : (a b c : ℤ) → (a +ℤ b) +ℤ c ≡ a +ℤ (b +ℤ c)
sum_assoc a b c = equal (rep_add (rep_add (own a) (own b)) (own c)) (rep_add (own a) (rep_add (own b) (own c))) (omega arith)

pub sum_left_comm : (a b c : ℤ) → a +ℤ (b +ℤ c) ≡ b +ℤ (a +ℤ c)
sum_left_comm a b c = equal (rep_add (own a) (rep_add (own b) (own c))) (rep_add (own b) (rep_add (own a) (own c))) (omega arith)

pub neg_sum : (a b : ℤ) → neg_ℤ (a +ℤ b) ≡ neg_ℤ a +ℤ neg_ℤ b
neg_sum a b = equal (rep_neg (rep_add (own a) (own b))) (rep_add (rep_neg (own a)) (rep_neg (own b))) (omega arith)

pub ruleset ring = (
  times_assoc,
  times_comm,
  times_left_comm,
  times_plus,
  plus_times,
  times_neg,
  neg_times,
  sum_comm,
  sum_assoc,
  sum_left_comm,
  neg_sum,
  neg_ℤ-neg_ℤ,
)

-- ---- equations in which something cancels: z is P - N
pub record Diff (z P N : ℤ) : Type 0 where
  pub is : z +ℤ N ≡ P

pub diff_minus : (p q : ℤ) → Diff (p -ℤ q) p q
diff_minus p q = record { is = -ℤ-+ℤ_cancel p q }

pub diff_add : {z w P N Q K : ℤ} → Diff z P N → Diff w Q K → Diff (z +ℤ w) (P +ℤ Q) (N +ℤ K)
diff_add {z} {w} {P} {N} {Q} {K} a b =
    record { is = shuffle z w N K ∙ ap (λ (x : ℤ). x +ℤ (w +ℤ K)) a.is ∙ ap (λ (x : ℤ). P +ℤ x) b.is }
  where
    shuffle : (z w N K : ℤ) → (z +ℤ w) +ℤ (N +ℤ K) ≡ (z +ℤ N) +ℤ (w +ℤ K)
    shuffle z w N K = simp ring

pub diff_left : (x : ℤ) {z P N : ℤ} → Diff z P N → Diff (x *ℤ z) (x *ℤ P) (x *ℤ N)
diff_left x {z} {P} {N} a = record { is = sym (times_plus x z N) ∙ ap (λ (y : ℤ). x *ℤ y) a.is }

pub diff_right : {z P N : ℤ} → Diff z P N → (x : ℤ) → Diff (z *ℤ x) (P *ℤ x) (N *ℤ x)
diff_right {z} {P} {N} a x = record { is = sym (plus_times z N x) ∙ ap (λ (y : ℤ). y *ℤ x) a.is }

pub cancel : (m z w : ℤ) → z +ℤ m ≡ w +ℤ m → z ≡ w
cancel m z w e = sym (+ℤ-neg_ℤ_cancel z m) ∙ ap (λ (x : ℤ). x -ℤ m) e ∙ +ℤ-neg_ℤ_cancel w m

pub diff_equal : {z w P N Q K : ℤ} → Diff z P N → Diff w Q K → P +ℤ K ≡ Q +ℤ N → z ≡ w
diff_equal {z} {w} {P} {N} {Q} {K} a b h =
    cancel (N +ℤ K) z w
    (to_left z N K ∙ ap (λ (x : ℤ). x +ℤ K) a.is ∙ h ∙ ap (λ (x : ℤ). x +ℤ N) (sym b.is) ∙ to_right w N K)
  where
    to_left : (z N K : ℤ) → z +ℤ (N +ℤ K) ≡ (z +ℤ N) +ℤ K
    to_left z N K = simp ring

    to_right : (w N K : ℤ) → (w +ℤ K) +ℤ N ≡ w +ℤ (N +ℤ K)
    to_right w N K = simp ring

pub diff_zero : {z P N : ℤ} → Diff z P N → P ≡ N → z ≡ pos 0
diff_zero {z} {P} {N} a h = cancel N z (pos 0) (a.is ∙ h ∙ sym (+ℤ_idl N))

pub equal_of_minus : (x y : ℤ) → x -ℤ y ≡ pos 0 → x ≡ y
equal_of_minus x y h = sym (-ℤ-+ℤ_cancel x y) ∙ ap (λ (z : ℤ). z +ℤ y) h ∙ +ℤ_idl y
