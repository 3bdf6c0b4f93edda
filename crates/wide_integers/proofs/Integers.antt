-- Whole numbers with a sign as differences of natural numbers. Assumes nothing.
use Rattle.std.proofs.Common.{◌≡◌, ℕ, zero, suc, ◌+◌, ◌-◌, ◌*◌, ◌<◌, ◌≤◌, Bool, true, false, cond, ltb, ℤ, pos, negsuc, ◌+ℤ◌, ◌-ℤ◌, ◌*ℤ◌}
use Rattle.std.proofs.Common.{neg_ℤ, nat_abs, refl, ap, zero-lt-suc, mul-pos, arith, ltb-false, ltb-true}
use lib.IntN.{sub_ℕ}

-- z as z⁺ - z⁻
abbrev pub pp : ℤ → ℕ
pp (pos n) = n
pp (negsuc n) = 0

abbrev pub np : ℤ → ℕ
np (pos n) = 0
np (negsuc n) = suc n

-- a product that is 0, with a second factor that is not
pub no_factor : (n d : ℕ) → 0 < d → n * d ≡ 0 → n ≡ 0
no_factor zero d p h = refl
no_factor (suc n) d p h = absurd (omega (arith, h, mul-pos (zero-lt-suc n) p))

pub size_is : (z : ℤ) → nat_abs z ≡ pp z + np z
size_is (pos n) = omega arith
size_is (negsuc n) = omega arith

pub size_zero : (z : ℤ) → nat_abs z ≡ 0 → z ≡ pos 0
size_zero (pos n) h = ap pos h
size_zero (negsuc n) h = absurd (omega (arith, h))

-- ---- negation
pub neg_pp : (z : ℤ) → pp (neg_ℤ z) ≡ np z
neg_pp (pos zero) = refl
neg_pp (pos (suc n)) = refl
neg_pp (negsuc n) = refl

pub neg_np : (z : ℤ) → np (neg_ℤ z) ≡ pp z
neg_np (pos zero) = refl
neg_np (pos (suc n)) = refl
neg_np (negsuc n) = refl

-- ---- sums
sub_pp : (a b : ℕ) → pp (sub_ℕ a b) ≡ a - b
sub_pp a b = go (ltb a b) (ltb-true a b)
  where
    go : (k : Bool) → (k ≡ true → a < b) → pp (cond k (negsuc (b - suc a)) (pos (a - b))) ≡ a - b
    go true f = let w = f refl in omega (arith, w)
    go false f = refl

sub_np : (a b : ℕ) → np (sub_ℕ a b) ≡ b - a
sub_np a b = go (ltb a b) (ltb-true a b) (ltb-false a b)
  where
    go : (k : Bool) → (k ≡ true → a < b) → (k ≡ false → b ≤ a) → np (cond k (negsuc (b - suc a)) (pos (a - b))) ≡ b - a
    go true f g = let w = f refl in omega (arith, w)
    go false f g = let w = g refl in omega (arith, w)

pub add_parts : (z w : ℤ) → pp z + pp w + np (z +ℤ w) ≡ pp (z +ℤ w) + (np z + np w)
add_parts (pos a) (pos b) = omega arith
add_parts (pos a) (negsuc b) = omega (arith, sub_pp a (suc b), sub_np a (suc b))
add_parts (negsuc a) (pos b) = omega (arith, sub_pp b (suc a), sub_np b (suc a))
add_parts (negsuc a) (negsuc b) = omega arith

pub add_size : (z w : ℤ) → nat_abs (z +ℤ w) ≤ nat_abs z + nat_abs w
add_size (pos a) (pos b) = omega arith
add_size (pos a) (negsuc b) = omega (arith, size_is (sub_ℕ a (suc b)), sub_pp a (suc b), sub_np a (suc b))
add_size (negsuc a) (pos b) = omega (arith, size_is (sub_ℕ b (suc a)), sub_pp b (suc a), sub_np b (suc a))
add_size (negsuc a) (negsuc b) = omega arith

pub neg_size : (z : ℤ) → nat_abs (neg_ℤ z) ≡ nat_abs z
neg_size z = omega (arith, size_is z, size_is (neg_ℤ z), neg_pp z, neg_np z)

pub sub_parts : (z w : ℤ) → pp z + np w + np (z -ℤ w) ≡ pp (z -ℤ w) + (np z + pp w)
sub_parts z w = omega (arith, add_parts z (neg_ℤ w), neg_pp w, neg_np w)

pub sub_size : (z w : ℤ) → nat_abs (z -ℤ w) ≤ nat_abs z + nat_abs w
sub_size z w = omega (arith, add_size z (neg_ℤ w), neg_size w)

-- ---- products
pub mul_parts : (z w : ℤ) → pp z * pp w + np z * np w + np (z *ℤ w) ≡ pp (z *ℤ w) + (pp z * np w + np z * pp w)
mul_parts (pos a) (pos b) = omega arith
mul_parts (pos a) (negsuc b) = omega (arith, neg_pp (pos (a * suc b)), neg_np (pos (a * suc b)))
mul_parts (negsuc a) (pos b) = omega (arith, neg_pp (pos (suc a * b)), neg_np (pos (suc a * b)))
mul_parts (negsuc a) (negsuc b) = omega arith

pub mul_size : (z w : ℤ) → nat_abs (z *ℤ w) ≡ nat_abs z * nat_abs w
mul_size (pos a) (pos b) = refl
mul_size (pos a) (negsuc b) = neg_size (pos (a * suc b))
mul_size (negsuc a) (pos b) = neg_size (pos (suc a * b))
mul_size (negsuc a) (negsuc b) = refl
