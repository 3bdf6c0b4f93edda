-- `whole_root` is the largest number whose square is at most n, and what `root_round` keeps of it is the whole number nearest to the root.
-- Assumes nothing.
use Rattle.std.proofs.Common.{◌≡◌, ℕ, zero, suc, ◌+◌, ◌*◌, ◌^◌, ◌<◌, ◌≤◌, Bool, true, false, cond, not, T, leb, sym, refl, ap, ◌∙◌, subst}
use Rattle.std.proofs.Common.{zero-le, le_of_suc-le-suc, add_assoc, mul-le-mul_right, zero-lt-suc, suc-mul, add-mul, le_antisymm}
use Rattle.std.proofs.Common.{mul-le-mul_left, mul-lt-mul_of_pos_right, one-mul, lt_of_not-le, zero-add, mul-suc, mul-add, mul_right_comm}
use Rattle.std.proofs.Common.{add-one, arith, eqb→eq, leb→le, pow_pos, leb-false, leb-true}
use Prim.Native.Nat.{compare, Ordering}
use native.Mathlib.Nat.{two-pow-succ}
use native.Mathlib.Nat.{mul-mul-mul_comm}
use lib.Dec.{is_le, compare_is_eq, nleb→lt}
use lib.Ieee.{size, nearest}
use lib.Ieee.Digits.{size-lt}
use Rattle.arithmetic.specs.Root.{root_digits, whole_root, NearestRoot}

-- w * w ≤ n < (w + 1) * (w + 1)
pub record WholeRoot (n w : ℕ) : Type 0 where
  pub lower : w * w ≤ n
  pub upper : n < suc w * suc w

one_more : (n r : ℕ) → n < (r + 1) * (r + 1) → n < suc r * suc r
one_more n r h = subst (λ (z : ℕ). n < z * z) (add-one r) h

root_digits_whole : (b n r : ℕ) → r * r ≤ n → n < (r + 2 ^ b) * (r + 2 ^ b) → WholeRoot n (root_digits b n r)
unfolding root_digits
root_digits_whole zero n r lo hi = record { lower = lo; upper = one_more n r hi }
root_digits_whole (suc b) n r lo hi =
    go (leb ((r + 2 ^ b) * (r + 2 ^ b)) n) (leb-true ((r + 2 ^ b) * (r + 2 ^ b)) n) (leb-false ((r + 2 ^ b) * (r + 2 ^ b)) n)
    (root_digits_whole b n)
  where
    go : (c : Bool) → (c ≡ true → (r + 2 ^ b) * (r + 2 ^ b) ≤ n) → (c ≡ false → n < (r + 2 ^ b) * (r + 2 ^ b))
        → ((s : ℕ) → s * s ≤ n → n < (s + 2 ^ b) * (s + 2 ^ b) → WholeRoot n (root_digits b n s))
        → WholeRoot n (root_digits b n (cond c (r + 2 ^ b) r))
    go true h k ih = ih (r + 2 ^ b) (h refl) (subst (λ (z : ℕ). n < z * z) (ap (λ (z : ℕ). r + z) (two-pow-succ b) ∙ sym (add_assoc r (2 ^
        b) (2 ^ b))) hi)
    go false h k ih = ih r lo (k refl)

below_square : (n p : ℕ) → n < p → 0 < p → n < (0 + p) * (0 + p)
below_square n p h P =
    let e : 0 + p ≡ p = zero-add p in
    let g : 1 * p ≤ p * p = mul-le-mul_right p P in
    let o : 1 * p ≡ p = one-mul p in
    subst (λ (z : ℕ). n < z * z) (sym e) (omega arith)

pub whole_root_whole : (n : ℕ) → WholeRoot n (whole_root n)
unfolding whole_root
whole_root_whole n = root_digits_whole (size n) n 0 zero-le (below_square n (2 ^ size n) (size-lt n) (pow_pos (size n)))

-- ---- the nearest whole number is the only one
no_larger : (n r s : ℕ) → NearestRoot n r → NearestRoot n s → r < s → ⊥
no_larger n r s p q h =
    let a : suc r * r ≤ s * r = mul-le-mul_right r h in
    let b : s * suc r ≤ s * s = mul-le-mul_left s h in
    let c : suc r * r ≡ r * r + r = suc-mul r r in
    let d : s * suc r ≡ s * r + s = mul-suc s r in
    omega (arith, p.below, q.above)

pub nearest_unique : (n r s : ℕ) → NearestRoot n r → NearestRoot n s → r ≡ s
nearest_unique n r s p q = apart (λ (h : r < s). no_larger n r s p q h) (λ (h : s < r). no_larger n s r q p h)
  where
    apart : (r < s → ⊥) → (s < r → ⊥) → r ≡ s
    apart a b = le_antisymm (le_of_suc-le-suc (lt_of_not-le b)) (le_of_suc-le-suc (lt_of_not-le a))

-- ---- `compare`, from the fact
compare_less : (a b : ℕ) → a < b → compare a b ≡ Ordering.lt
compare_less a b h = go (compare a b) (nleb→lt a b) (eqb→eq a b)
  where
    clash : b < a → ⊥
    clash k = omega arith

    level : a ≡ b → ⊥
    level k = omega arith

    go : (o : Ordering) → (T (not (is_le o)) → b < a) → (T (compare_is_eq o) → a ≡ b) → o ≡ Ordering.lt
    go Ordering.lt k e = refl
    go Ordering.eq k e = absurd (level (e tt))
    go Ordering.gt k e = absurd (clash (k tt))

compare_more : (a b : ℕ) → b < a → compare a b ≡ Ordering.gt
compare_more a b h = go (compare a b) (leb→le a b)
  where
    clash : a ≤ b → ⊥
    clash k = omega arith

    go : (o : Ordering) → (T (is_le o) → a ≤ b) → o ≡ Ordering.gt
    go Ordering.lt k = absurd (clash (k tt))
    go Ordering.eq k = absurd (clash (k tt))
    go Ordering.gt k = refl

-- ---- what `root_round` keeps, at n = N * u
abbrev pub middle : ℕ → ℕ
middle w = (2 * w + 1) * (2 * w + 1)

pub middle_is : (w : ℕ) → middle w ≡ 4 * (w * w) + 4 * w + 1
middle_is w =
    let a : middle w ≡ 2 * w * (2 * w + 1) + 1 * (2 * w + 1) = add-mul (2 * w) 1 (2 * w + 1) in
    let b : 2 * w * (2 * w + 1) ≡ 2 * w * (2 * w) + 2 * w * 1 = mul-add (2 * w) (2 * w) 1 in
    let c : 2 * w * (2 * w) ≡ 2 * 2 * (w * w) = mul-mul-mul_comm 2 w 2 w in
    omega arith

scaled_less : (n u m : ℕ) → 0 < u → n * 4 < m → n * u * 4 < m * u
scaled_less n u m U h = subst (λ (z : ℕ). z < m * u) (mul_right_comm n 4 u) (mul-lt-mul_of_pos_right h U)

scaled_more : (n u m : ℕ) → 0 < u → m < n * 4 → m * u < n * u * 4
scaled_more n u m U h = subst (λ (z : ℕ). m * u < z) (mul_right_comm n 4 u) (mul-lt-mul_of_pos_right h U)

above_zero : (n w : ℕ) → 0 < n → WholeRoot n w → 0 < w
above_zero n zero h p = absurd (none n h p.upper)
  where
    none : (n : ℕ) → 0 < n → n < 1 → ⊥
    none n h k = omega arith
above_zero n (suc w) h p = zero-lt-suc w

lower_nearest : (n w : ℕ) → 0 < n → WholeRoot n w → n ≤ w * w + w → NearestRoot n w
lower_nearest n w N h k =
    let W : 0 < w = above_zero n w N h in
    record { above = omega (arith, h.lower); below = k }

upper_nearest : (n w : ℕ) → WholeRoot n w → w * w + w < n → NearestRoot n (suc w)
upper_nearest n w h k =
    let s : suc w * suc w ≡ w * w + w + suc w = suc-mul w (suc w) ∙ ap (λ (z : ℕ). z + suc w) (mul-suc w w) in
    record { above = omega arith; below = omega (arith, h.upper) }

pub nearest_kept : (n u r : ℕ) → 0 < n → 0 < u → NearestRoot n r → nearest (whole_root n) (compare (n * u * 4) (middle (whole_root n) * u))
    ≡
    r
nearest_kept n u r N U p = at (whole_root n) (whole_root_whole n)
  where
    at : (w : ℕ) → WholeRoot n w → nearest w (compare (n * u * 4) (middle w * u)) ≡ r
    at w h = go (leb n (w * w + w)) (leb-true n (w * w + w)) (leb-false n (w * w + w))
      where
        M : middle w ≡ 4 * (w * w) + 4 * w + 1
        M = middle_is w

        lower : n ≤ w * w + w → nearest w (compare (n * u * 4) (middle w * u)) ≡ r
        lower k =
            let l : n * 4 < middle w = omega (arith, M) in
            ap (nearest w) (compare_less (n * u * 4) (middle w * u) (scaled_less n u (middle w) U l)) ∙ nearest_unique n w r
            (lower_nearest n w N h k) p

        upper : w * w + w < n → nearest w (compare (n * u * 4) (middle w * u)) ≡ r
        upper k =
            let l : middle w < n * 4 = omega (arith, M) in
            ap (nearest w) (compare_more (n * u * 4) (middle w * u) (scaled_more n u (middle w) U l)) ∙ nearest_unique n (suc w) r
            (upper_nearest n w h k) p

        go : (b : Bool) → (b ≡ true → n ≤ w * w + w) → (b ≡ false → w * w + w < n) → nearest w (compare (n * u * 4) (middle w * u)) ≡ r
        go true k l = lower (k refl)
        go false k l = upper (l refl)

-- ---- every number above zero has a nearest root
pub nearest_exists : (n : ℕ) → 0 < n → (r : ℕ) × NearestRoot n r
nearest_exists n N = at (whole_root n) (whole_root_whole n)
  where
    at : (w : ℕ) → WholeRoot n w → (r : ℕ) × NearestRoot n r
    at w h = go (leb n (w * w + w)) (leb-true n (w * w + w)) (leb-false n (w * w + w))
      where
        go : (b : Bool) → (b ≡ true → n ≤ w * w + w) → (b ≡ false → w * w + w < n) → (r : ℕ) × NearestRoot n r
        go true k l = (w, lower_nearest n w N h (k refl))
        go false k l = (suc w, upper_nearest n w h (l refl))
