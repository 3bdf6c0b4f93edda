-- Where each triangle stands in the order once, every order place holds a triangle: n places have no room for anything else. Assumes
-- nothing.
use Prim.Native.Nat.{ℕ, zero, suc, ◌+◌, ◌<◌, ◌≤◌}
use mathlib.Core.Path.{◌≡◌, refl}
use mathlib.Core.Bool.{Bool, true, false}
use mathlib.Core.List.{List, [], ◌∷◌}
use native.Mathlib.Omega.{arith}
use borrow.Author.Tests.{ltb-true, ltb-false, eqb-true}
use lib.Dec.{ltb}
use lib.ListN.{length, get_or, take}
use lib.Seq.{length-take-le, get_or-take}
use Rattle.lists.specs.Lists.{range, count, every}
use Rattle.tree_check.specs.Marks.{once}
use Rattle.lists.proofs.EveryLaws.{every_at}
use Rattle.tree_check.proofs.Counting.{by_equality, count_same, count_other, count_cons}

-- how many numbers of a list lie below n, counted number by number
total : ℕ → List ℕ → ℕ
total zero l = 0
total (suc k) l = count k l + total k l

total_past : (n y : ℕ) (ys : List ℕ) → n ≤ y → total n (y ∷ ys) ≡ total n ys
unfolding total
total_past zero y ys h = refl
total_past (suc k) y ys h =
    omega (arith, total_past k y ys (omega arith), count_cons k y ys, count_other k y (λ (e : k ≡ y). omega arith))

total_cons : (n y : ℕ) (ys : List ℕ) → total n (y ∷ ys) ≤ suc (total n ys)
unfolding total
total_cons zero y ys = omega arith
total_cons (suc k) y ys =
    by_equality k y (λ (e : k ≡ y). omega (arith, total_past k y ys (omega arith), count_cons k y ys, count_same k y e))
    (λ (e : k ≡ y → ⊥). omega (arith, total_cons k y ys, count_cons k y ys, count_other k y e))

total_nil : (n : ℕ) → total n [] ≡ 0
unfolding total count
total_nil zero = refl
total_nil (suc k) = omega (arith, total_nil k)

total_le : (n : ℕ) (l : List ℕ) → total n l ≤ length l
total_le n [] = omega (arith, total_nil n)
total_le n (y ∷ ys) = omega (arith, total_le n ys, total_cons n y ys)

-- one that does not lie below is not counted
total_short : (n : ℕ) (l : List ℕ) (p : ℕ) → p < length l → n ≤ get_or l p 0 → total n l < length l
total_short n [] p h past = absurd (omega arith)
total_short n (y ∷ ys) zero h past = omega (arith, total_past n y ys past, total_le n ys)
total_short n (y ∷ ys) (suc p) h past = omega (arith, total_cons n y ys, total_short n ys p (omega arith) past)

total_full : (n : ℕ) (l : List ℕ) → ((x : ℕ) → x < n → count x l ≡ 1) → total n l ≡ n
unfolding total
total_full zero l h = refl
total_full (suc k) l h = omega (arith, h k (omega arith), total_full k l (λ x b. h x (omega arith)))

once_counts : (l : List ℕ) (n x : ℕ) → every (once l) (range 0 n) ≡ true → x < n → count x l ≡ 1
unfolding once
once_counts l n x h b = eqb-true (count x l) 1 (every_at (once l) 0 n x h (omega arith) (omega arith))

pub order_below : (n : ℕ) (order : List ℕ) → n ≤ length order → every (once (take n order)) (range 0 n) ≡ true → (p : ℕ) → p < n → get_or
    order p 0 < n
order_below n order h ordered p b = go (ltb (get_or order p 0) n) (ltb-true (get_or order p 0) n) (ltb-false (get_or order p 0) n)
  where
    go : (t : Bool) → (t ≡ true → get_or order p 0 < n) → (t ≡ false → n ≤ get_or order p 0) → get_or order p 0 < n
    go true below past = below refl
    go false below past =
        let l : length (take n order) ≡ n = length-take-le n order h in
        let e : get_or (take n order) p 0 ≡ get_or order p 0 = get_or-take n order p 0 b in
        let k : n ≤ get_or order p 0 = past refl in
        let short : total n (take n order) < length (take n order) = total_short n (take n order) p (omega arith) (omega arith) in
        let full : total n (take n order) ≡ n = total_full n (take n order) (λ x c. once_counts (take n order) n x ordered c) in
        absurd (omega arith)
