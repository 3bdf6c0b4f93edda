-- Counts in lists, and marks that count: what one more mark adds, and how a count goes over a join. Assumes nothing.
use Prim.Native.Nat.{ℕ, suc, ◌+◌, ◌<◌, ◌≤◌}
use mathlib.Core.Path.{◌≡◌, refl, sym, ap, ◌∙◌}
use mathlib.Core.Bool.{Bool, true, false, cond}
use mathlib.Core.List.{List, [], ◌∷◌, ◌++◌}
use native.Mathlib.Omega.{arith}
use borrow.Author.Tests.{eqb-true, eqb-false, eq-eqb, ne_eqb}
use lib.Dec.{eqb}
use lib.ListN.{length, get_or, set, take, drop, replicate, length-replicate, get_or-replicate, get_or-append}
use lib.Seq.{get_or-set_same, get_or-set_other, length-take-le}
use Rattle.lists.specs.Lists.{count}

-- one number in a list of one
pub count_same : (x y : ℕ) → x ≡ y → count x (y ∷ []) ≡ 1
unfolding count
count_same x y e = simp (eq-eqb x y e)

pub count_other : (x y : ℕ) → (x ≡ y → ⊥) → count x (y ∷ []) ≡ 0
unfolding count
count_other x y h = simp (ne_eqb x y h)

-- two numbers are equal or not, and the counts with them
pub by_equality : {P : Type 0} (x y : ℕ) → (x ≡ y → P) → ((x ≡ y → ⊥) → P) → P
by_equality {P} x y same other = go (eqb x y) (eqb-true x y) (eqb-false x y)
  where
    go : (t : Bool) → (t ≡ true → x ≡ y) → (t ≡ false → x ≡ y → ⊥) → P
    go true e n = same (e refl)
    go false e n = other (n refl)

pub count_agree : (x y x' y' : ℕ) → (x ≡ y → x' ≡ y') → (x' ≡ y' → x ≡ y) → count x (y ∷ []) ≡ count x' (y' ∷ [])
count_agree x y x' y' to from =
    by_equality x y (λ e. count_same x y e ∙ sym (count_same x' y' (to e)))
    (λ n. count_other x y n ∙ sym (count_other x' y' (λ e. n (from e))))

pub count_cons : (x y : ℕ) (ys : List ℕ) → count x (y ∷ ys) ≡ count x (y ∷ []) + count x ys
unfolding count
count_cons x y ys = omega arith

pub count_append : (x : ℕ) (a b : List ℕ) → count x (a ++ b) ≡ count x a + count x b
unfolding count
count_append x [] b = omega arith
count_append x (y ∷ a) b = omega (arith, count_append x a b)

pub count_le_length : (x : ℕ) (l : List ℕ) → count x l ≤ length l
unfolding count
count_le_length x [] = omega arith
count_le_length x (y ∷ l) = go (eqb x y) (count_le_length x l)
  where
    go : (t : Bool) → count x l ≤ length l → cond t 1 0 + count x l ≤ suc (length l)
    go true h = omega arith
    go false h = omega arith

-- zeros over the front
pub cleared_front : (marks zeros : List ℕ) (end : ℕ) → end ≤ length marks → zeros ≡ replicate (length (take end marks)) 0
    → (x : ℕ) → x < end → get_or (zeros ++ drop end marks) x 0 ≡ 0
cleared_front marks zeros end h is x b =
    let long = length-take-le end marks h in
    let as_long : length zeros ≡ length (take end marks) = ap length is ∙ length-replicate (length (take end marks)) 0 in
    get_or-append zeros (drop end marks) 0 x (omega arith)
    ∙ ap (λ (l : List ℕ). get_or l x 0) is
    ∙ get_or-replicate (length (take end marks)) x 0 0 (omega arith)

-- one more of x
pub bumped : (l : List ℕ) (x y : ℕ) → x < length l → get_or (set l x (get_or l x 0 + 1)) y 0 ≡ count y (x ∷ []) + get_or l y 0
bumped l x y h =
    by_equality y x (λ (e : y ≡ x). rw (count_same y x e, e, get_or-set_same) (omega arith))
    (λ (n : y ≡ x → ⊥). rw (count_other y x n) (get_or-set_other l x y (get_or l x 0 + 1) 0 n ∙ omega arith))

-- one more of a number is one more in its own place, and nothing elsewhere
pub bump_low : (x y m k : ℕ) → k ≡ count y (x ∷ []) + m → k ≤ m + 1
bump_low x y m k e = by_equality y x (λ (s : y ≡ x). omega (arith, count_same y x s)) (λ (n : y ≡ x → ⊥). omega (arith, count_other y x n))

-- one more of each of two
pub pair_counts : (x a b m m' m'' : ℕ) → m' ≡ count x (a ∷ []) + m → m'' ≡ count x (b ∷ []) + m' → m'' ≡ count x (a ∷ (b ∷ [])) + m
pair_counts x a b m m' m'' first second = omega (arith, count_cons x a (b ∷ []))

-- nothing more of a number that is not marked
pub none_more : (x y m : ℕ) → (x ≡ y → ⊥) → m ≡ count x (y ∷ []) + m
none_more x y m h = omega (arith, count_other x y h)

pub apart : {x y n : ℕ} → x < n → n ≤ y → x ≡ y → ⊥
apart h k e = omega arith
