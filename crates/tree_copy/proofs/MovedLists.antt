-- Lists of indices that are moved up: what stands where, how often, and the ranges and gathered lists that are moved. Assumes nothing.
use Prim.Native.Nat.{ℕ, zero, suc, ◌+◌, ◌*◌, ◌≤◌, ◌<◌}
use native.Mathlib.Nat.{add-zero, zero-add, suc-add}
use mathlib.Core.Path.{◌≡◌, refl, sym, ap, ◌∙◌}
use mathlib.Core.Logic.{◌⊎◌, inl, inr}
use mathlib.Core.Bool.{Bool, true, false, cond}
use mathlib.Core.List.{List, [], ◌∷◌, ◌++◌}
use native.Mathlib.Omega.{arith}
use lib.ListN.{length, get_or, length-append, get_or-append}
use lib.Seq.{get_or-append-add}
use Rattle.lists.specs.Lists.{range, count, keep, flat_map}
use Rattle.lists.proofs.CountLaws.{one, one_same, one_other, same_or_other, count_cons, count_nil}
use Rattle.tree_copy.specs.Moved.{moved_up, moved_node, moved_nodes}

-- ---- a list
pub length_moved : (k : ℕ) (l : List ℕ) → length (moved_up k l) ≡ length l
unfolding moved_up
length_moved k [] = refl
length_moved k (x ∷ l) = ap suc (length_moved k l)

pub at_moved : (k : ℕ) (l : List ℕ) (i : ℕ) → i < length l → get_or (moved_up k l) i 0 ≡ get_or l i 0 + k
unfolding moved_up
at_moved k [] i h = absurd (omega arith)
at_moved k (x ∷ l) zero h = refl
at_moved k (x ∷ l) (suc i) h = at_moved k l i (omega arith)

pub moved_append : (k : ℕ) (l m : List ℕ) → moved_up k (l ++ m) ≡ moved_up k l ++ moved_up k m
unfolding moved_up
moved_append k [] m = refl
moved_append k (x ∷ l) m = ap (λ (r : List ℕ). (x + k) ∷ r) (moved_append k l m)

pub moved_nowhere : (l : List ℕ) → moved_up 0 l ≡ l
unfolding moved_up
moved_nowhere [] = refl
moved_nowhere (x ∷ l) = ap (λ (y : ℕ). y ∷ moved_up 0 l) (add-zero x) ∙ ap (λ (r : List ℕ). x ∷ r) (moved_nowhere l)

-- ---- how often
one_moved : (x y k : ℕ) → one (x + k) (y + k) ≡ one x y
one_moved x y k = go (same_or_other x y)
  where
    go : (x ≡ y) ⊎ (x ≡ y → ⊥) → one (x + k) (y + k) ≡ one x y
    go (inl e) = one_same (x + k) (y + k) (ap (λ (z : ℕ). z + k) e) ∙ sym (one_same x y e)
    go (inr n) = one_other (x + k) (y + k) (λ e. n (omega arith)) ∙ sym (one_other x y n)

pub count_moved : (x k : ℕ) (l : List ℕ) → count (x + k) (moved_up k l) ≡ count x l
unfolding moved_up
count_moved x k [] = count_nil (x + k) ∙ sym (count_nil x)
count_moved x k (y ∷ l) = omega (arith, count_cons (x + k) (y + k) (moved_up k l), count_cons x y l, one_moved x y k, count_moved x k l)

pub count_moved_below : (x k : ℕ) (l : List ℕ) → x < k → count x (moved_up k l) ≡ 0
unfolding moved_up
count_moved_below x k [] h = count_nil x
count_moved_below x k (y ∷ l) h =
    omega (arith, count_cons x (y + k) (moved_up k l), one_other x (y + k) (λ e. omega arith), count_moved_below x k l h)

-- where one of a moved list comes from
pub record Source (y k : ℕ) (l : List ℕ) : Type 0 where
  pub from : ℕ
  pub moved : y ≡ from + k
  pub listed : 0 < count from l

pub moved_source : (y k : ℕ) (l : List ℕ) → 0 < count y (moved_up k l) → Source y k l
unfolding moved_up
moved_source y k [] h = absurd (omega (arith, count_nil y))
moved_source y k (x ∷ l) h = go (moved_source y k l) (same_or_other y (x + k))
  where
    go : (0 < count y (moved_up k l) → Source y k l) → (y ≡ x + k) ⊎ (y ≡ x + k → ⊥) → Source y k (x ∷ l)
    go rest (inl e) = record { from = x; moved = e; listed = omega (arith, count_cons x x l, one_same x x refl) }
    go rest (inr n) =
        let s = rest (omega (arith, count_cons y (x + k) (moved_up k l), one_other y (x + k) n)) in
        record { from = s.from; moved = s.moved; listed = omega (arith, count_cons s.from x l, s.listed) }

-- ---- ranges
pub range_split : (s n m : ℕ) → range s (n + m) ≡ range s n ++ range (s + n) m
unfolding range
range_split s zero m = ap (range s) (zero-add m) ∙ ap (λ (k : ℕ). range k m) (sym (add-zero s))
range_split s (suc n) m =
    let e : suc s + n ≡ s + suc n = omega arith in
    ap (range s) (suc-add n m) ∙ ap (λ (r : List ℕ). s ∷ r) (range_split (suc s) n m ∙ ap (λ (k : ℕ). range (suc s) n ++ range k m) e)

pub moved_range : (k s n : ℕ) → moved_up k (range s n) ≡ range (s + k) n
unfolding range moved_up
moved_range k s zero = refl
moved_range k s (suc n) = ap (λ (r : List ℕ). (s + k) ∷ r) (moved_range k (suc s) n ∙ ap (λ (z : ℕ). range z n) (suc-add s k))

-- what each of a moved range gives, where each gives what another gave there, moved up
pub gather_moved : (f g : ℕ → List ℕ) (j k s n : ℕ) → ((i : ℕ) → s ≤ i → i < s + n → f (i + k) ≡ moved_up j (g i))
    → flat_map f (range (s + k) n) ≡ moved_up j (flat_map g (range s n))
unfolding range flat_map moved_up
gather_moved f g j k s zero h = refl
gather_moved f g j k s (suc n) h =
    ap (λ (r : List ℕ). f (s + k) ++ flat_map f r) (ap (λ (z : ℕ). range z n) (sym (suc-add s k)))
    ∙ ap (λ (r : List ℕ). f (s + k) ++ r) (gather_moved f g j k (suc s) n (λ i p q. h i (omega arith) (omega arith)))
    ∙ ap (λ (r : List ℕ). r ++ moved_up j (flat_map g (range (suc s) n))) (h s (omega arith) (omega arith))
    ∙ sym (moved_append j (g s) (flat_map g (range (suc s) n)))

pub keep_moved : (p q : ℕ → Bool) (k s n : ℕ) → ((i : ℕ) → s ≤ i → i < s + n → p (i + k) ≡ q i)
    → keep p (range (s + k) n) ≡ moved_up k (keep q (range s n))
unfolding range keep moved_up
keep_moved p q k s zero h = refl
keep_moved p q k s (suc n) h =
    ap (λ (b : Bool). cond b ((s + k) ∷ keep p (range (suc (s + k)) n)) (keep p (range (suc (s + k)) n))) (h s (omega arith) (omega arith))
    ∙ go (q s) (ap (λ (z : ℕ). keep p (range z n)) (sym (suc-add s k)) ∙ keep_moved p q k (suc s) n
    (λ i a b. h i (omega arith) (omega arith)))
  where
    go : (b : Bool) → keep p (range (suc (s + k)) n) ≡ moved_up k (keep q (range (suc s) n))
        → cond b ((s + k) ∷ keep p (range (suc (s + k)) n)) (keep p (range (suc (s + k)) n))
        ≡ moved_up k (cond b (s ∷ keep q (range (suc s) n)) (keep q (range (suc s) n)))
    go true e = ap (λ (r : List ℕ). (s + k) ∷ r) e
    go false e = e

-- ---- lists of three, one after another
pub length_threes : (f : ℕ → List ℕ) (s n : ℕ) → ((i : ℕ) → length (f i) ≡ 3) → length (flat_map f (range s n)) ≡ 3 * n
unfolding range flat_map
length_threes f s zero h = refl
length_threes f s (suc n) h = omega (arith, length-append (f s) (flat_map f (range (suc s) n)), h s, length_threes f (suc s) n h)

pub at_threes : (f : ℕ → List ℕ) (s n : ℕ) → ((i : ℕ) → length (f i) ≡ 3) → (i k : ℕ) → i < n → k < 3
    → get_or (flat_map f (range s n)) (3 * i + k) 0 ≡ get_or (f (s + i)) k 0
unfolding range flat_map
at_threes f s zero h i k p q = absurd (omega arith)
at_threes f s (suc n) h zero k p q =
    let e : 3 * 0 + k ≡ k = omega arith in
    ap (λ (j : ℕ). get_or (f s ++ flat_map f (range (suc s) n)) j 0) e
    ∙ get_or-append (f s) (flat_map f (range (suc s) n)) 0 k (omega (arith, h s))
    ∙ ap (λ (j : ℕ). get_or (f j) k 0) (sym (add-zero s))
at_threes f s (suc n) h (suc i) k p q =
    let e : 3 * suc i + k ≡ length (f s) + (3 * i + k) = omega (arith, h s) in
    let e' : suc s + i ≡ s + suc i = omega arith in
    ap (λ (j : ℕ). get_or (f s ++ flat_map f (range (suc s) n)) j 0) e
    ∙ get_or-append-add (f s) (flat_map f (range (suc s) n)) (3 * i + k) 0
    ∙ at_threes f (suc s) n h i k (omega arith) q
    ∙ ap (λ (j : ℕ). get_or (f j) k 0) e'

-- ---- the words of moved nodes
pub three_words : (nodes places : ℕ) (words : List ℕ) (i : ℕ) → length (moved_node nodes places words i) ≡ 3
unfolding moved_node
three_words nodes places words i = refl

pub length_nodes : (nodes places : ℕ) (words : List ℕ) (n : ℕ) → length (moved_nodes nodes places words n) ≡ 3 * n
unfolding moved_nodes
length_nodes nodes places words n = length_threes (moved_node nodes places words) 0 n (three_words nodes places words)
