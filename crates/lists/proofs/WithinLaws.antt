-- Lists that stand within another, each number as often at most: they are no longer, they gather no more, and where the other is no longer
-- either it stands within them. Assumes nothing.
use Prim.Native.Nat.{ℕ, suc, ◌+◌, ◌≤◌}
use mathlib.Core.Path.{◌≡◌, refl, sym, ap}
use mathlib.Core.Logic.{◌⊎◌, inl, inr}
use mathlib.Core.List.Memᴰ
use mathlib.Core.List.{List, [], ◌∷◌, ◌++◌, Memᴰ}
use native.Mathlib.Omega.{arith}
use lib.ListN.{length, length-append}
use Rattle.lists.specs.Lists.{count, flat_map}
use Rattle.lists.proofs.CountLaws.{one, one_same, count_cons, count_nil, count_append, member_of_count, flat_map_append}
use Rattle.lists.proofs.CountLaws.{count_flat_map_cons}

-- ---- a list at one of its members
pub record Split (x : ℕ) (l : List ℕ) : Type 0 where
  pub before : List ℕ
  pub after : List ℕ
  pub split : l ≡ before ++ (x ∷ after)

pub split_at : (x : ℕ) (l : List ℕ) → Memᴰ x l → Split x l
split_at x [] m = absurd (Memᴰ.not-nil m)
split_at x (y ∷ l) m = go (split_at x l) (Memᴰ.cases_cons m)
  where
    go : (Memᴰ x l → Split x l) → (x ≡ y) ⊎ Memᴰ x l → Split x (y ∷ l)
    go rest (inl e) = record { before = []; after = l; split = ap (λ (z : ℕ). z ∷ l) (sym e) }
    go rest (inr n) = let s = rest n in record { before = y ∷ s.before; after = s.after; split = ap (λ (r : List ℕ). y ∷ r) s.split }

module _ (x : ℕ) (l : List ℕ) (s : Split x l) where
  -- the list without it
  pub without : List ℕ
  without = s.before ++ s.after

  count_without : (y : ℕ) → count y l ≡ one y x + count y without
  unfolding without
  count_without y =
      let e = ap (count y) s.split in
      omega (arith, count_append y s.before (x ∷ s.after), count_cons y x s.after, count_append y s.before s.after)

  length_without : length l ≡ suc (length without)
  unfolding without
  length_without =
      let e = ap length s.split in
      omega (arith, length-append s.before (x ∷ s.after), length-append s.before s.after)

  gather_without : (f : ℕ → List ℕ) (y : ℕ) → count y (flat_map f l) ≡ count y (f x) + count y (flat_map f without)
  unfolding without
  gather_without f y =
      let e = ap (λ (r : List ℕ). count y (flat_map f r)) s.split in
      let a = ap (count y) (flat_map_append f s.before (x ∷ s.after)) in
      let b = ap (count y) (flat_map_append f s.before s.after) in
      omega (
        arith,
        count_append y (flat_map f s.before) (flat_map f (x ∷ s.after)),
        count_flat_map_cons f x y s.after,
        count_append y
            (flat_map f s.before) (flat_map f s.after),
      )

-- ---- within another list: each number as often at most
pub record Within (l m : List ℕ) : Type 0 where
  pub at_most : (x : ℕ) → count x l ≤ count x m

pub within_through : (l m n : List ℕ) → Within l m → Within m n → Within l n
within_through l m n a b = record { at_most = λ (x : ℕ). omega (arith, a.at_most x, b.at_most x) }

within_head : (x : ℕ) (xs m : List ℕ) → Within (x ∷ xs) m → Split x m
within_head x xs m w = split_at x m (member_of_count x m (omega (arith, w.at_most x, count_cons x x xs, one_same x x refl)))

within_tail : (x : ℕ) (xs m : List ℕ) → Within (x ∷ xs) m → (s : Split x m) → Within xs (without x m s)
within_tail x xs m w s = record { at_most = λ (y : ℕ). omega (arith, w.at_most y, count_cons y x xs, count_without x m s y) }

pub within_length : (l m : List ℕ) → Within l m → length l ≤ length m
within_length [] m w = omega arith
within_length (x ∷ xs) m w =
    let s = within_head x xs m w in
    omega (arith, length_without x m s, within_length xs (without x m s) (within_tail x xs m w s))

pub within_flat_map : (f : ℕ → List ℕ) (l m : List ℕ) → Within l m → Within (flat_map f l) (flat_map f m)
unfolding flat_map
within_flat_map f [] m w = record { at_most = λ (y : ℕ). omega (arith, count_nil y) }
within_flat_map f (x ∷ xs) m w =
    let s = within_head x xs m w in
    let rest = within_flat_map f xs (without x m s) (within_tail x xs m w s) in
    record { at_most = λ (y : ℕ). omega (arith, count_append y (f x) (flat_map f xs), gather_without x m s f y, rest.at_most y) }

count_empty : (l : List ℕ) → length l ≡ 0 → (x : ℕ) → count x l ≡ 0
count_empty [] h x = count_nil x
count_empty (y ∷ l) h x = absurd (omega arith)

-- where the other is no longer, it stands within this one
pub within_of_full : (l m : List ℕ) → Within l m → length m ≤ length l → Within m l
within_of_full [] m w h = record { at_most = λ (x : ℕ). omega (arith, count_empty m (omega arith) x) }
within_of_full (x ∷ xs) m w h =
    let s = within_head x xs m w in
    let rest = within_of_full xs (without x m s) (within_tail x xs m w s) (omega (arith, length_without x m s)) in
    record { at_most = λ (y : ℕ). omega (arith, count_without x m s y, count_cons y x xs, rest.at_most y) }
