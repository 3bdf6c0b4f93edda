-- What the nodes of a kind mark, counted over all nodes. Assumes nothing.
use Prim.Native.Nat.{ℕ, zero, suc, ◌+◌, ◌-◌, ◌*◌, ◌<◌, ◌≤◌}
use mathlib.Core.Path.{◌≡◌, sym, ap, ◌∙◌}
use mathlib.Core.Bool.{Bool, true, false, cond}
use mathlib.Core.List.{List, [], ◌∷◌}
use native.Mathlib.Omega.{arith}
use native.Mathlib.Nat.{sub-zero}
use native.Mathlib.Numerals.{add-one}
use borrow.Author.Tests.{eq-eqb, ne_eqb}
use lib.Dec.{eqb}
use lib.ListN.{length, get_or, take}
use lib.Seq.{slice, slice-cons, slice_empty, length-take-le}
use Rattle.lists.specs.Lists.{range, count, flat_map}
use Rattle.tree.specs.Layout.{kind_at, first_at, second_at}
use Rattle.tree_check.specs.Marks.{second_mark, marked}
use Rattle.lists.proofs.EveryLaws.{range_next, range_done}
use Rattle.tree_check.proofs.Counting.{count_cons, count_append, count_le_length}

module _ (kind n : ℕ) (words : List ℕ) (node : ℕ) where
  pub marked_other : (kind_at words node ≡ kind → ⊥) → marked kind n words node ≡ []
  unfolding marked
  marked_other h = simp (ne_eqb _ _ h)

  pub marked_here : kind_at words node ≡ kind
      → marked kind n words node ≡ first_at words node ∷ (second_mark kind n (first_at words node) (second_at words node) ∷ [])
  unfolding marked
  marked_here h = simp (eq-eqb _ _ h)

  marked_length : length (marked kind n words node) ≤ 2
  unfolding marked
  marked_length = go (eqb (kind_at words node) kind)
    where
      go : (t : Bool) → length (cond t (first_at words node ∷ (second_mark kind n (first_at words node) (second_at words node) ∷ [])) [])
          ≤ 2
      go true = omega arith
      go false = omega arith

-- no number is marked more often than twice a node
pub marks_few : (kind n : ℕ) (words : List ℕ) (x start size : ℕ) → count x (flat_map (marked kind n words) (range start size)) ≤ 2 * size
unfolding flat_map range count
marks_few kind n words x start zero = omega arith
marks_few kind n words x start (suc size) =
    rw (count_append x (marked kind n words start) (flat_map (marked kind n words) (range (suc start) size)))
    (omega (
      arith,
      marked_length kind n words start,
      count_le_length x (marked kind n words start),
      marks_few kind n words x (suc start)
          size,
    ))

module _ (f : ℕ → List ℕ) (x : ℕ) where
  -- zeros and all that is to come
  pub tally_none : (m nodes : ℕ) → m ≡ 0 → m + count x (flat_map f (range 0 (nodes - 0))) ≡ count x (flat_map f (range 0 nodes))
  tally_none m nodes e = rw (e, sub-zero) (omega arith)

  -- one node's marks move from what is to come to what was counted
  pub tally_more : (m m' i nodes v : ℕ) → i < nodes → m' ≡ count x (f i) + m → m + count x (flat_map f (range i (nodes - i))) ≡ v
      → m' + count x (flat_map f (range (i + 1) (nodes - (i + 1)))) ≡ v
  unfolding flat_map
  tally_more m m' i nodes v h e inv =
      omega (
        arith,
        count_append x (f i) (flat_map f (range (i + 1) (nodes - (i + 1)))),
        ap (λ (r : List ℕ). count x (flat_map f r))
            (range_next i nodes h),
      )

  pub tally_done : (m i nodes v : ℕ) → nodes ≤ i → m + count x (flat_map f (range i (nodes - i))) ≡ v → m ≡ v
  unfolding flat_map count
  tally_done m i nodes v h inv = omega (arith, ap (λ (r : List ℕ). count x (flat_map f r)) (range_done i nodes h))

module _ (kind n : ℕ) (words : List ℕ) (node x m : ℕ) where
  -- a node of another kind marks nothing
  pub marks_other : (kind_at words node ≡ kind → ⊥) → m ≡ count x (marked kind n words node) + m
  unfolding count
  marks_other h = omega (arith, ap (count x) (marked_other kind n words node h))

  -- one of the kind marks its two numbers
  pub marks_here : (m' r : ℕ) → kind_at words node ≡ kind → r ≡ second_mark kind n (first_at words node) (second_at words node)
      → m' ≡ count x (first_at words node ∷ (r ∷ [])) + m → m' ≡ count x (marked kind n words node) + m
  marks_here m' r here e h =
      h ∙ ap (λ (l : List ℕ). count x l + m) (ap (λ (s : ℕ). first_at words node ∷ (s ∷ [])) e ∙ sym (marked_here kind n words node here))

-- the first n of a list, counted one after another
module _ (l : List ℕ) (n x : ℕ) where
  pub order_more : (m m' p v : ℕ) → p < n → n ≤ length l → m' ≡ count x (get_or l p 0 ∷ []) + m → m + count x (slice p n l) ≡ v
      → m' + count x (slice (p + 1) n l) ≡ v
  order_more m m' p v h k e inv =
      let s : slice p n l ≡ get_or l p 0 ∷ slice (p + 1) n l = rw add-one (slice-cons p n l 0 h k) in
      omega (arith, count_cons x (get_or l p 0) (slice (p + 1) n l), ap (count x) s)

  pub order_done : (m p v : ℕ) → n ≤ p → p ≤ n → m + count x (slice p n l) ≡ v → m ≡ v
  unfolding count
  order_done m p v h k inv =
      let e : p ≡ n = omega arith in
      omega (arith, ap (λ (q : ℕ). count x (slice q n l)) e, ap (count x) (slice_empty n l))

  pub order_few : n ≤ length l → count x (take n l) ≤ n
  order_few h = omega (arith, count_le_length x (take n l), length-take-le n l h)
