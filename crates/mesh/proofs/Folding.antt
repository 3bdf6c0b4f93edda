-- The notes of the listed triangles: what is left of them gives the whole, and the winner's answer is that of the fold over the same list
-- ascending. Assumes that those hit are hit at numbers.
use Prim.Native.Nat.{ℕ, zero, suc, ◌+◌, ◌<◌, ◌≤◌}
use mathlib.Core.Path.{◌≡◌, refl, sym, ap, ◌∙◌}
use mathlib.Core.Bool.{Bool, true, false, cond}
use mathlib.Core.List.Memᴰ
use mathlib.Core.List.{List, [], ◌∷◌, Memᴰ}
use native.Mathlib.Omega.{arith}
use native.Mathlib.Numerals.{add-one}
use borrow.Author.Tests.{ltb-true}
use lib.Dec.{ltb, leb}
use lib.Ieee.{Float}
use lib.ListN.{length, get_or, take, drop, drop_of_length-le}
use lib.Seq.{drop-cons, get_or-take, length-take-le}
use Rattle.casts.specs.Answer.{Answer}
use Rattle.nearest_hit.specs.Nearest.{Indexed, no_hit, stopped, next_of, nearest_of}
use Rattle.casts.specs.Reach.{Reach, At, reach_of}
use Rattle.nearest_hit.specs.Summary.{Summary, nothing, note_of, summary_from, winner, answer_at}
use Rattle.nearest_hit.specs.Summary.{Outcome, Nobody, RefusedBy, NearestHit}
use Rattle.lists.proofs.Members.{Each, each_cons}
use Rattle.casts.proofs.AnswerLists.{HitsAreNumbers}
use Rattle.nearest_hit.proofs.SummaryOrder.{Reordered, unchanged, exchanged, behind, through}
use Rattle.nearest_hit.proofs.SummaryLaws.{nearest_of_any_order}
use Rattle.nearest_hit.proofs.SummaryMembers.{winner_of_list}
use Rattle.lists.specs.Lists.{every, insert_by, sort_by, sorted, all_below}
use Rattle.lists.proofs.JoinedTests.{and_first, and_second}
use Rattle.lists.proofs.SortLaws.{sorted_rises}

-- a number of a list whose numbers are all below a bound
pub every_at : (n i : ℕ) (xs : List ℕ) → all_below n xs ≡ true → i < length xs → get_or xs i 0 < n
unfolding every
every_at n i [] a h = absurd (omega arith)
every_at n zero (x ∷ xs) a h = ltb-true x n (and_first (ltb x n) (all_below n xs) a)
every_at n (suc i) (x ∷ xs) a h =
    let k : i < length xs = omega arith in
    every_at n i xs (and_second (ltb x n) (all_below n xs) a) k

pub listed_below : (list : List ℕ) (found : ℕ) → found ≤ length list → (n i : ℕ) → all_below n (take found list) ≡ true → i < found → get_or
    list i 0 < n
listed_below list found inside n i a h =
    let l : length (take found list) ≡ found = length-take-le found list inside in
    let k : i < length (take found list) = omega arith in
    rw (get_or-take found list i 0 h) at (every_at n i (take found list) a k)

-- a number of a list's first places
pub taken_at : (list : List ℕ) (bound i : ℕ) → i < length (take bound list) → bound ≤ length list
    → (i < bound) × (get_or (take bound list) i 0 ≡ get_or list i 0)
taken_at list bound i h inside =
    let below : i < bound = omega (arith, length-take-le bound list inside) in
    (below, get_or-take bound list i 0 below)

each_below : (n : ℕ) (l : List ℕ) → all_below n l ≡ true → Each (λ (i : ℕ). i < n) l
unfolding every
each_below n [] a j m = absurd (Memᴰ.not-nil m)
each_below n (x ∷ xs) a j m =
    each_cons (λ (i : ℕ). i < n) x xs (λ k e. let h = ltb-true x n (and_first (ltb x n) (all_below n xs) a) in omega arith)
    (each_below n xs (and_second (ltb x n) (all_below n xs) a)) j m

module _ (answer : ℕ → Answer) (list : List ℕ) (found : ℕ) where
  pub record Folding (notes : Summary) (i : ℕ) : Type 0 where
    pub within : i ≤ found
    pub gives : summary_from answer notes (drop i (take found list)) ≡ summary_from answer nothing (take found list)

  pub folding_begins : (notes : Summary) → notes ≡ nothing → Folding notes 0
  folding_begins notes e = record { within = omega arith; gives = ap (λ (s : Summary). summary_from answer s (take found list)) e }

  module _ (inside : found ≤ length list) where
    pub folding_goes : (notes next : Summary) (a : Reach) (i : ℕ) → Folding notes i → i < found → a ≡ reach_of (answer (get_or list i 0)) →
        next ≡ note_of notes (get_or list i 0) a → Folding next (i + 1)
    unfolding summary_from
    folding_goes notes next a i f h e g =
        let l : length (take found list) ≡ found = length-take-le found list inside in
        let k : i < length (take found list) = omega arith in
        let c : drop i (take found list) ≡ get_or list i 0 ∷ drop (suc i) (take found list) =
        drop-cons (take found list) i 0 k ∙ ap (λ (x : ℕ). x ∷ drop (suc i) (take found list)) (get_or-take found list i 0 h) in
        record { within = omega arith; gives = rw (g, e, add-one i) (rw c at f.gives) }

    pub folding_ends : (notes : Summary) (i : ℕ) → Folding notes i → found ≤ i → notes ≡ summary_from answer nothing (take found list)
    unfolding summary_from
    folding_ends notes i f h =
        let l : length (take found list) ≡ found = length-take-le found list inside in
        let k : length (take found list) ≤ i = omega arith in
        rw (drop_of_length-le (take found list) k) at f.gives

-- ---- the list of the walk and the same ascending
insert_reorders : (x : ℕ) (l : List ℕ) → Reordered (x ∷ l) (insert_by leb x l)
unfolding insert_by
insert_reorders x [] = unchanged
insert_reorders x (y ∷ l) = go (leb x y) (insert_reorders x l)
  where
    go : (b : Bool) → Reordered (x ∷ l) (insert_by leb x l) → Reordered (x ∷ (y ∷ l)) (cond b (x ∷ (y ∷ l)) (y ∷ insert_by leb x l))
    go true rest = unchanged
    go false rest = through (exchanged x y l) (behind y rest)

pub sorted_reorders : (l : List ℕ) → Reordered l (sorted l)
unfolding sort_by
sorted_reorders [] = unchanged
sorted_reorders (x ∷ l) = through (behind x (sorted_reorders l)) (insert_reorders x (sorted l))

-- ---- the winner's answer
-- a triangle of an index below a bound, with what it reaches
abbrev pub Below : ℕ → (ℕ → Answer) → ℕ → Reach → Type 0
Below n answer i a = (i < n) × (reach_of (answer i) ≡ a)

module _ (answer : ℕ → Answer) (numbers : HitsAreNumbers answer) (l : List ℕ) (notes : Summary) (h : notes ≡ summary_from answer nothing l)
    (outcome : Outcome) (w : outcome ≡ winner notes) where
  wins : outcome ≡ winner (summary_from answer nothing l)
  wins = w ∙ ap winner h

  nearest : answer_at answer outcome ≡ nearest_of answer (sorted l)
  nearest = ap (answer_at answer) wins ∙ nearest_of_any_order answer numbers (sorted_reorders l) (sorted_rises l)

  pub nobody_wins : outcome ≡ Nobody → no_hit ≡ nearest_of answer (sorted l)
  unfolding answer_at
  nobody_wins e = ap (answer_at answer) (sym e) ∙ nearest

  pub refusal_wins : (number : ℕ) → outcome ≡ RefusedBy number → stopped number ≡ nearest_of answer (sorted l)
  unfolding answer_at
  refusal_wins number e = ap (answer_at answer) (sym e) ∙ nearest

  module _ (index : ℕ) (distance : Float) (e : outcome ≡ NearestHit index distance) where
    pub hit_wins : (a : Answer) → a ≡ answer index → (r : Indexed) → r ≡ next_of no_hit index a → r ≡ nearest_of answer (sorted l)
    unfolding answer_at
    hit_wins a f r g = g ∙ ap (next_of no_hit index) f ∙ ap (answer_at answer) (sym e) ∙ nearest

    pub winner_reached : (n : ℕ) → all_below n l ≡ true → Below n answer index (At distance)
    winner_reached n below = rw (sym wins ∙ e) at (winner_of_list (Below n answer) answer l (λ (j : ℕ) (m : Memᴰ j l). (
      each_below n l
          below j m,
      refl,
    )))
