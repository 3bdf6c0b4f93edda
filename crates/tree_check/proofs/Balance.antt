-- A place and the one before it: leaves hold one more where one begins, and one less where one has ended. So the marks of sound leaves tell
-- how many leaves hold a place. Assumes nothing.
use Prim.Native.Nat.{ℕ, zero, suc, ◌+◌, ◌*◌, ◌<◌, ◌≤◌}
use mathlib.Core.Path.{◌≡◌, refl, ap}
use mathlib.Core.Bool.{true}
use mathlib.Core.List.{List, [], ◌∷◌, ◌++◌}
use native.Mathlib.Omega.{arith}
use native.Mathlib.Nat.{add-zero}
use borrow.Author.Tests.{eq-eqb, ne_eqb}
use lib.Dec.{eqb}
use lib.ListN.{get_or}
use Rattle.lists.specs.Lists.{range, count, every, flat_map}
use Rattle.tree.specs.Layout.{kind_at, first_at, second_at}
use Rattle.tree_check.specs.Marks.{once, places, second_mark, marked, leaves_at, in_one_leaf}
use Rattle.tree_check.specs.Sound.{node_sound}
use Rattle.lists.proofs.EveryLaws.{every_at, every_agree}
use Rattle.tree_check.proofs.Counting.{by_equality, count_other, count_agree, count_cons, count_append}
use Rattle.tree_check.proofs.Tally.{marked_other, marked_here}
use Rattle.tree_check.proofs.Sound.{SoundLeaf, sound_leaf}

-- how often the number before p stands in a list
before : ℕ → List ℕ → ℕ
before zero l = 0
before (suc p) l = count p l

before_append : (p : ℕ) (a b : List ℕ) → before p (a ++ b) ≡ before p a + before p b
unfolding before
before_append zero a b = omega arith
before_append (suc p) a b = count_append p a b

-- a range holds p where it holds the number before, but for its begin and its end
range_balance : (p start size : ℕ)
    → count p (range start size) + count p ((start + size) ∷ []) ≡ before p (range start size) + count p (start ∷ [])
unfolding count range before
range_balance zero start zero = omega (arith, ap (λ (k : ℕ). count 0 (k ∷ [])) (add-zero start))
range_balance (suc p) start zero = omega (arith, ap (λ (k : ℕ). count (suc p) (k ∷ [])) (add-zero start))
range_balance zero start (suc size) =
    let e : start + suc size ≡ suc start + size = omega arith in
    let none : count 0 (suc start ∷ []) ≡ 0 = count_other 0 (suc start) (λ (q : 0 ≡ suc start). omega arith) in
    omega (arith, range_balance zero (suc start) size, ap (λ (k : ℕ). count 0 (k ∷ [])) e, count_cons 0 start (range (suc start) size))
range_balance (suc p) start (suc size) =
    let e : start + suc size ≡ suc start + size = omega arith in
    let same : count (suc p) (suc start ∷ []) ≡ count p (start ∷ []) =
    count_agree (suc p) (suc start) p start (λ (q : suc p ≡ suc start). omega arith) (λ (q : p ≡ start). omega arith) in
    omega (
      arith,
      range_balance (suc p) (suc start) size,
      ap (λ (k : ℕ). count (suc p) (k ∷ [])) e,
      count_cons (suc p) start
          (range (suc start) size),
      count_cons p start (range (suc start) size),
    )

-- the same of places that are held and the marks of begins and, n further on, of ends
abbrev Balanced : ℕ → ℕ → List ℕ → List ℕ → Type 0
Balanced n p held marks = count p held + count (n + p) marks ≡ before p held + count p marks

leaf_balance : (n p start size : ℕ) → p < n → SoundLeaf n start size → Balanced n p (range start size) (start ∷ ((n + (start + size)) ∷ []))
leaf_balance n p start size below leaf =
    let begins : count p ((n + (start + size)) ∷ []) ≡ 0 = count_other p (n + (start + size))
    (λ (q : p ≡ n + (start + size)). omega arith) in
    let not_yet : count (n + p) (start ∷ []) ≡ 0 = count_other (n + p) start (λ (q : n + p ≡ start). omega arith) in
    let ends : count (n + p) ((n + (start + size)) ∷ []) ≡ count p ((start + size) ∷ []) =
    count_agree (n + p) (n + (start + size)) p (start + size) (λ (q : n + p ≡ n + (start + size)). omega arith)
    (λ (q : p ≡ start + size). omega arith) in
    omega (
      arith,
      range_balance p start size,
      count_cons p start ((n + (start + size)) ∷ []),
      count_cons (n + p) start
          ((n + (start + size)) ∷ []),
    )

none_balance : (n p : ℕ) → Balanced n p [] []
unfolding count before
none_balance n zero = refl
none_balance n (suc p) = refl

places_here : (words : List ℕ) (node : ℕ) → kind_at words node ≡ 0 → places words node ≡ range (first_at words node) (second_at words node)
unfolding places
places_here words node k = simp (eq-eqb _ _ k)

places_other : (words : List ℕ) (node : ℕ) → (kind_at words node ≡ 0 → ⊥) → places words node ≡ []
unfolding places
places_other words node k = simp (ne_eqb _ _ k)

leaf_marks : (n : ℕ) (words : List ℕ) (node : ℕ) → kind_at words node ≡ 0
    → marked 0 n words node ≡ first_at words node ∷ ((n + (first_at words node + second_at words node)) ∷ [])
unfolding second_mark
leaf_marks n words node k = marked_here 0 n words node k

node_balance : (n p nodes : ℕ) (words : List ℕ) (node : ℕ) → p < n → node_sound n nodes words node ≡ true
    → Balanced n p (places words node) (marked 0 n words node)
node_balance n p nodes words node below sound =
    by_equality (kind_at words node) 0
    (λ (k : kind_at words node ≡ 0). rw (leaf_marks n words node k, places_here words node k)
    (leaf_balance n p (first_at words node) (second_at words node) below (sound_leaf n nodes words node sound k)))
    (λ (k : kind_at words node ≡ 0 → ⊥). rw (marked_other 0 n words node k, places_other words node k) (none_balance n p))

-- over all nodes
gather_balance : (f g : ℕ → List ℕ) (n p start size : ℕ) → ((i : ℕ) → start ≤ i → i < start + size → Balanced n p (f i) (g i))
    → Balanced n p (flat_map f (range start size)) (flat_map g (range start size))
unfolding flat_map range
gather_balance f g n p start zero h = none_balance n p
gather_balance f g n p start (suc size) h =
    let F : List ℕ = flat_map f (range (suc start) size) in
    let G : List ℕ = flat_map g (range (suc start) size) in
    let ih : Balanced n p F G = gather_balance f g n p (suc start) size (λ i low high. h i (omega arith) (omega arith)) in
    omega (
      arith,
      ih,
      h start (omega arith) (omega arith),
      count_append p (f start) F,
      count_append (n + p) (g start) G,
      count_append p
          (g start) G,
      before_append p (f start) F,
    )

module _ (n : ℕ) (marks held gathered : List ℕ) (counted : (x : ℕ) → x < 3 * n → get_or marks x 0 ≡ count x gathered)
    (balanced : (p : ℕ) → p < n → Balanced n p held gathered) where
  held_before_is : (p : ℕ) → p ≤ n → leaves_at n marks p ≡ before p held
  unfolding leaves_at before
  held_before_is zero h = refl
  held_before_is (suc p) h = omega (
    arith,
    held_before_is p (omega arith),
    balanced p (omega arith),
    counted p (omega arith),
    counted (n +
        p) (omega arith),
  )

  held_once_is : (p : ℕ) → p < n → in_one_leaf n marks p ≡ once held p
  unfolding in_one_leaf once before
  held_once_is p h = ap (λ (k : ℕ). eqb k 1) (held_before_is (suc p) h)

-- the marks of sound leaves tell how many leaves hold each place
pub placed_once_is : (n nodes : ℕ) (words marks : List ℕ) → every (node_sound n nodes words) (range 0 nodes) ≡ true
    → ((x : ℕ) → x < 3 * n → get_or marks x 0 ≡ count x (flat_map (marked 0 n words) (range 0 nodes)))
    → every (in_one_leaf n marks) (range 0 n) ≡ every (once (flat_map (places words) (range 0 nodes))) (range 0 n)
placed_once_is n nodes words marks sound counted =
    every_agree _ _ 0 n
    (λ p low high. held_once_is n marks (flat_map (places words) (range 0 nodes)) (flat_map (marked 0 n words) (range 0 nodes)) counted
    (λ q below. gather_balance (places words) (marked 0 n words) n q 0 nodes
    (λ i first last. node_balance n q nodes words i below (every_at (node_sound n nodes words) 0 nodes i sound first last)))
    p (omega arith))
