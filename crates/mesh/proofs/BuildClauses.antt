-- A tree that holds what the build writes over n triangles passes each clause of the check. Assumes nothing.
use Prim.Native.Nat.{ℕ, ◌+◌, ◌-◌, ◌*◌, ◌≤◌, ◌<◌}
use mathlib.Core.Path.{◌≡◌, refl, ap, ◌∙◌}
use mathlib.Core.Bool.{Bool, true, not, ◌&&◌, ◌||◌}
use mathlib.Core.List.{List, [], ◌∷◌}
use native.Mathlib.Omega.{arith}
use lib.Dec.{leb, ltb, eqb}
use lib.ListN.{length, take}
use borrow.Author.Tests.{le-leb, lt-ltb, eq-eqb, ne_eqb}
use Rattle.geometry.specs.Box.{valid_box, encloses, same_box}
use Rattle.lists.proofs.JoinedTests.{and_both, or_first, or_second}
use Rattle.lists.specs.Lists.{range, count, every, flat_map}
use Rattle.tree.specs.Layout.{Tree, word_at, box_at, first_at, second_at}
use Rattle.tree.specs.Mesh.{Mesh, thirds, corners_inside, triangle_box}
use Rattle.lists.proofs.CountLaws.{one_same, one_other, count_cons, count_range_inside, range_bounds}
use Rattle.tree_build.specs.Shape.{shape_of, size_of, nodes_of}
use Rattle.tree_build.proofs.Shapes.{size_of_shape_of, nodes_of_shape_of}
use Rattle.tree_check.specs.Check.{triangle_count, nodes, is_leaf, is_branch, children_of, places_of, kinds_known, children_above}
use Rattle.tree_check.specs.Check.{leaves_inside}
use Rattle.tree_check.specs.Check.{named_once, placed_once, ordered_once, leaves_filled, corners_known, boxes_same, boxes_valid}
use Rattle.tree_check.specs.Check.{node_encloses}
use Rattle.tree_check.specs.Check.{enclosed, clauses_hold}
use Rattle.mesh.proofs.BuildBoxes.{valid_same}
use Rattle.mesh.proofs.BuildOrder.{shape_filled}
use Rattle.mesh.proofs.BuildNodes.{Written, Kind, is_leaf_lem, is_branch_lem, NodeAt, nodes_below}
use Rattle.mesh.proofs.BuildCounts.{branch_is_branch, branch_is_no_leaf, branch_names, branch_places, leaf_is_leaf}
use Rattle.mesh.proofs.BuildCounts.{leaf_is_no_branch, leaf_names, leaf_holds, named_below, places_below}

-- ---- tests over a list and over a range
pub every_of_listed : (p : ℕ → Bool) (l : List ℕ) → ((x : ℕ) → 0 < count x l → p x ≡ true) → every p l ≡ true
unfolding every
every_of_listed p [] h = refl
every_of_listed p (y ∷ l) h =
    and_both (p y) (every p l) (h y (omega (arith, count_cons y y l, one_same y y refl)))
    (every_of_listed p l (λ (x : ℕ) (k : 0 < count x l). h x (omega (arith, count_cons x y l))))

pub every_of_range : (p : ℕ → Bool) (start size : ℕ) → ((x : ℕ) → start ≤ x → x < start + size → p x ≡ true) → every p (range start size) ≡
    true
every_of_range p start size h =
    every_of_listed p (range start size) (λ (x : ℕ) (k : 0 < count x (range start size)). let b = range_bounds x start size k in h x b.0
    b.1)

pub every_below : (p : ℕ → Bool) (size : ℕ) → ((x : ℕ) → x < size → p x ≡ true) → every p (range 0 size) ≡ true
every_below p size h = every_of_range p 0 size (λ (x : ℕ) (a : 0 ≤ x) (b : x < 0 + size). h x (omega arith))

every_nil : (p : ℕ → Bool) (l : List ℕ) → l ≡ [] → every p l ≡ true
every_nil p l e = ap (every p) e ∙ none
  where
    none : every p [] ≡ true
    none = unfold every in refl

every_two : (p : ℕ → Bool) (l : List ℕ) (a b : ℕ) → l ≡ a ∷ (b ∷ []) → p a ≡ true → p b ≡ true → every p l ≡ true
every_two p l a b e h k = ap (every p) e ∙ two
  where
    two : every p (a ∷ (b ∷ [])) ≡ true
    two = unfold every in and_both (p a) (p b && true) h (and_both (p b) true k refl)

-- ---- what the build writes
pub record Built (m : Mesh) (t : Tree) : Type 0 where
  pub some : 0 < triangle_count m t
  pub node_count_lem : t.node_count ≡ nodes_of (shape_of (triangle_count m t))
  pub written : Written t 0 0 (shape_of (triangle_count m t)) (range 0 (triangle_count m t))
  pub order_count : (x : ℕ) → count x (take (triangle_count m t) t.order) ≡ count x (range 0 (triangle_count m t))
  pub corners : (x : ℕ) → x < triangle_count m t → corners_inside (thirds (length m.vertices)) m.triangles x ≡ true
  pub boxes : (x : ℕ) → x < triangle_count m t → box_at t.triangle_boxes x ≡ triangle_box m.vertices m.triangles x
  pub boxes_valid_lem : (x : ℕ) → x < triangle_count m t → valid_box (triangle_box m.vertices m.triangles x) ≡ true

module _ (m : Mesh) (t : Tree) (b : Built m t) where
  abbrev n : ℕ
  n = triangle_count m t

  written_valid : (x : ℕ) → x < n → valid_box (box_at t.triangle_boxes x) ≡ true
  written_valid x h = rw (b.boxes x h) (b.boxes_valid_lem x h)

  node_at : (i : ℕ) → i < t.node_count → NodeAt t n i
  node_at i h =
      nodes_below t n 0 0 (shape_of n) (range 0 n) b.written (shape_filled n b.some)
      (λ (x : ℕ) (k : 0 < count x (range 0 n)). written_valid x (omega (arith, range_bounds x 0 n k)))
      (omega (arith, b.node_count_lem)) (omega (arith, size_of_shape_of n)) i (omega arith) (omega (arith, b.node_count_lem))

  -- ---- one node after another
  kind_known : (i : ℕ) → Kind t n i → (is_leaf m t i || is_branch m t i) ≡ true
  kind_known i (is_leaf_lem first size l) = or_first (is_leaf m t i) (is_branch m t i) (leaf_is_leaf m t i first size l.words)
  kind_known i (is_branch_lem left right c) = or_second (is_leaf m t i) (is_branch m t i) (branch_is_branch m t i left right c.words)

  abbrev later_test : ℕ → ℕ → Bool
  later_test i k = ltb i k && ltb k t.node_count

  abbrev differ_test : ℕ → Bool
  differ_test i = not (eqb (first_at t.node_words i) (second_at t.node_words i))

  children_above_lem : (i : ℕ) → Kind t n i → (not (is_branch m t i) || (differ_test i && every (later_test i) (children_of m t i))) ≡ true
  children_above_lem i (is_leaf_lem first size l) =
      or_first (not (is_branch m t i)) (differ_test i && every (later_test i) (children_of m t i))
      (ap not (leaf_is_no_branch m t i first size l.words))
  children_above_lem i (is_branch_lem left right c) =
      or_second (not (is_branch m t i)) (differ_test i && every (later_test i) (children_of m t i))
      (and_both (differ_test i) (every (later_test i) (children_of m t i))
      (ap not (ne_eqb (first_at t.node_words i) (second_at t.node_words i)
      (λ e. omega (arith, c.words.first_word, c.words.second_word, c.ordered))))
      (every_two (later_test i) (children_of m t i) left right (branch_names m t i left right c.words)
      (later left (omega (arith, c.later)) (omega (arith, c.ordered, c.below)))
      (later right (omega (arith, c.later, c.ordered)) (omega (arith, c.below)))))
    where
      later : (k : ℕ) → i < k → k < t.node_count → later_test i k ≡ true
      later k p q = and_both (ltb i k) (ltb k t.node_count) (lt-ltb i k p) (lt-ltb k t.node_count q)

  leaf_inside : (i : ℕ) → Kind t n i → (not (is_leaf m t i) || leb (first_at t.node_words i + second_at t.node_words i) n) ≡ true
  leaf_inside i (is_leaf_lem first size l) =
      or_second (not (is_leaf m t i)) (leb (first_at t.node_words i + second_at t.node_words i) n)
      (le-leb (first_at t.node_words i + second_at t.node_words i) n
      (omega (arith, l.words.first_word, l.words.second_word, l.inside)))
  leaf_inside i (is_branch_lem left right c) =
      or_first (not (is_leaf m t i)) (leb (first_at t.node_words i + second_at t.node_words i) n)
      (ap not (branch_is_no_leaf m t i left right c.words))

  leaf_filled : (i : ℕ) → Kind t n i → (not (is_leaf m t i) || ltb 0 (second_at t.node_words i)) ≡ true
  leaf_filled i (is_leaf_lem first size l) =
      or_second (not (is_leaf m t i)) (ltb 0 (second_at t.node_words i))
      (lt-ltb 0 (second_at t.node_words i) (omega (arith, l.words.second_word, l.filled)))
  leaf_filled i (is_branch_lem left right c) =
      or_first (not (is_leaf m t i)) (ltb 0 (second_at t.node_words i)) (ap not (branch_is_no_leaf m t i left right c.words))

  abbrev child_test : ℕ → ℕ → Bool
  child_test i k = encloses (box_at t.node_boxes i) (box_at t.node_boxes k)

  abbrev place_test : ℕ → ℕ → Bool
  place_test i p = encloses (box_at t.node_boxes i) (box_at t.triangle_boxes (word_at t.order p))

  node_encloses_lem : (i : ℕ) → Kind t n i → node_encloses m t i ≡ true
  unfolding node_encloses
  node_encloses_lem i (is_leaf_lem first size l) =
      and_both (every (child_test i) (children_of m t i)) (every (place_test i) (places_of m t i))
      (every_nil (child_test i) (children_of m t i) (leaf_names m t i first size l.words))
      (ap (every (place_test i)) (leaf_holds m t i first size l.words) ∙ every_of_range (place_test i) first size l.holds)
  node_encloses_lem i (is_branch_lem left right c) =
      and_both (every (child_test i) (children_of m t i)) (every (place_test i) (places_of m t i))
      (every_two (child_test i) (children_of m t i) left right (branch_names m t i left right c.words) c.holds_left c.holds_right)
      (every_nil (place_test i) (places_of m t i) (branch_places m t i left right c.words))

  -- ---- each place, triangle and node once
  named : (i : ℕ) → 1 ≤ i → i < 1 + (t.node_count - 1) → count i (flat_map (children_of m t) (nodes m t)) ≡ 1
  named i p q =
      let all = named_below m t 0 0 (shape_of n) (range 0 n) b.written i in
      let same = ap (λ (k : ℕ). count i (flat_map (children_of m t) (range 0 k))) b.node_count_lem in
      omega (
        arith,
        one_other i 0 (λ e. omega arith),
        count_range_inside i 0 (nodes_of (shape_of n)) (omega arith)
            (omega (arith, b.node_count_lem)),
      )

  placed : (p : ℕ) → p < n → count p (flat_map (places_of m t) (nodes m t)) ≡ 1
  placed p h =
      ap (λ (k : ℕ). count p (flat_map (places_of m t) (range 0 k))) b.node_count_lem
      ∙ ap (count p) (places_below m t 0 0 (shape_of n) (range 0 n) b.written)
      ∙ count_range_inside p 0 (size_of (shape_of n)) (omega arith) (omega (arith, size_of_shape_of n))

  ordered : (x : ℕ) → x < n → count x (take n t.order) ≡ 1
  ordered x h = b.order_count x ∙ count_range_inside x 0 n (omega arith) (omega arith)

  -- ---- the clauses
  pub built_passes : clauses_hold m t ≡ true
  unfolding clauses_hold kinds_known children_above leaves_inside named_once placed_once ordered_once leaves_filled corners_known boxes_same
      boxes_valid enclosed
  built_passes =
      and_both _ _ (le-leb t.node_count (2 * n) (omega (arith, b.node_count_lem, nodes_of_shape_of n b.some)))
      (and_both _ _ (each_node (λ (i : ℕ). is_leaf m t i || is_branch m t i) kind_known)
      (and_both _ _ (each_node (λ (i : ℕ). not (is_branch m t i) || (differ_test i && every (later_test i) (children_of m t i)))
      children_above_lem)
      (and_both _ _ (each_node (λ (i : ℕ). not (is_leaf m t i) || leb (first_at t.node_words i + second_at t.node_words i) n) leaf_inside)
      (and_both _ _
      (every_of_range (λ (i : ℕ). eqb (count i (flat_map (children_of m t) (nodes m t))) 1) 1 (t.node_count - 1)
      (λ (i : ℕ) (p : 1 ≤ i) (q : i < 1 + (t.node_count - 1)). eq-eqb (count i (flat_map (children_of m t) (nodes m t))) 1 (named i p q)))
      (and_both _ _
      (every_below (λ (p : ℕ). eqb (count p (flat_map (places_of m t) (nodes m t))) 1) n
      (λ (p : ℕ) (h : p < n). eq-eqb (count p (flat_map (places_of m t) (nodes m t))) 1 (placed p h)))
      (and_both _ _
      (every_below (λ (x : ℕ). eqb (count x (take n t.order)) 1) n
      (λ (x : ℕ) (h : x < n). eq-eqb (count x (take n t.order)) 1 (ordered x h)))
      (and_both _ _ (each_node (λ (i : ℕ). not (is_leaf m t i) || ltb 0 (second_at t.node_words i)) leaf_filled)
      (and_both _ _ (every_below (corners_inside (thirds (length m.vertices)) m.triangles) n b.corners)
      (and_both _ _ (every_below (λ (x : ℕ). same_box (box_at t.triangle_boxes x) (triangle_box m.vertices m.triangles x)) n same)
      (and_both _ _
      (and_both _ _
      (every_below (λ (i : ℕ). valid_box (box_at t.node_boxes i)) t.node_count (λ (i : ℕ) (h : i < t.node_count). (node_at i h).valid))
      (every_below (λ (x : ℕ). valid_box (box_at t.triangle_boxes x)) n written_valid))
      (each_node (node_encloses m t) node_encloses_lem)))))))))))
    where
      each_node : (p : ℕ → Bool) → ((i : ℕ) → Kind t n i → p i ≡ true) → every p (range 0 t.node_count) ≡ true
      each_node p h = every_below p t.node_count (λ (i : ℕ) (k : i < t.node_count). h i (node_at i k).kinds)

      same : (x : ℕ) → x < n → same_box (box_at t.triangle_boxes x) (triangle_box m.vertices m.triangles x) ≡ true
      same x h = rw (b.boxes x h) (valid_same (triangle_box m.vertices m.triangles x) (b.boxes_valid_lem x h))
