-- What a passed tree check says, node by node, place by place and triangle by triangle. Assumes nothing.
use Prim.Native.Nat.{ℕ, zero, suc, ◌+◌, ◌-◌, ◌*◌, ◌≤◌, ◌<◌}
use mathlib.Core.Path.{◌≡◌, refl, sym, ap, ◌∙◌}
use mathlib.Core.Logic.{◌⊎◌, inl, inr}
use mathlib.Core.Bool.{Bool, true, false, not, ◌&&◌, ◌||◌, false≢true}
use mathlib.Core.List.{List, [], ◌∷◌}
use native.Mathlib.Omega.{arith}
use lib.Dec.{leb, ltb, eqb}
use lib.ListN.{length, take, get_or}
use borrow.Author.Tests.{leb-true, ltb-true, eqb-true, eqb-false, not-true}
use Rattle.geometry.specs.Box.{valid_box, encloses, same_box}
use Rattle.lists.proofs.JoinedTests.{and_first, and_second}
use Rattle.lists.specs.Lists.{range, count, every, flat_map}
use Rattle.tree.specs.Layout.{Tree, word_at, box_at, first_at, second_at}
use Rattle.tree.specs.Mesh.{Mesh, thirds, corners_inside, triangle_box}
use Rattle.lists.proofs.CountLaws.{count_nil, every_at, member_of_count, count_range_inside}
use Rattle.tree_check.specs.Check.{triangle_count, nodes, is_leaf, is_branch, children_of, places_of, kinds_known, children_above}
use Rattle.tree_check.specs.Check.{leaves_inside}
use Rattle.tree_check.specs.Check.{named_once, placed_once, ordered_once, leaves_filled, corners_known, boxes_same, boxes_valid}
use Rattle.tree_check.specs.Check.{node_encloses}
use Rattle.tree_check.specs.Check.{enclosed, clauses_hold, tree_passes}

pub every_in_range : (p : ℕ → Bool) (start size : ℕ) → every p (range start size) ≡ true → (x : ℕ) → start ≤ x → x < start + size → p x ≡
    true
every_in_range p start size h x a b =
    every_at p (range start size) h x (member_of_count x (range start size) (omega (arith, count_range_inside x start size a b)))

-- ---- a chain of tests
all_of : List Bool → Bool
all_of [] = true
all_of (b ∷ []) = b
all_of (b ∷ (c ∷ rest)) = b && all_of (c ∷ rest)

part : (l : List Bool) → all_of l ≡ true → (k : ℕ) → get_or l k true ≡ true
unfolding all_of
part [] h k = refl
part (b ∷ []) h zero = h
part (b ∷ []) h (suc k) = refl
part (b ∷ (c ∷ rest)) h zero = and_first b (all_of (c ∷ rest)) h
part (b ∷ (c ∷ rest)) h (suc k) = part (c ∷ rest) (and_second b (all_of (c ∷ rest)) h) k

-- a test that need not pass where another fails
passes_where : (a b : Bool) → (not a || b) ≡ true → a ≡ true → b ≡ true
passes_where true b h e = h
passes_where false b h e = absurd (false≢true e)

-- ---- the clauses
pub record Checked (m : Mesh) (t : Tree) : Type 0 where
  pub few : t.node_count ≤ 2 * triangle_count m t
  pub known : (i : ℕ) → i < t.node_count → (is_leaf m t i || is_branch m t i) ≡ true
  pub above : (i k : ℕ) → i < t.node_count → 0 < count k (children_of m t i) → (i < k) × (k < t.node_count)
  pub inside : (i : ℕ) → i < t.node_count → is_leaf m t i ≡ true → first_at t.node_words i + second_at t.node_words i ≤ triangle_count m t
  pub differ : (i : ℕ) → i < t.node_count → is_branch m t i ≡ true → first_at t.node_words i ≡ second_at t.node_words i → ⊥
  pub filled : (i : ℕ) → i < t.node_count → is_leaf m t i ≡ true → 0 < second_at t.node_words i
  pub node_valid : (i : ℕ) → i < t.node_count → valid_box (box_at t.node_boxes i) ≡ true
  pub triangle_valid : (x : ℕ) → x < triangle_count m t → valid_box (box_at t.triangle_boxes x) ≡ true
  pub named : (i : ℕ) → 0 < i → i < t.node_count → count i (flat_map (children_of m t) (nodes m t)) ≡ 1
  pub placed : (p : ℕ) → p < triangle_count m t → count p (flat_map (places_of m t) (nodes m t)) ≡ 1
  pub ordered : (x : ℕ) → x < triangle_count m t → count x (take (triangle_count m t) t.order) ≡ 1
  pub corners : (x : ℕ) → x < triangle_count m t → corners_inside (thirds (length m.vertices)) m.triangles x ≡ true
  pub same : (x : ℕ) → x < triangle_count m t → same_box (box_at t.triangle_boxes x) (triangle_box m.vertices m.triangles x) ≡ true
  pub child_enclosed : (i k : ℕ) → i < t.node_count → 0 < count k (children_of m t i) → encloses (box_at t.node_boxes i)
      (box_at t.node_boxes k) ≡ true
  pub triangle_enclosed : (i p : ℕ) → i < t.node_count → 0 < count p (places_of m t i)
      → encloses (box_at t.node_boxes i) (box_at t.triangle_boxes (word_at t.order p)) ≡ true

-- ---- a node that is no branch has no children, and one that is no leaf no places
pub branch_children : (m : Mesh) (t : Tree) (i : ℕ) → is_branch m t i ≡ true → children_of m t i ≡ first_at t.node_words i ∷
    (second_at t.node_words i ∷ [])
unfolding children_of
branch_children m t i e = simp e

pub no_children : (m : Mesh) (t : Tree) (i : ℕ) → is_branch m t i ≡ false → children_of m t i ≡ []
unfolding children_of
no_children m t i e = simp e

pub leaf_places : (m : Mesh) (t : Tree) (i : ℕ) → is_leaf m t i ≡ true → places_of m t i ≡ range (first_at t.node_words i)
    (second_at t.node_words i)
unfolding places_of
leaf_places m t i e = simp e

pub no_places : (m : Mesh) (t : Tree) (i : ℕ) → is_leaf m t i ≡ false → places_of m t i ≡ []
unfolding places_of
no_places m t i e = simp e

module _ (m : Mesh) (t : Tree) (h : clauses_hold m t ≡ true) where
  clauses : List Bool
  clauses =
      leb t.node_count (2 * triangle_count m t) ∷ kinds_known m t ∷ children_above m t ∷ leaves_inside m t ∷ named_once m t
      ∷ placed_once m t ∷
      ordered_once m t
      ∷ leaves_filled m t ∷ corners_known m t ∷ boxes_same m t ∷ boxes_valid m t ∷ enclosed m t ∷ []

  clause : (k : ℕ) → get_or clauses k true ≡ true
  unfolding clauses_hold clauses all_of
  clause = part clauses h

  child_above : (i k : ℕ) → i < t.node_count → 0 < count k (children_of m t i) → (i < k) × (k < t.node_count)
  unfolding clauses children_above
  child_above i k below child = go (is_branch m t i) refl
    where
      go : (b : Bool) → is_branch m t i ≡ b → (i < k) × (k < t.node_count)
      go true e =
          let rule = passes_where (is_branch m t i) _ (every_in_range _ 0 t.node_count (clause 2) i (omega arith) (omega arith)) e in
          let fits : (ltb i k && ltb k t.node_count) ≡ true =
          every_at (λ (k : ℕ). ltb i k && ltb k t.node_count) (children_of m t i)
          (and_second (not (eqb (first_at t.node_words i) (second_at t.node_words i))) _ rule) k
          (member_of_count k (children_of m t i) child) in (
            ltb-true i k (and_first (ltb i k) (ltb k t.node_count) fits),
            ltb-true k t.node_count
                (and_second (ltb i k) (ltb k t.node_count) fits),
          )
      go false e = absurd (omega (arith, ap (count k) (no_children m t i e), count_nil k))

  children_differ : (i : ℕ) → i < t.node_count → is_branch m t i ≡ true → first_at t.node_words i ≡ second_at t.node_words i → ⊥
  unfolding clauses children_above
  children_differ i below e =
      let rule = passes_where (is_branch m t i) _ (every_in_range _ 0 t.node_count (clause 2) i (omega arith) (omega arith)) e in
      let same = eqb (first_at t.node_words i) (second_at t.node_words i) in
      eqb-false (first_at t.node_words i) (second_at t.node_words i) (not-true same (and_first (not same) _ rule))

  boxes_valid_lem : (every (λ (i : ℕ). valid_box (box_at t.node_boxes i)) (nodes m t)
      && every (λ (x : ℕ). valid_box (box_at t.triangle_boxes x)) (range 0 (triangle_count m t))) ≡ true
  unfolding clauses boxes_valid
  boxes_valid_lem = clause 10

  enclosing : (i : ℕ) → i < t.node_count → node_encloses m t i ≡ true
  unfolding clauses enclosed
  enclosing i below = every_in_range (node_encloses m t) 0 t.node_count (clause 11) i (omega arith) (omega arith)

  pub checked : Checked m t
  unfolding clauses kinds_known leaves_inside leaves_filled named_once placed_once ordered_once corners_known boxes_same node_encloses
  checked = record {
    few = leb-true t.node_count (2 * triangle_count m t) (clause 0);
    known = λ (i : ℕ) (below : i < t.node_count). every_in_range _ 0 t.node_count (clause 1) i (omega arith) (omega arith);
    above = child_above;
    inside =
        λ (i : ℕ) (below : i < t.node_count) (leaf : is_leaf m t i ≡ true).
        leb-true (first_at t.node_words i + second_at t.node_words i) (triangle_count m t)
        (passes_where (is_leaf m t i) _ (every_in_range _ 0 t.node_count (clause 3) i (omega arith) (omega arith)) leaf);
    differ = children_differ;
    filled =
        λ (i : ℕ) (below : i < t.node_count) (leaf : is_leaf m t i ≡ true).
        ltb-true 0 (second_at t.node_words i)
        (passes_where (is_leaf m t i) _ (every_in_range _ 0 t.node_count (clause 7) i (omega arith) (omega arith)) leaf);
    node_valid =
        λ (i : ℕ) (below : i < t.node_count).
        every_in_range (λ (i : ℕ). valid_box (box_at t.node_boxes i)) 0 t.node_count
        (and_first (every (λ (i : ℕ). valid_box (box_at t.node_boxes i)) (nodes m t)) _ boxes_valid_lem) i (omega arith) (omega arith);
    triangle_valid =
        λ (x : ℕ) (below : x < triangle_count m t).
        every_in_range (λ (x : ℕ). valid_box (box_at t.triangle_boxes x)) 0 (triangle_count m t)
        (and_second (every (λ (i : ℕ). valid_box (box_at t.node_boxes i)) (nodes m t)) _ boxes_valid_lem) x (omega arith) (omega arith);
    named = λ (i : ℕ) (p : 0 < i) (q : i < t.node_count). eqb-true _ 1
        (every_in_range _ 1 (t.node_count - 1) (clause 4) i (omega arith) (omega arith));
    placed = λ (p : ℕ) (below : p < triangle_count m t). eqb-true _ 1
        (every_in_range _ 0 (triangle_count m t) (clause 5) p (omega arith) (omega arith));
    ordered = λ (x : ℕ) (below : x < triangle_count m t). eqb-true _ 1
        (every_in_range _ 0 (triangle_count m t) (clause 6) x (omega arith) (omega arith));
    corners = λ (x : ℕ) (below : x < triangle_count m t). every_in_range _ 0 (triangle_count m t) (clause 8) x (omega arith) (omega arith);
    same = λ (x : ℕ) (below : x < triangle_count m t). every_in_range _ 0 (triangle_count m t) (clause 9) x (omega arith) (omega arith);
    child_enclosed =
        λ (i k : ℕ) (below : i < t.node_count) (child : 0 < count k (children_of m t i)).
        every_at _ (children_of m t i) (and_first (every _ (children_of m t i)) _ (enclosing i below)) k
        (member_of_count k (children_of m t i) child);
    triangle_enclosed =
        λ (i p : ℕ) (below : i < t.node_count) (place : 0 < count p (places_of m t i)).
        every_at _ (places_of m t i) (and_second (every _ (children_of m t i)) (every _ (places_of m t i)) (enclosing i below)) p
        (member_of_count p (places_of m t i) place);
  }

-- "yes exactly when the node count is 0 with n = 0, or" the clauses hold
pub checked_or_empty : (m : Mesh) (t : Tree) → tree_passes m t ≡ true → Checked m t ⊎ ((t.node_count ≡ 0) × (triangle_count m t ≡ 0))
unfolding tree_passes
checked_or_empty m t h = go (eqb t.node_count 0 && eqb (triangle_count m t) 0) refl
  where
    go : (b : Bool) → (eqb t.node_count 0 && eqb (triangle_count m t) 0) ≡ b → Checked m t ⊎ ((t.node_count ≡ 0) × (triangle_count m t ≡ 0))
    go true e =
        inr (
          eqb-true t.node_count 0 (and_first (eqb t.node_count 0) (eqb (triangle_count m t) 0) e),
          eqb-true (triangle_count m t) 0
              (and_second (eqb t.node_count 0) (eqb (triangle_count m t) 0) e),
        )
    go false e = inl (checked m t (ap (λ (b : Bool). b || clauses_hold m t) (sym e) ∙ h))
