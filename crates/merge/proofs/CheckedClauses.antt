-- A tree that has what a passed check says, node by node, place by place and triangle by triangle, passes the check;
-- and a tree of no node over no triangle has it. Assumes nothing.
use Prim.Native.Nat.{ℕ, ◌+◌, ◌-◌, ◌*◌, ◌<◌}
use mathlib.Core.Path.{◌≡◌, refl, ap}
use mathlib.Core.Logic.{◌⊎◌, inl, inr}
use mathlib.Core.Bool.{Bool, true, false, not, ◌&&◌, ◌||◌}
use native.Mathlib.Omega.{arith}
use lib.Dec.{leb, ltb, eqb}
use lib.ListN.{length, take}
use borrow.Author.Tests.{le-leb, lt-ltb, eq-eqb, ne_eqb}
use Rattle.geometry.specs.Box.{valid_box, encloses, same_box}
use Rattle.lists.proofs.JoinedTests.{and_both, or_second}
use Rattle.lists.specs.Lists.{range, count, every, flat_map}
use Rattle.tree.specs.Layout.{Tree, word_at, box_at, first_at, second_at}
use Rattle.tree.specs.Mesh.{Mesh, thirds, corners_inside, triangle_box}
use Rattle.tree_check.specs.Check.{triangle_count, nodes, is_leaf, is_branch, children_of, places_of, kinds_known, children_above}
use Rattle.tree_check.specs.Check.{leaves_inside}
use Rattle.tree_check.specs.Check.{named_once, placed_once, ordered_once, leaves_filled, corners_known, boxes_same, boxes_valid}
use Rattle.tree_check.specs.Check.{node_encloses}
use Rattle.tree_check.specs.Check.{enclosed, clauses_hold, tree_passes}
use Rattle.mesh.proofs.CheckedTree.{Checked, checked_or_empty}
use Rattle.mesh.proofs.BuildClauses.{every_of_listed, every_of_range, every_below}

-- a test that is asked only where another passes
where_passes : (a b : Bool) → (a ≡ true → b ≡ true) → (not a || b) ≡ true
where_passes true b h = h refl
where_passes false b h = refl

module _ (m : Mesh) (t : Tree) (h : Checked m t) where
  abbrev later_test : ℕ → ℕ → Bool
  later_test i k = ltb i k && ltb k t.node_count

  abbrev differ_test : ℕ → Bool
  differ_test i = not (eqb (first_at t.node_words i) (second_at t.node_words i))

  kinds_known_lem : kinds_known m t ≡ true
  unfolding kinds_known
  kinds_known_lem = every_below (λ (i : ℕ). is_leaf m t i || is_branch m t i) t.node_count h.known

  children_above_lem : children_above m t ≡ true
  unfolding children_above
  children_above_lem =
      every_below (λ (i : ℕ). not (is_branch m t i) || (differ_test i && every (later_test i) (children_of m t i))) t.node_count
      (λ i b. where_passes (is_branch m t i) (differ_test i && every (later_test i) (children_of m t i))
      (λ e. and_both (differ_test i) (every (later_test i) (children_of m t i))
      (ap not (ne_eqb (first_at t.node_words i) (second_at t.node_words i) (h.differ i b e)))
      (every_of_listed (later_test i) (children_of m t i)
      (λ k g. let a = h.above i k b g in and_both (ltb i k) (ltb k t.node_count) (lt-ltb i k a.0) (lt-ltb k t.node_count a.1)))))

  leaves_inside_lem : leaves_inside m t ≡ true
  unfolding leaves_inside
  leaves_inside_lem =
      every_below (λ (i : ℕ). not (is_leaf m t i) || leb (first_at t.node_words i + second_at t.node_words i) (triangle_count m t))
      t.node_count
      (λ i b. where_passes (is_leaf m t i) (leb (first_at t.node_words i + second_at t.node_words i) (triangle_count m t))
      (λ e. le-leb (first_at t.node_words i + second_at t.node_words i) (triangle_count m t) (h.inside i b e)))

  leaves_filled_lem : leaves_filled m t ≡ true
  unfolding leaves_filled
  leaves_filled_lem =
      every_below (λ (i : ℕ). not (is_leaf m t i) || ltb 0 (second_at t.node_words i)) t.node_count
      (λ i b. where_passes (is_leaf m t i) (ltb 0 (second_at t.node_words i)) (λ e. lt-ltb 0 (second_at t.node_words i) (h.filled i b e)))

  named_once_lem : named_once m t ≡ true
  unfolding named_once
  named_once_lem =
      every_of_range (λ (i : ℕ). eqb (count i (flat_map (children_of m t) (nodes m t))) 1) 1 (t.node_count - 1)
      (λ i p q. eq-eqb (count i (flat_map (children_of m t) (nodes m t))) 1 (h.named i (omega arith) (omega arith)))

  placed_once_lem : placed_once m t ≡ true
  unfolding placed_once
  placed_once_lem =
      every_below (λ (p : ℕ). eqb (count p (flat_map (places_of m t) (nodes m t))) 1) (triangle_count m t)
      (λ p b. eq-eqb (count p (flat_map (places_of m t) (nodes m t))) 1 (h.placed p b))

  ordered_once_lem : ordered_once m t ≡ true
  unfolding ordered_once
  ordered_once_lem =
      every_below (λ (x : ℕ). eqb (count x (take (triangle_count m t) t.order)) 1) (triangle_count m t)
      (λ x b. eq-eqb (count x (take (triangle_count m t) t.order)) 1 (h.ordered x b))

  corners_known_lem : corners_known m t ≡ true
  unfolding corners_known
  corners_known_lem = every_below (corners_inside (thirds (length m.vertices)) m.triangles) (triangle_count m t) h.corners

  boxes_same_lem : boxes_same m t ≡ true
  unfolding boxes_same
  boxes_same_lem =
      every_below (λ (x : ℕ). same_box (box_at t.triangle_boxes x) (triangle_box m.vertices m.triangles x)) (triangle_count m t)
      h.same

  boxes_valid_lem : boxes_valid m t ≡ true
  unfolding boxes_valid
  boxes_valid_lem =
      and_both (every (λ (i : ℕ). valid_box (box_at t.node_boxes i)) (nodes m t))
      (every (λ (x : ℕ). valid_box (box_at t.triangle_boxes x)) (range 0 (triangle_count m t)))
      (every_below (λ (i : ℕ). valid_box (box_at t.node_boxes i)) t.node_count h.node_valid)
      (every_below (λ (x : ℕ). valid_box (box_at t.triangle_boxes x)) (triangle_count m t) h.triangle_valid)

  node_encloses_lem : (i : ℕ) → i < t.node_count → node_encloses m t i ≡ true
  unfolding node_encloses
  node_encloses_lem i b =
      and_both (every (λ (k : ℕ). encloses (box_at t.node_boxes i) (box_at t.node_boxes k)) (children_of m t i))
      (every (λ (p : ℕ). encloses (box_at t.node_boxes i) (box_at t.triangle_boxes (word_at t.order p))) (places_of m t i))
      (every_of_listed (λ (k : ℕ). encloses (box_at t.node_boxes i) (box_at t.node_boxes k)) (children_of m t i)
      (λ k g. h.child_enclosed i k b g))
      (every_of_listed (λ (p : ℕ). encloses (box_at t.node_boxes i) (box_at t.triangle_boxes (word_at t.order p))) (places_of m t i)
      (λ p g. h.triangle_enclosed i p b g))

  all_enclosed : enclosed m t ≡ true
  unfolding enclosed
  all_enclosed = every_below (node_encloses m t) t.node_count node_encloses_lem

  clauses_hold_lem : clauses_hold m t ≡ true
  unfolding clauses_hold
  clauses_hold_lem =
      rw (
        le-leb t.node_count (2 * triangle_count m t) h.few,
        kinds_known_lem,
        children_above_lem,
        leaves_inside_lem,
        named_once_lem,
        placed_once_lem,
        ordered_once_lem,
        leaves_filled_lem,
        corners_known_lem,
        boxes_same_lem,
        boxes_valid_lem,
        all_enclosed,
      )

  pub checked_passes : tree_passes m t ≡ true
  unfolding tree_passes
  checked_passes = or_second (eqb t.node_count 0 && eqb (triangle_count m t) 0) (clauses_hold m t) clauses_hold_lem

-- no node over no triangle
nothing_checked : (m : Mesh) (t : Tree) → t.node_count ≡ 0 → triangle_count m t ≡ 0 → Checked m t
nothing_checked m t e f = record {
  few = omega arith;
  known = λ i b. absurd (omega arith);
  above = λ i k b g. absurd (omega arith);
  inside = λ i b g. absurd (omega arith);
  differ = λ i b g. absurd (omega arith);
  filled = λ i b g. absurd (omega arith);
  node_valid = λ i b. absurd (omega arith);
  triangle_valid = λ x b. absurd (omega arith);
  named = λ i p q. absurd (omega arith);
  placed = λ p b. absurd (omega arith);
  ordered = λ x b. absurd (omega arith);
  corners = λ x b. absurd (omega arith);
  same = λ x b. absurd (omega arith);
  child_enclosed = λ i k b g. absurd (omega arith);
  triangle_enclosed = λ i p b g. absurd (omega arith);
}

pub passes_checked : (m : Mesh) (t : Tree) → tree_passes m t ≡ true → Checked m t
passes_checked m t h = go (checked_or_empty m t h)
  where
    go : Checked m t ⊎ ((t.node_count ≡ 0) × (triangle_count m t ≡ 0)) → Checked m t
    go (inl c) = c
    go (inr e) = nothing_checked m t e.0 e.1
