-- Document 01's tree check, clause by clause. Definitions only. Assumes nothing.
use Rattle.std.specs.Prelude.{ℕ, ◌+◌, ◌-◌, ◌*◌, Bool, not, ◌&&◌, ◌||◌, cond, List, [], ◌∷◌, leb, ltb, eqb, length, take}
use Rattle.geometry.specs.Box.{valid_box, encloses, same_box}
use Rattle.lists.specs.Lists.{range, count, every, flat_map}
use Rattle.tree.specs.Layout.{Tree, word_at, box_at, kind_at, first_at, second_at}
use Rattle.tree.specs.Mesh.{Mesh, thirds, corners_inside, triangle_box}

module _ (m : Mesh) (t : Tree) where
  -- "looking only at nodes below the node count and at order places and triangles below n"
  abbrev pub triangle_count : ℕ
  triangle_count = thirds (length m.triangles)

  abbrev pub nodes : List ℕ
  nodes = range 0 t.node_count

  abbrev pub is_leaf : ℕ → Bool
  is_leaf node = eqb (kind_at t.node_words node) 0

  abbrev pub is_branch : ℕ → Bool
  is_branch node = eqb (kind_at t.node_words node) 1

  -- the children that a node names, and the order places of a leaf
  unfoldable pub children_of : ℕ → List ℕ
  children_of node = cond (is_branch node) (first_at t.node_words node ∷ (second_at t.node_words node ∷ [])) []

  unfoldable pub places_of : ℕ → List ℕ
  places_of node = cond (is_leaf node) (range (first_at t.node_words node) (second_at t.node_words node)) []

  -- "every kind is 0 or 1"
  unfoldable pub kinds_known : Bool
  kinds_known = every (λ (i : ℕ). is_leaf i || is_branch i) nodes

  -- "both children of a branch differ and lie above it and below the node count"
  unfoldable pub children_above : Bool
  children_above =
      every (λ (i : ℕ). not (is_branch i)
      || (not (eqb (first_at t.node_words i) (second_at t.node_words i)) && every (λ (k : ℕ). ltb i k && ltb k t.node_count)
      (children_of i))) nodes

  -- "no leaf ends past n"
  unfoldable pub leaves_inside : Bool
  leaves_inside = every (λ (i : ℕ). not (is_leaf i) || leb (first_at t.node_words i + second_at t.node_words i) triangle_count) nodes

  -- "each node but the first is named once"
  unfoldable pub named_once : Bool
  named_once = every (λ (i : ℕ). eqb (count i (flat_map children_of nodes)) 1) (range 1 (t.node_count - 1))

  -- "each order place lies in one leaf"
  unfoldable pub placed_once : Bool
  placed_once = every (λ (p : ℕ). eqb (count p (flat_map places_of nodes)) 1) (range 0 triangle_count)

  -- "each triangle stands in the order once"
  unfoldable pub ordered_once : Bool
  ordered_once = every (λ (x : ℕ). eqb (count x (take triangle_count t.order)) 1) (range 0 triangle_count)

  -- "leaves are not empty"
  unfoldable pub leaves_filled : Bool
  leaves_filled = every (λ (i : ℕ). not (is_leaf i) || ltb 0 (second_at t.node_words i)) nodes

  -- "A triangle index past the vertices .. is a no"
  unfoldable pub corners_known : Bool
  corners_known = every (corners_inside (thirds (length m.vertices)) m.triangles) (range 0 triangle_count)

  -- "each triangle box equals its vertices' box"
  unfoldable pub boxes_same : Bool
  boxes_same = every (λ (x : ℕ). same_box (box_at t.triangle_boxes x) (triangle_box m.vertices m.triangles x)) (range 0 triangle_count)

  -- "all boxes are valid"
  unfoldable pub boxes_valid : Bool
  boxes_valid = every (λ (i : ℕ). valid_box (box_at t.node_boxes i)) nodes && every (λ (x : ℕ). valid_box (box_at t.triangle_boxes x))
      (range 0 triangle_count)

  -- "each node's box encloses its children or triangles"
  unfoldable pub node_encloses : ℕ → Bool
  node_encloses node =
      every (λ (k : ℕ). encloses (box_at t.node_boxes node) (box_at t.node_boxes k)) (children_of node)
      && every (λ (p : ℕ). encloses (box_at t.node_boxes node) (box_at t.triangle_boxes (word_at t.order p))) (places_of node)

  unfoldable pub enclosed : Bool
  enclosed = every node_encloses nodes

  -- "A .. node count above 2n is a no"
  unfoldable pub clauses_hold : Bool
  clauses_hold =
      leb t.node_count (2 * triangle_count)
      && (kinds_known && (children_above && (leaves_inside && (named_once
      && (placed_once && (ordered_once && (leaves_filled && (corners_known &&
      (boxes_same && (boxes_valid && enclosed))))))))))

  -- "yes exactly when the node count is 0 with n = 0, or" all of these hold
  unfoldable pub tree_passes : Bool
  tree_passes = (eqb t.node_count 0 && eqb triangle_count 0) || clauses_hold
