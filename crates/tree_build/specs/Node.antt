-- Inner contracts only: what one call of the recursion asks and gives. Definitions only. Assumes nothing.
use Rattle.std.specs.Prelude.{ℕ, ◌+◌, ◌-◌, ◌*◌, ◌/◌, ◌<◌, ◌≤◌, ◌≡◌, true, cond, List, Result, Float, length, take, drop}
use Rattle.std.proofs.lemmas.List.Edits.{sets}
use Rattle.casts.specs.Answer.{overflow}
use Rattle.tree_ranges.specs.Plain.{plain_range}
use Rattle.tree_build.specs.Shape.{Shape, shape_of, nodes_of, words_of}
use Rattle.tree_build.specs.Ranges.{left_range, right_range, extents_finite, order_below, boxes_below}
use Rattle.tree_build.specs.Build.{nodes, refused, says}
use Rattle.casts.specs.declared.answer.Refusal.{Refusal}

-- n triangles from a place of the order on, as nodes from an index on: the lengths of node boxes, node words and work are enough, and each
-- word is a u32
pub record RoomAt (n start node boxesLong wordsLong workLong : ℕ) : Type 0 where
  pub some : 0 < n
  pub work : n ≤ workLong
  pub places : start + n < 4294967296
  pub indices : node + nodes_of (shape_of n) < 4294967296
  pub boxes : 6 * (node + nodes_of (shape_of n)) ≤ boxesLong
  pub words : 3 * (node + nodes_of (shape_of n)) ≤ wordsLong

-- ranges that give the same below a shape
pub record Alike (boxes : List Float) (shape : Shape) (ts us : List ℕ) : Type 0 where
  pub finite : extents_finite boxes shape ts ≡ extents_finite boxes shape us
  pub order : order_below boxes shape ts ≡ order_below boxes shape us
  pub boxed : boxes_below boxes shape ts ≡ boxes_below boxes shape us

-- a range whose halves give what the halves of the sorted range give, and which stays plain
pub record Arranged (boxes : List Float) (ts ts' : List ℕ) : Type 0 where
  pub left : Alike boxes (shape_of (length ts / 2)) (left_range boxes (shape_of (length ts / 2)) ts) (take (length ts / 2) ts')
  pub right : Alike boxes (shape_of (length ts - length ts / 2)) (right_range boxes (shape_of (length ts / 2)) ts)
      (drop (length ts / 2) ts')
  pub plain : plain_range boxes ts ≡ true → plain_range boxes ts' ≡ true

module _ (boxes : List Float) (shape : Shape) (ts : List ℕ) (start node : ℕ) where
  -- the order, the boxes and the words of a shape
  pub record Written (ts' : List ℕ) (node_boxes nodeBoxes' : List Float) (node_words nodeWords' : List ℕ) : Type 0 where
    pub order : ts' ≡ order_below boxes shape ts
    pub boxed : nodeBoxes' ≡ sets node_boxes (6 * node) (boxes_below boxes shape ts)
    pub worded : nodeWords' ≡ sets node_words (3 * node) (words_of node start shape)

  -- the next free index with these, or 6 with anything in the areas
  pub record Grown (r : Result ℕ Refusal) (ts' : List ℕ) (node_boxes nodeBoxes' : List Float)
      (node_words nodeWords' : List ℕ) : Type 0 where
    pub answer : says r ≡ cond (extents_finite boxes shape ts) (nodes (node + nodes_of shape)) (refused overflow)
    pub written : extents_finite boxes shape ts ≡ true → Written ts' node_boxes nodeBoxes' node_words nodeWords'
