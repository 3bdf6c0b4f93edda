-- Inner contracts only: what the check asks of one triangle or of a node's box, in the order in which the code tests it. Definitions only.
-- Assumes nothing.
use Rattle.std.specs.Prelude.{ℕ, ◌+◌, ◌-◌, ◌*◌, ◌<◌, ◌≤◌, ◌≡◌, Bool, true, ◌&&◌, cond, List, eqb, Float, length, get_or, take}
use Rattle.geometry.specs.Box.{valid_box, encloses, same_box}
use Rattle.geometry.specs.declared.aabb.Aabb.{Aabb}
use Rattle.lists.specs.Lists.{range, every, flat_map}
use Rattle.tree.specs.Layout.{word_at, box_at, kind_at, first_at, second_at}
use Rattle.tree.specs.Mesh.{thirds, corners_inside, triangle_box}
use Rattle.tree_check.specs.Marks.{once, places, marked}
use Rattle.tree_check.specs.Sound.{node_sound}

-- a triangle's indices lie below the vertex count, and its box in the tree is that of its vertices and valid
unfoldable pub triangle_sound : List Float → List ℕ → List Float → ℕ → Bool
triangle_sound vertices triangles boxes x =
    corners_inside (thirds (length vertices)) triangles x
    && (same_box (box_at boxes x) (triangle_box vertices triangles x) && valid_box (box_at boxes x))

-- a box encloses the triangle's box at an order place
unfoldable pub place_enclosed : Aabb → List Float → List ℕ → ℕ → Bool
place_enclosed outer boxes order p = encloses outer (box_at boxes (word_at order p))

-- a box encloses those of two nodes
unfoldable pub children_enclosed : Aabb → List Float → ℕ → ℕ → Bool
children_enclosed outer boxes left right = encloses outer (box_at boxes left) && encloses outer (box_at boxes right)

-- a node's box encloses those of its children, or of its triangles
unfoldable pub node_holds : List Float → List Float → List ℕ → List ℕ → ℕ → Bool
node_holds node_boxes triangle_boxes words order node =
    cond (eqb (kind_at words node) 0)
    (every (place_enclosed (box_at node_boxes node) triangle_boxes order) (range (first_at words node) (second_at words node)))
    (children_enclosed (box_at node_boxes node) node_boxes (first_at words node) (second_at words node))

-- and is valid
unfoldable pub node_fits : List Float → List Float → List ℕ → List ℕ → ℕ → Bool
node_fits node_boxes triangle_boxes words order node = valid_box (box_at node_boxes node)
    && node_holds node_boxes triangle_boxes words order node

-- what is known of a tree before the boxes of its nodes are looked at: the areas' lengths, sound nodes, and a triangle at every order place
pub record Readable (n nodes : ℕ) (node_boxes triangle_boxes : List Float) (words order : List ℕ) : Type 0 where
  pub boxes_long : 6 * nodes ≤ length node_boxes
  pub words_long : 3 * nodes ≤ length words
  pub order_long : n ≤ length order
  pub triangles_there : (p : ℕ) → p < n → 6 * get_or order p 0 + 6 ≤ length triangle_boxes
  pub nodes_sound : every (node_sound n nodes words) (range 0 nodes) ≡ true

-- the clauses that only the nodes' words and the order decide
unfoldable pub words_pass : ℕ → ℕ → List ℕ → List ℕ → Bool
words_pass n nodes words order =
    every (node_sound n nodes words) (range 0 nodes)
    && (every (once (flat_map (marked 1 n words) (range 0 nodes))) (range 1 (nodes - 1))
    && (every (once (flat_map (places words) (range 0 nodes))) (range 0 n)
    && every (once (take n order)) (range 0 n)))

-- the clauses on triangles and boxes
unfoldable pub boxes_pass : ℕ → ℕ → List Float → List ℕ → List Float → List Float → List ℕ → List ℕ → Bool
boxes_pass n nodes vertices triangles node_boxes triangle_boxes words order =
    every (triangle_sound vertices triangles triangle_boxes) (range 0 n)
    && every (node_fits node_boxes triangle_boxes words order) (range 0 nodes)

-- the areas are as long as stated
pub record Long (n : ℕ) (node_boxes triangle_boxes : List Float) (words order marks : List ℕ) : Type 0 where
  pub few : n ≤ 65536
  pub node_boxes_long : 12 * n ≤ length node_boxes
  pub triangle_boxes_long : 6 * n ≤ length triangle_boxes
  pub node_words_long : 6 * n ≤ length words
  pub order_long : n ≤ length order
  pub marks_long : 3 * n ≤ length marks
