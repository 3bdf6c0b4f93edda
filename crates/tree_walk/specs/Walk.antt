-- The walk of the query over any tree. Definitions only. Assumes nothing.
use Rattle.std.specs.Prelude.{ℕ, zero, suc, ◌+◌, Bool, ◌&&◌, cond, List, [], ◌∷◌, ◌++◌, leb, ltb, eqb, length}
use Rattle.geometry.specs.Box.{touches}
use Rattle.geometry.specs.declared.aabb.Aabb.{Aabb}
use Rattle.lists.specs.Lists.{range, sorted}
use Rattle.tree.specs.Layout.{Tree, word_at, box_at, kind_at, first_at, second_at}

-- the nodes on the stack, the next one first, and the triangles listed so far; or that the walk met a 5
pub data Walking : Type 0 where
  walking : List ℕ → List ℕ → Walking
  broken : Walking

-- a number done as often as said
unfoldable pub times : ℕ → (Walking → Walking) → Walking → Walking
times zero f w = w
times (suc k) f w = times k f (f w)

module _ (t : Tree) (n : ℕ) (box : Aabb) where
  -- one place of the order: "a triangle index not below n, .. or a list past n is 5"
  unfoldable pub take_place : Walking → ℕ → Walking
  take_place broken place = broken
  take_place (walking stack list) place =
      cond (ltb (word_at t.order place) n)
      (cond (touches (box_at t.triangle_boxes (word_at t.order place)) box)
      (cond (ltb (length list) n) (walking stack (list ++ (word_at t.order place ∷ []))) broken)
      (walking stack list))
      broken

  unfoldable pub take_places : Walking → List ℕ → Walking
  take_places w [] = w
  take_places w (place ∷ rest) = take_places (take_place w place) rest

  -- a leaf: "a leaf ending past n" is 5
  unfoldable pub at_leaf : ℕ → ℕ → List ℕ → List ℕ → Walking
  at_leaf start count stack list = cond (leb (start + count) n) (take_places (walking stack list) (range start count)) broken

  -- "a child not above its parent's index or not below the node count" is 5
  unfoldable pub child_fits : ℕ → ℕ → Bool
  child_fits node child = ltb node child && ltb child t.node_count

  -- a branch: the left child is the next one
  unfoldable pub at_branch : ℕ → ℕ → ℕ → List ℕ → List ℕ → Walking
  at_branch node left right stack list =
      cond (child_fits node left && child_fits node right) (walking (left ∷ (right ∷ stack)) list) broken

  -- "the rest is tested only at a node whose box touches"; "a kind other than 0 or 1" is 5
  unfoldable pub at_node : ℕ → List ℕ → List ℕ → Walking
  at_node node stack list =
      cond (touches (box_at t.node_boxes node) box)
      (cond (eqb (kind_at t.node_words node) 0) (at_leaf (first_at t.node_words node) (second_at t.node_words node) stack list)
      (cond (eqb (kind_at t.node_words node) 1) (at_branch node (first_at t.node_words node) (second_at t.node_words node) stack list)
      broken))
      (walking stack list)

  -- one node taken from the stack
  unfoldable pub take_node : Walking → Walking
  take_node broken = broken
  take_node (walking [] list) = walking [] list
  take_node (walking (node ∷ stack) list) = at_node node stack list

  -- "The walk starts with node 0 on the stack; with a node count of 0 it takes no node and the list is empty."
  unfoldable pub start : Walking
  start = walking (cond (eqb t.node_count 0) [] (0 ∷ [])) []

  -- "a walk past the node count" is 5: as many nodes are taken as there are, and a node is still on the stack
  unfoldable pub ended : Walking → Walking
  ended broken = broken
  ended (walking [] list) = walking [] (sorted list)
  ended (walking (node ∷ stack) list) = broken

  -- the touching triangles, ascending
  unfoldable pub walk_of : Walking
  walk_of = ended (times t.node_count take_node start)
