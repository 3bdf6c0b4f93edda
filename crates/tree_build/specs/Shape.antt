-- The shape of a tree depends on the number of its triangles alone, and so do the node count and the node words. Definitions only. Assumes
-- nothing.
use Rattle.std.specs.Prelude.{ℕ, zero, suc, ◌+◌, ◌-◌, ◌/◌, cond, List, [], ◌∷◌, ◌++◌, leb}

-- a leaf with its number of triangles, or a branch with its two children
pub data Shape : Type 0 where
  leaf : ℕ → Shape
  branch : Shape → Shape → Shape

-- "At most four make a leaf." Else "cut at half rounded down". The first argument counts levels, of which there are never more than
-- triangles
unfoldable pub shape_within : ℕ → ℕ → Shape
shape_within zero n = leaf n
shape_within (suc levels) n =
    let left = shape_within levels (n / 2) in
    let right = shape_within levels (n - n / 2) in
    cond (leb n 4) (leaf n) (branch left right)

unfoldable pub shape_of : ℕ → Shape
shape_of n = shape_within n n

-- how many triangles stand below
unfoldable pub size_of : Shape → ℕ
size_of (leaf n) = n
size_of (branch left right) = size_of left + size_of right

unfoldable pub nodes_of : Shape → ℕ
nodes_of (leaf n) = 1
nodes_of (branch left right) = 1 + (nodes_of left + nodes_of right)

-- "Nodes stand in preorder": the words from node `node` on, where the triangles stand from place `start` of the order on.
-- "kind 0 leaf or 1 branch, then start and count or left and right"
unfoldable pub words_of : ℕ → ℕ → Shape → List ℕ
words_of node start (leaf n) = 0 ∷ (start ∷ (n ∷ []))
words_of node start (branch left right) =
    (1 ∷ ((node + 1) ∷ ((node + 1 + nodes_of left) ∷ [])))
    ++ (words_of (node + 1) start left ++ words_of (node + 1 + nodes_of left) (start + size_of left) right)
