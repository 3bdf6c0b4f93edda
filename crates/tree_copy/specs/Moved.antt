-- Indices moved up: those of a list, and those of a tree's nodes. Definitions only. Assumes nothing.
use Rattle.std.specs.Prelude.{ℕ, ◌+◌, cond, List, [], ◌∷◌, eqb}
use Rattle.lists.specs.Lists.{range, flat_map}
use Rattle.tree.specs.Layout.{kind_at, first_at, second_at}

unfoldable pub moved_up : ℕ → List ℕ → List ℕ
moved_up by [] = []
moved_up by (x ∷ xs) = (x + by) ∷ moved_up by xs

-- a node's words where its tree's nodes stand `nodes` and its order places `places` further on: a leaf's start and a branch's children
unfoldable pub moved_node : ℕ → ℕ → List ℕ → ℕ → List ℕ
moved_node nodes places words node =
    kind_at words node
    ∷ ((first_at words node + cond (eqb (kind_at words node) 0) places nodes) ∷
    ((second_at words node + cond (eqb (kind_at words node) 0) 0 nodes) ∷ []))

-- those of all nodes below a count
unfoldable pub moved_nodes : ℕ → ℕ → List ℕ → ℕ → List ℕ
moved_nodes nodes places words count = flat_map (moved_node nodes places words) (range 0 count)
