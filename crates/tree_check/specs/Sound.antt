-- Inner contracts only: what the check asks of one node's words, in the order in which the code tests it. Definitions only. Assumes
-- nothing.
use Rattle.std.specs.Prelude.{ℕ, ◌+◌, Bool, false, not, ◌&&◌, cond, List, leb, ltb, eqb}
use Rattle.tree.specs.Layout.{kind_at, first_at, second_at}

-- a leaf is not empty and does not end past n
unfoldable pub leaf_sound : ℕ → ℕ → ℕ → Bool
leaf_sound n start count = ltb 0 count && leb (start + count) n

-- a branch's children differ, lie above it and below the node count
unfoldable pub branch_sound : ℕ → ℕ → ℕ → ℕ → Bool
branch_sound nodes node left right = not (eqb left right) && (ltb node left && (ltb left nodes && (ltb node right && ltb right nodes)))

-- a node is a sound leaf or a sound branch
unfoldable pub node_sound : ℕ → ℕ → List ℕ → ℕ → Bool
node_sound n nodes words node =
    cond (eqb (kind_at words node) 0)
    (leaf_sound n (first_at words node) (second_at words node))
    (cond (eqb (kind_at words node) 1) (branch_sound nodes node (first_at words node) (second_at words node)) false)
