-- The walk of a tree under a limit of nodes, and the nodes that the walk looks at. Definitions only. Assumes nothing.
use Rattle.std.specs.Prelude.{ℕ, zero, suc, cond, [], ◌∷◌, ltb}
use Rattle.geometry.specs.declared.aabb.Aabb.{Aabb}
use Rattle.tree.specs.Layout.{Tree}
use Rattle.tree_walk.specs.Walk.{Walking, walking, broken, take_node, start, ended}

-- how many nodes were looked at, and how the walk stands; or that the limit was used up when the next node was to be taken
pub data Looked : Type 0 where
  looked : ℕ → Walking → Looked
  used_up : ℕ → Looked

-- neither more than there are nor more than the limit
abbrev pub allowed_of : ℕ → ℕ → ℕ
allowed_of nodes limit = cond (ltb limit nodes) limit nodes

module _ (t : Tree) (n : ℕ) (box : Aabb) where
  -- ---- the count: "every tree node looked at costs one"; "A node is looked at when its index is taken from the stack"

  -- the nodes that are looked at when so many may be
  unfoldable pub looked_in : ℕ → Walking → ℕ
  looked_in zero w = 0
  looked_in (suc k) broken = 0
  looked_in (suc k) (walking [] list) = 0
  looked_in (suc k) (walking (node ∷ stack) list) = suc (looked_in k (take_node t n box (walking (node ∷ stack) list)))

  -- "The nodes spent equal those counted by the definition of the walk": the node that passes the node count is taken from the stack
  -- too, so one more than there are
  unfoldable pub nodes_looked : ℕ
  nodes_looked = looked_in (suc t.node_count) (start t n box)

  -- the walk's list sorted, as the walk without a limit has it
  unfoldable pub ended_look : Looked → Looked
  ended_look (looked spent w) = looked spent (ended t n box w)
  ended_look (used_up spent) = used_up spent

  module _ (limit : ℕ) where
    -- ---- the walk: "the limit is tested before anything else of it"; then "a walk past the node count" is 5
    unfoldable pub look : Looked → Looked
    look (used_up spent) = used_up spent
    look (looked spent broken) = looked spent broken
    look (looked spent (walking [] list)) = looked spent (walking [] list)
    look (looked spent (walking (node ∷ stack) list)) =
        cond (ltb spent limit)
        (looked (suc spent) (cond (ltb spent t.node_count) (take_node t n box (walking (node ∷ stack) list)) broken))
        (used_up spent)

    unfoldable pub looks : ℕ → Looked → Looked
    looks zero l = l
    looks (suc k) l = looks k (look l)

    unfoldable pub walk_within : Looked
    walk_within = ended_look (looks (suc t.node_count) (looked 0 (start t n box)))
