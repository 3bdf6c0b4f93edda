-- Inner contracts only: what is left of the walk, and what a node that is opened leaves of it. Definitions only. Assumes nothing.
use Rattle.std.specs.Prelude.{ℕ, ◌-◌, ◌≤◌, ◌<◌, ◌≡◌, Bool, true, cond, List, [], ◌∷◌, Float}
use Rattle.lists.specs.Lists.{range}
use Rattle.casts.specs.Answer.{Answer, out_of_bounds}
use Rattle.casts.specs.Reach.{reach_of, At}
use Rattle.nearest_hit.specs.Nearest.{Indexed, stopped}
use Rattle.nearest_hit.specs.Summary.{Kept, nobody, kept, Found, Summary}
use Rattle.tree.specs.Layout.{Tree, first_at, second_at}
use Rattle.tree_exact.specs.FirstWalk.{seeking, times, take_places, at_node, take_node, ended, first_of}
use Rattle.tree_exact.specs.declared.node.Node.{Node}
use Rattle.tree_exact.specs.declared.node.Node.TheVariants.{Leaf, Branch, Bad}

module _ (t : Tree) (n : ℕ) (answer : ℕ → Answer) (opens : ℕ → Summary → Bool) (left_first : ℕ → Bool) where
  -- what the walk comes to: so many nodes may still be taken, these places of a leaf are left and these nodes on the stack
  unfoldable pub onward : ℕ → List ℕ → List ℕ → Summary → Indexed
  onward k places stack s =
      ended t n answer opens left_first
      (times k (take_node t n answer opens left_first) (take_places t n answer opens left_first (seeking stack s) places))

  -- .. and a node that was taken is not tested yet
  unfoldable pub untested : ℕ → ℕ → List ℕ → Summary → Indexed
  untested k node stack s =
      ended t n answer opens left_first (times k (take_node t n answer opens left_first) (at_node t n answer opens left_first node stack s))

  -- what is left at a node that is opened
  abbrev pub opened_by : Node → ℕ → ℕ → List ℕ → Summary → Indexed
  opened_by (Leaf start end) k node stack s = onward k (range start (end - start)) stack s
  opened_by (Branch left right) k node stack s =
      onward k [] (cond (left_first node) (left ∷ (right ∷ stack)) (right ∷ (left ∷ stack))) s
  opened_by Bad k node stack s = stopped out_of_bounds

  -- the nearest hit so far is that of a triangle
  abbrev pub Reached : Kept (Found Float) → Type 0
  Reached nobody = Unit
  Reached (kept best) = (best.index < n) × (reach_of (answer best.index) ≡ At best.value)

  -- the walk so far: what is left of it gives the whole
  pub record Standing (k : ℕ) (places stack : List ℕ) (s : Summary) : Type 0 where
    pub whole : onward k places stack s ≡ first_of t n answer opens left_first
    pub reached : Reached s.least

  -- .. where a node that was taken is not tested yet
  pub record Testing (k node : ℕ) (stack : List ℕ) (s : Summary) : Type 0 where
    pub whole : untested k node stack s ≡ first_of t n answer opens left_first
    pub reached : Reached s.least

-- a leaf's places are the order's, a branch's children are its words
abbrev pub NodeIn : ℕ → List ℕ → ℕ → Node → Type 0
NodeIn n words node (Leaf start end) = end ≤ n
NodeIn n words node (Branch left right) = (left ≡ first_at words node) × (right ≡ second_at words node)
NodeIn n words node Bad = Unit

-- a node that is opened, whatever the triangles answer and in whatever order the children are taken
pub record Opens (n : ℕ) (words : List ℕ) (node : ℕ) (r : Node) : Type 0 where
  pub holds : (t : Tree) (answer : ℕ → Answer) (opens : ℕ → Summary → Bool) (left_first : ℕ → Bool) (k : ℕ) (stack : List ℕ) (s : Summary)
      → t.node_words ≡ words → opens node s ≡ true
      → opened_by t n answer opens left_first r k node stack s ≡ untested t n answer opens left_first k node stack s
  pub stands : NodeIn n words node r
