-- Inner contracts only: what the list and the stack hold while the walk goes on, as the walk's functions promise it. Definitions only.
-- Assumes nothing.
use Rattle.std.specs.Prelude.{ℕ, zero, suc, ◌+◌, ◌*◌, ◌<◌, ◌≤◌, ◌≡◌, true, List, [], ◌∷◌, Float, length, take, drop}
use Rattle.lists.specs.Lists.{all_below}
use Rattle.tree.specs.Layout.{Tree, word_at}
use Rattle.geometry.specs.declared.aabb.Aabb.{Aabb}
use Rattle.tree_walk.specs.Walk.{Walking, walking, broken, at_branch, take_node}
use Rattle.std.specs.Prelude.{Option, Some, None}
use Rattle.tree_walk.specs.declared.step.Stepped.{Stepped}
use Rattle.tree_walk.specs.declared.step.Stepped.TheVariants.{Next, Ended, Stopped}

-- the triangles listed so far stand in the first places of the list's area
abbrev pub listed : List ℕ → Option ℕ → List ℕ → Walking
listed stack (Some k) area = walking stack (take k area)
listed stack None area = broken

-- a list below n that has grown in its area, whose rest is as it was
pub record Grown (n : ℕ) (entry exit : List ℕ) (from to : ℕ) : Type 0 where
  pub grows : from ≤ to
  pub inside : to ≤ length exit
  pub rest : drop to exit ≡ drop to entry
  pub below : all_below n (take to exit) ≡ true

abbrev pub GrownTo : ℕ → List ℕ → ℕ → Option ℕ → List ℕ → Type 0
GrownTo n entry from (Some to) exit = Grown n entry exit from to
GrownTo n entry from None exit = Unit

-- what taking order places asks of the areas
pub record Room (n : ℕ) (order : List ℕ) (boxes : List Float) (list : List ℕ) (found : ℕ) : Type 0 where
  pub ordered : n ≤ length order
  pub boxed : 6 * n ≤ length boxes
  pub lent : n ≤ length list
  pub inside : found ≤ length list
  pub below : all_below n (take found list) ≡ true

-- and what it promises, whatever else the tree holds and whatever is on the stack
pub record Placed (after : Tree → List ℕ → Walking) (n : ℕ) (order : List ℕ) (boxes : List Float) (entry : List ℕ) (from : ℕ) (r : Option ℕ)
    (exit : List ℕ) : Type 0 where
  pub holds : (t : Tree) (stack : List ℕ) → t.order ≡ order → t.triangle_boxes ≡ boxes → listed stack r exit ≡ after t stack
  pub grown : GrownTo n entry from r exit

-- the nodes on the stack, the next one first: the first places of the area, the last of them first
unfoldable pub on_stack : List ℕ → ℕ → List ℕ
on_stack area zero = []
on_stack area (suc k) = word_at area k ∷ on_stack area k

-- the next of them taken
unfoldable pub popped : List ℕ → ℕ → ℕ → Stepped
popped area zero found = Ended found
popped area (suc k) found = Next (word_at area k) k found

-- what a step leaves: the node that is taken next stands before those on the stack
abbrev pub walking_after : Stepped → List ℕ → List ℕ → Walking
walking_after (Next node top found) list stack = walking (node ∷ on_stack stack top) (take found list)
walking_after (Ended found) list stack = walking [] (take found list)
walking_after Stopped list stack = broken

-- nodes below the node count, those on the stack not more than said
pub record Stands (nodes limit : ℕ) (stack : List ℕ) (node top : ℕ) : Type 0 where
  pub within : top ≤ limit
  pub below : all_below nodes (node ∷ on_stack stack top) ≡ true

pub record Kept (n nodes : ℕ) (entry exit : List ℕ) (from to : ℕ) (limit : ℕ) (stack : List ℕ) (node top : ℕ) : Type 0 where
  pub grown : Grown n entry exit from to
  pub stands : Stands nodes limit stack node top

abbrev pub KeptBy : ℕ → ℕ → List ℕ → ℕ → ℕ → Stepped → List ℕ → List ℕ → Type 0
KeptBy n nodes entry from limit (Next node top found) list stack = Kept n nodes entry list from found limit stack node top
KeptBy n nodes entry from limit (Ended found) list stack = Grown n entry list from found
KeptBy n nodes entry from limit Stopped list stack = Unit

-- a branch, whatever else the tree and the list hold
pub record Pushed (nodes node left right : ℕ) (entry : List ℕ) (top found : ℕ) (r : Stepped) (exit : List ℕ) : Type 0 where
  pub holds : (t : Tree) (n : ℕ) (box : Aabb) (list : List ℕ) → t.node_count ≡ nodes
      → walking_after r list exit ≡ at_branch t n box node left right
      (on_stack entry top) (take found list)
  pub kept : (n : ℕ) (list₀ list : List ℕ) (from : ℕ) → Grown n list₀ list from found → KeptBy n nodes list₀ from (top + 1) r list exit

-- what taking a node asks of the areas
pub record NodeRoom (n : ℕ) (t : Tree) (list : List ℕ) (found : ℕ) (stack : List ℕ) (node top : ℕ) : Type 0 where
  pub places : Room n t.order t.triangle_boxes list found
  pub boxed : 6 * t.node_count ≤ length t.node_boxes
  pub worded : 3 * t.node_count ≤ length t.node_words
  pub taller : top < length stack
  pub below : all_below t.node_count (node ∷ on_stack stack top) ≡ true

-- and what it promises
pub record NodeTaken (n : ℕ) (box : Aabb) (t : Tree) (list : List ℕ) (found : ℕ) (stack : List ℕ) (node top : ℕ) (r : Stepped)
    (list' stack' : List ℕ) : Type 0 where
  pub holds : walking_after r list' stack' ≡ take_node t n box (walking (node ∷ on_stack stack top) (take found list))
  pub kept : KeptBy n t.node_count list found (top + 1) r list' stack'

-- what the walk asks of the areas
pub record WalkRoom (n : ℕ) (t : Tree) (list stack : List ℕ) : Type 0 where
  pub ordered : n ≤ length t.order
  pub triangles : 6 * n ≤ length t.triangle_boxes
  pub boxed : 6 * t.node_count ≤ length t.node_boxes
  pub worded : 3 * t.node_count ≤ length t.node_words
  pub lent : n ≤ length list
  pub high : t.node_count < length stack
