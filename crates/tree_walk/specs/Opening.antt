-- Inner contracts only: the walk that tests both children of a branch when it opens it, so that only nodes whose boxes touch stand on its
-- stack, each counted when its parent was opened. Definitions only. Assumes nothing.
use Rattle.std.specs.Prelude.{ℕ, zero, suc, ◌+◌, ◌-◌, ◌*◌, ◌<◌, ◌≤◌, ◌≡◌, Bool, true, false, List, [], ◌∷◌, Float, length, take}
use Rattle.geometry.specs.Box.{touches}
use Rattle.geometry.specs.declared.aabb.Aabb.{Aabb}
use Rattle.lists.specs.Lists.{every, all_below}
use Rattle.tree.specs.Layout.{Tree, word_at, box_at}
use Rattle.tree_walk.specs.Walk.{Walking, walking, broken, times, take_node, at_branch, ended}
use Rattle.tree_walk.specs.Areas.{on_stack, Grown, Room}
use Rattle.tree_walk.specs.declared.ahead.Opened.{Opened}
use Rattle.tree_walk.specs.declared.ahead.Opened.TheVariants.{Next, Ended, Stopped}

-- 1 for yes, 0 for no
abbrev pub as_number : Bool → ℕ
as_number true = 1
as_number false = 0

-- what is left of the walk when so many nodes may still be taken
unfoldable pub onward : Tree → ℕ → Aabb → ℕ → List ℕ → List ℕ → Walking
onward t n box k stack list = ended t n box (times k (take_node t n box) (walking stack list))

-- those that are not counted yet, and those that stand on the stack
abbrev pub due : ℕ → ℕ → ℕ → ℕ
due nodes spent top = (nodes - spent) + top

-- what an outcome gives: a node that is open next is taken too
abbrev pub onward_by : Tree → ℕ → Aabb → Opened → List ℕ → List ℕ → Walking
onward_by t n box (Next node top found spent) list stack = onward t n box (suc (due t.node_count spent top)) (node ∷ on_stack stack top)
    (take found list)
onward_by t n box (Ended found) list stack = ended t n box (walking [] (take found list))
onward_by t n box Stopped list stack = broken

-- the next of the stack
unfoldable pub open_next : List ℕ → ℕ → ℕ → ℕ → Opened
open_next area zero found spent = Ended found
open_next area (suc k) found spent = Next (word_at area k) k found spent

-- a node and those on the stack: they touch, are below the node count, and were counted
pub record Opens (nodes : ℕ) (boxes : List Float) (box : Aabb) (stack : List ℕ) (node top spent : ℕ) : Type 0 where
  pub within : spent ≤ nodes
  pub tall : top < spent
  pub below : all_below nodes (node ∷ on_stack stack top) ≡ true
  pub touching : every (λ (x : ℕ). touches (box_at boxes x) box) (node ∷ on_stack stack top) ≡ true

-- what stands after an outcome, and that less is open
abbrev pub OpensBy : ℕ → List Float → Aabb → ℕ → Opened → List ℕ → Type 0
OpensBy nodes boxes box limit (Next node top found spent) stack = Opens nodes boxes box stack node top spent × (due nodes spent top < limit)
OpensBy nodes boxes box limit (Ended found) stack = Unit
OpensBy nodes boxes box limit Stopped stack = Unit

-- how the list has grown
abbrev pub GrownIn : ℕ → List ℕ → ℕ → Opened → List ℕ → Type 0
GrownIn n entry from (Next node top found spent) exit = Grown n entry exit from found
GrownIn n entry from (Ended found) exit = Grown n entry exit from found
GrownIn n entry from Stopped exit = Unit

-- two children that are counted, above a stack whose nodes touch
pub record Waiting (nodes : ℕ) (boxes : List Float) (box : Aabb) (left right : ℕ) (stack : List ℕ) (top spent : ℕ) : Type 0 where
  pub within : spent ≤ nodes
  pub tall : top + 2 < spent
  pub first : left < nodes
  pub second : right < nodes
  pub below : all_below nodes (on_stack stack top) ≡ true
  pub touching : every (λ (x : ℕ). touches (box_at boxes x) box) (on_stack stack top) ≡ true

-- both tested, whatever else the tree and the list hold
pub record Tested (nodes : ℕ) (boxes : List Float) (box : Aabb) (left right : ℕ) (entry : List ℕ) (top found spent : ℕ) (r : Opened)
    (exit : List ℕ) : Type 0 where
  pub holds : (t : Tree) (n : ℕ) (list : List ℕ) → t.node_count ≡ nodes → t.node_boxes ≡ boxes → onward_by t n box r list exit ≡ onward t n
      box (suc (suc (due nodes spent top))) (left ∷ (right ∷ on_stack entry top)) (take found list)
  pub stands : OpensBy nodes boxes box (suc (suc (due nodes spent top))) r exit
  pub grown : (n : ℕ) (list : List ℕ) → Grown n list list found found → GrownIn n list found r list

-- a branch
pub record Branched (nodes : ℕ) (boxes : List Float) (box : Aabb) (node left right : ℕ) (entry : List ℕ) (top found spent : ℕ) (r : Opened)
    (exit : List ℕ) : Type 0 where
  pub holds : (t : Tree) (n : ℕ) (list : List ℕ) → t.node_count ≡ nodes → t.node_boxes ≡ boxes → onward_by t n box r list exit ≡ ended t n
      box (times (due nodes spent top) (take_node t n box) (at_branch t n box node left right (on_stack entry top) (take found list)))
  pub stands : OpensBy nodes boxes box (due nodes spent top) r exit
  pub grown : (n : ℕ) (list : List ℕ) → Grown n list list found found → GrownIn n list found r list

-- what opening a node asks of the areas
pub record OpenRoom (n : ℕ) (t : Tree) (box : Aabb) (list : List ℕ) (found : ℕ) (stack : List ℕ) (node top spent : ℕ) : Type 0 where
  pub places : Room n t.order t.triangle_boxes list found
  pub boxed : 6 * t.node_count ≤ length t.node_boxes
  pub worded : 3 * t.node_count ≤ length t.node_words
  pub high : t.node_count < length stack
  pub opens : Opens t.node_count t.node_boxes box stack node top spent

-- and what it promises
pub record NodeOpened (n : ℕ) (t : Tree) (box : Aabb) (list : List ℕ) (found : ℕ) (stack : List ℕ) (node top spent : ℕ) (r : Opened)
    (list' stack' : List ℕ) : Type 0 where
  pub holds : onward_by t n box r list' stack' ≡ onward t n box (suc (due t.node_count spent top)) (node ∷ on_stack stack top)
      (take found list)
  pub stands : OpensBy t.node_count t.node_boxes box (due t.node_count spent top) r stack'
  pub grown : GrownIn n list found r list'
