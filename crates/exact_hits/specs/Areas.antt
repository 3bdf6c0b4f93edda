-- Inner contracts only: what the list and the stack hold while the line's walk goes on. Definitions only. Assumes nothing.
use Rattle.std.specs.Prelude.{ℕ, ◌+◌, ◌≡◌, List, [], ◌∷◌, take, Option}
use Rattle.geometry.specs.declared.aabb.Aabb.{Aabb}
use Rattle.tree.specs.Layout.{Tree, box_at}
use Rattle.tree_walk.specs.Walk.{walking, ended}
use Rattle.tree_walk.specs.Areas.{on_stack, walking_after, KeptBy, listed, GrownTo}
use Rattle.tree_walk.specs.declared.step.Stepped.{Stepped}
use Rattle.exact_triangle.specs.Line.{Line}
use Rattle.exact_triangle.specs.Box.{certain_box}
use Rattle.exact_triangle.specs.declared.view.View.{View}
use Rattle.exact_triangle.specs.View.{Sees}
use Rattle.exact_hits.specs.LineWalk.{take_opened, opened_walk, node_opens, walk_box, line_walk}

-- one node taken, for every line that the code's line is
pub record OpenedTaken (line : View) (n : ℕ) (box : Aabb) (t : Tree) (list : List ℕ) (found : ℕ) (stack : List ℕ) (node top : ℕ)
    (r : Stepped) (list' stack' : List ℕ) : Type 0 where
  pub holds : (l : Line) → Sees line l → walking_after r list' stack'
      ≡ take_opened t n box (node_opens l box t) (walking (node ∷ on_stack stack top) (take found list))
  pub kept : KeptBy n t.node_count list found (top + 1) r list' stack'

-- the whole walk
pub record Gathered (line : View) (n : ℕ) (box : Aabb) (t : Tree) (list : List ℕ) (r : Option ℕ) (list' : List ℕ) : Type 0 where
  pub holds : (l : Line) → Sees line l → ended t n box (listed [] r list') ≡ opened_walk t n box (node_opens l box t)
  pub grown : GrownTo n list 0 r list'

-- the line's walk, by the segment's box
pub record LineGathered (line : View) (reach : Aabb) (n : ℕ) (t : Tree) (list : List ℕ) (r : Option ℕ) (list' : List ℕ) : Type 0 where
  pub holds : (l : Line) → Sees line l → reach ≡ certain_box l
      → ended t n (walk_box l (box_at t.node_boxes 0)) (listed [] r list') ≡ line_walk l t n
  pub grown : GrownTo n list 0 r list'
