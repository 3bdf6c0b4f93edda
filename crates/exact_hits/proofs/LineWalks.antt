-- The walk of a line by the box that it goes by. Assumes nothing.
use Rattle.std.specs.Prelude.{Option, Some}
use Prim.Native.Nat.{ℕ}
use mathlib.Core.Path.{◌≡◌, refl, subst}
use mathlib.Core.List.{List, []}
use native.Mathlib.Omega.{arith}
use Rattle.geometry.specs.declared.aabb.Aabb.{Aabb}
use Rattle.lists.specs.Lists.{every}
use Rattle.tree.specs.Layout.{Tree, box_at}
use Rattle.tree_walk.specs.Walk.{times, start, ended}
use Rattle.tree_walk.specs.Areas.{listed}
use Rattle.tree_walk.proofs.Places.{grown_none}
use Rattle.exact_triangle.specs.Line.{Line}
use Rattle.exact_triangle.specs.Box.{certain_box}
use Rattle.exact_triangle.specs.declared.view.View.{View}
use Rattle.exact_hits.specs.LineWalk.{opened_walk, node_opens, walk_box, line_walk}
use Rattle.exact_hits.specs.Areas.{Gathered, LineGathered}

module _ (line : View) (reach : Aabb) (n : ℕ) (t : Tree) (list : List ℕ) where
  -- no node
  pub gathers_nothing : t.node_count ≡ 0 → LineGathered line reach n t list (Some 0) list
  unfolding line_walk opened_walk start times every
  gathers_nothing e = record { holds = λ l sees b. simp e; grown = grown_none n 0 list (omega arith) refl }

  module _ (box : Aabb) (is : (l : Line) → reach ≡ certain_box l → box ≡ walk_box l (box_at t.node_boxes 0)) where
    pub gathers_by : (r : Option ℕ) (list' : List ℕ) → Gathered line n box t list r list' → LineGathered line reach n t list r list'
    unfolding line_walk
    gathers_by r list' g = record {
      holds = λ l sees b.
          subst (λ (z : Aabb). ended t n z (listed [] r list') ≡ opened_walk t n z (node_opens l z t)) (is l b) (g.holds l sees);
      grown = g.grown;
    }
