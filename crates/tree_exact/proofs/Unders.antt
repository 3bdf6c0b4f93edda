-- Every triangle of a mesh stands under the first node of a tree that passes the check; and the boxes above a triangle enclose its own.
-- Assumes nothing.
use Prim.Native.Nat.{ℕ, zero, suc, ◌<◌}
use mathlib.Core.Path.{◌≡◌, refl, sym, subst}
use mathlib.Core.Bool.{true}
use mathlib.Core.List.{[]}
use native.Mathlib.Omega.{arith}
use Rattle.geometry.specs.Box.{encloses}
use Rattle.lists.specs.Lists.{count}
use Rattle.tree.specs.Layout.{Tree, word_at, box_at}
use Rattle.tree.specs.Mesh.{Mesh}
use Rattle.tree_check.specs.Check.{triangle_count, nodes, places_of}
use Rattle.lists.proofs.CountLaws.{one_same, count_cons, range_bounds, count_range_inside, gathers}
use Rattle.mesh.proofs.CheckedTree.{Checked}
use Rattle.mesh.proofs.TreeCounts.{placed_at, triangles_of, triangles_within, parent_of, home_of}
use Rattle.mesh.proofs.BuildBoxes.{encloses_through}
use Rattle.tree_exact.specs.WalkDemand.{Under, here, there}

module _ (m : Mesh) (t : Tree) (c : Checked m t) where
  -- from a node up to the first
  rises : (bound i x : ℕ) → i < bound → i < t.node_count → Under m t i x → Under m t 0 x
  rises zero i x h below u = absurd (omega arith)
  rises (suc bound) zero x h below u = u
  rises (suc bound) (suc i) x h below u =
      let p = parent_of m t c (suc i) (omega arith) below in
      rises bound p.node x (omega (arith, p.lower)) (omega (arith, p.lower)) (there p.node (suc i) x p.child u)

  pub under_first : (x : ℕ) → x < triangle_count m t → Under m t 0 x
  under_first x below =
      let h = home_of m t c x below in
      rises t.node_count h.node x h.below h.below
      (subst (λ (y : ℕ). Under m t h.node y) (sym h.holds) (here h.node h.place h.placed))

  -- what stands under a node is a triangle
  placed_below : (node place : ℕ) → node < t.node_count → 0 < count place (places_of m t node) → word_at t.order place < triangle_count m t
  placed_below node place below h =
      let x = word_at t.order place in
      let one = gathers (placed_at t) (places_of m t node) place x h (omega (arith, count_cons x x [], one_same x x refl)) in
      let listed : 0 < count node (nodes m t) = omega (arith, count_range_inside node 0 t.node_count (omega arith) (omega arith)) in
      let gathered = gathers (triangles_of m t) (nodes m t) node x listed one in
      omega (arith, range_bounds x 0 (triangle_count m t) (omega (arith, gathered, (triangles_within m t c).at_most x)))

  pub under_below : (node x : ℕ) → node < t.node_count → Under m t node x → x < triangle_count m t
  under_below node x below (here i place h) = placed_below node place below h
  under_below node x below (there i child y h u) = under_below child x (c.above node child below h).1 u

  -- whose box is enclosed
  pub under_enclosed : (node x : ℕ) → node < t.node_count → Under m t node x
      → encloses (box_at t.node_boxes node) (box_at t.triangle_boxes x) ≡ true
  under_enclosed node x below (here i place h) = c.triangle_enclosed node place below h
  under_enclosed node x below (there i child y h u) =
      encloses_through (box_at t.node_boxes node) (box_at t.node_boxes child) (box_at t.triangle_boxes x)
      (c.child_enclosed node child below h) (under_enclosed child x (c.above node child below h).1 u)
