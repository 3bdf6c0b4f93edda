-- A box that leaves the tree at its first node spends one node and hits nothing. Assumes nothing.
use Prim.Native.Nat.{ℕ, suc}
use mathlib.Core.Path.{◌≡◌, refl, sym, ap, ◌∙◌}
use mathlib.Core.Bool.{Bool, true, false, cond, not, true≢false}
use mathlib.Core.List.{List, [], ◌∷◌}
use native.Mathlib.Omega.{arith}
use borrow.Author.Tests.{eqb-false, le-leb, ne_eqb}
use lib.Dec.{eqb}
use lib.Ieee.{Float}
use lib.ListN.{length}
use Rattle.vectors.specs.Vector.{finite_vec}
use Rattle.geometry.specs.Box.{touches}
use Rattle.geometry.specs.Segment.{segment_end, segment_box}
use Rattle.geometry.specs.declared.aabb.Aabb.{Aabb}
use Rattle.geometry.specs.declared.ray.Ray.{Ray}
use Rattle.nearest_hit.specs.Nearest.{no_hit, fold_from}
use Rattle.lists.specs.Lists.{sort_by, sorted}
use Rattle.tree.specs.Layout.{Tree, box_at}
use Rattle.tree.specs.Mesh.{Mesh, thirds}
use Rattle.tree_walk.specs.Walk.{walking, take_node, at_node, start, ended, walk_of}
use Rattle.tree_walk.specs.Looking.{looked, looked_in, nodes_looked, walk_within}
use Rattle.tree_walk.proofs.Limits.{looked_empty, looked_open, within_is}
use Rattle.tree_walk.proofs.OpenNodes.{root_apart}
use Rattle.mesh.specs.MeshCast.{over_walk}
use Rattle.cabinet.specs.PartCast.{costing, after_look, cast_within}
use Rattle.cabinet.specs.Root.{leaves_at_root}

-- what such a box says of the limit, the nodes and the first of them
record Leaves (limit nodes : ℕ) (touched : Bool) : Type 0 where
  allowed : limit ≡ 0 → ⊥
  rooted : nodes ≡ 0 → ⊥
  apart : touched ≡ false

leaves_is : (limit nodes : ℕ) (boxes : List Float) (box : Aabb) → leaves_at_root limit nodes boxes box ≡ true
    → Leaves limit nodes (touches (box_at boxes 0) box)
unfolding leaves_at_root
leaves_is limit nodes boxes box = go (eqb limit 0) refl (eqb nodes 0) refl (touches (box_at boxes 0) box)
  where
    go : (x : Bool) → eqb limit 0 ≡ x → (y : Bool) → eqb nodes 0 ≡ y → (z : Bool) → cond x false (cond y false (not z)) ≡ true
        → Leaves limit nodes z
    go true e y f z h = absurd (true≢false (sym h))
    go false e true f z h = absurd (true≢false (sym h))
    go false e false f true h = absurd (true≢false (sym h))
    go false e false f false h = record { allowed = eqb-false limit 0 e; rooted = eqb-false nodes 0 f; apart = refl }

module _ (limit : ℕ) (t : Tree) (n : ℕ) (box : Aabb) (l : Leaves limit t.node_count (touches (box_at t.node_boxes 0) box)) where
  -- the first node is looked at, and no other
  one_looked : nodes_looked t n box ≡ 1
  unfolding nodes_looked start take_node at_node
  one_looked =
      let rest : take_node t n box (walking (0 ∷ []) []) ≡ walking [] [] = simp l.apart in
      simp (ne_eqb t.node_count 0 l.rooted) (looked_open t n box t.node_count 0 [] []
      ∙ ap (λ w. suc (looked_in t n box t.node_count w)) rest ∙ ap suc (looked_empty t n box t.node_count []))

  root_spends_one : walk_within t n box limit ≡ looked 1 (walking [] (sorted []))
  unfolding ended
  root_spends_one =
      let none : ended t n box (walking [] []) ≡ walk_of t n box = (root_apart t n box [] l.rooted l.apart).0 in
      within_is t n box limit ∙ simp (one_looked, sym none, le-leb 1 limit (omega (arith, l.allowed)))

pub within_leaves : (limit : ℕ) (r : Ray) (m : Mesh) (t : Tree) → finite_vec (segment_end r) ≡ true → (box : Aabb) → box ≡ segment_box r
    → leaves_at_root limit t.node_count t.node_boxes box ≡ true → costing 1 no_hit ≡ cast_within limit r m t
unfolding cast_within after_look over_walk fold_from sort_by
within_leaves limit r m t f box b x =
    simp (f, sym b, root_spends_one limit t (thirds (length m.triangles)) box (leaves_is limit t.node_count t.node_boxes box x))
