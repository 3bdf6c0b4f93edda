-- Where the first node's box of a tree that passes the check is within the grid's range, each corner of a mesh without a NaN is. Assumes
-- nothing.
use Rattle.std.proofs.Common.{◌≡◌, ℕ, ◌<◌, Bool, true, false, cond, eqb, ◌⊎◌, sym, ap, ◌∙◌, inl, inr, arith, ne_eqb}
use Rattle.lists.proofs.EveryLaws.{every_agree}
use Rattle.lists.specs.Lists.{range}
use Rattle.geometry.specs.Box.{encloses}
use Rattle.geometry.proofs.BoxLaws.{encloses_of_same}
use Rattle.tree.specs.Layout.{Tree, box_at}
use Rattle.tree.specs.Mesh.{Mesh, corners_of, triangle_box, triangle_count}
use Rattle.tree_check.specs.Check.{tree_passes}
use Rattle.mesh.proofs.CheckedTree.{Checked, checked_or_empty}
use Rattle.mesh.proofs.TreeCounts.{home_of}
use Rattle.mesh.proofs.BuildBoxes.{encloses_through}
use Rattle.exact_triangle.specs.Reach.{corners_read}
use Rattle.tree_exact.specs.Opening.{box_read}
use Rattle.tree_exact.specs.Demand.{grid_box}
use Rattle.tree_exact.specs.Numbers.{NoNaN}
use Rattle.tree_exact.proofs.Unders.{under_first, under_enclosed}
use Rattle.tree_exact.proofs.Safely.{read_enclosed}
use Rattle.tree_exact.proofs.Answers.{enclosed_read}
use Rattle.mesh_drill.specs.MeshDrill.{mesh_read}
use Rattle.mesh_drill.specs.Through.{root_read}
use Rattle.mesh_drill.proofs.Wholes.{every_true}

module _ (m : Mesh) (numbered : NoNaN m) where
  -- ---- under the first node
  module _ (t : Tree) (passes : tree_passes m t ≡ true) (root : root_read t ≡ true) where
    root_is : 0 < t.node_count → box_read (box_at t.node_boxes 0) ≡ true
    unfolding root_read
    root_is some =
        let none : eqb t.node_count 0 ≡ false = ne_eqb t.node_count 0 (λ e. absurd (omega (arith, e, some))) in
        sym (ap (λ (b : Bool). cond b true (box_read (box_at t.node_boxes 0))) none) ∙ root

    under_root : Checked m t → (x : ℕ) → x < triangle_count m → encloses grid_box (triangle_box m.vertices m.triangles x) ≡ true
    under_root c x below =
        let h = home_of m t c x below in
        let some : 0 < t.node_count = omega (arith, h.below) in
        let first = box_at t.node_boxes 0 in
        let own = triangle_box m.vertices m.triangles x in
        encloses_through grid_box first own (read_enclosed first (root_is some))
        (encloses_through first (box_at t.triangle_boxes x) own (under_enclosed m t c 0 x some (under_first m t c x below))
        (encloses_of_same (box_at t.triangle_boxes x) own (c.same x below)))

    read_each : (x : ℕ) → x < triangle_count m → Checked m t ⊎ ((t.node_count ≡ 0) × (triangle_count m ≡ 0))
        → corners_read (corners_of m.vertices m.triangles x) ≡ true
    read_each x below (inl c) = enclosed_read m numbered x below (under_root c x below)
    read_each x below (inr empty) = absurd (omega (arith, below, empty.1))

    pub root_reads : mesh_read m ≡ true
    unfolding mesh_read
    root_reads =
        every_agree (λ (i : ℕ). corners_read (corners_of m.vertices m.triangles i)) (λ (i : ℕ). true) 0 (triangle_count m)
        (λ i low high. read_each i (omega (arith, high)) (checked_or_empty m t passes))
        ∙ every_true (range 0 (triangle_count m))
