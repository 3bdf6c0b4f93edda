-- The tree cast through any tree that passes the check is the cast without a tree. Assumes nothing.
-- The triangles of a checked tree's mesh have valid boxes, and its walk lists the candidates.
use Prim.Native.Nat.{ℕ, ◌*◌, ◌≤◌, ◌<◌}
use mathlib.Core.Path.{◌≡◌, refl, sym, ◌∙◌}
use mathlib.Core.Logic.{◌⊎◌, inl, inr}
use mathlib.Core.Bool.{Bool, true, false, cond}
use native.Mathlib.Omega.{arith}
use lib.ListN.{length}
use borrow.Author.Tests.{le-leb, eq-eqb}
use Rattle.geometry.specs.Box.{valid_box}
use Rattle.geometry.specs.Segment.{segment_box}
use Rattle.geometry.specs.declared.ray.Ray.{Ray}
use Rattle.lists.proofs.JoinedTests.{and_both}
use Rattle.casts.specs.Answer.{bad_shape, no_room}
use Rattle.nearest_hit.specs.Nearest.{Indexed}
use Rattle.tree.specs.Layout.{Tree, box_at}
use Rattle.tree.specs.Mesh.{Mesh, thirds, lengths_admitted, corners_inside, triangle_box}
use Rattle.tree_check.specs.Check.{triangle_count, tree_passes}
use Rattle.tree_check.specs.Verdict.{yes, no, refused, room_for as roomToCheck, check_of}
use Rattle.tree_check.proofs.Answers.{yes_passes}
use Rattle.mesh.specs.MeshCast.{shape_admitted, over_walk, mesh_cast, ray_mesh}
use Rattle.mesh.proofs.CheckedTree.{Checked, checked_or_empty}
use Rattle.mesh.proofs.WalkLists.{walk_lists_candidates}
use Rattle.mesh.proofs.BuildClauses.{every_below}
use Rattle.mesh_plain.specs.PlainCast.{triangle_fits, triangles_fit, over_triangles, plain_cast, ray_mesh_plain, AgreesWithTrees}
use Rattle.mesh_plain.proofs.SameBoxes.{valid_of_same}

-- ---- what a yes of the check says
chosen_shape : (shape room tree : Bool) → cond shape (cond room (cond tree yes no) (refused no_room)) (refused bad_shape) ≡ yes → shape
    ≡ true
chosen_shape true room tree h = refl
chosen_shape false room tree h = let z : ◌≡◌ {A = ℕ} 0 1 = cc in absurd (omega arith)

pub yes_lengths : (m : Mesh) (t : Tree) (marks : ℕ) → check_of m t marks ≡ yes
    → lengths_admitted (length m.vertices) (length m.triangles) ≡ true
unfolding check_of
yes_lengths m t marks h =
    chosen_shape (lengths_admitted (length m.vertices) (length m.triangles))
    (roomToCheck (thirds (length m.triangles)) (length t.node_boxes) (length t.triangle_boxes) (length t.node_words)
    (length t.order) marks)
    (tree_passes m t) h

module _ (m : Mesh) (t : Tree) (passes : tree_passes m t ≡ true) where
  pub few_nodes : t.node_count ≤ 2 * triangle_count m t
  few_nodes = go (checked_or_empty m t passes)
    where
      go : Checked m t ⊎ ((t.node_count ≡ 0) × (triangle_count m t ≡ 0)) → t.node_count ≤ 2 * triangle_count m t
      go (inl c) = c.few
      go (inr e) = omega arith

  fits_of_checked : Checked m t → (x : ℕ) → x < triangle_count m t → triangle_fits m x ≡ true
  unfolding triangle_fits
  fits_of_checked c x below =
      let own = triangle_box m.vertices m.triangles x in
      and_both (corners_inside (thirds (length m.vertices)) m.triangles x) (valid_box own) (c.corners x below)
      (valid_of_same (box_at t.triangle_boxes x) own (c.same x below) (c.triangle_valid x below))

  -- in a checked tree every triangle of the mesh has a valid box
  pub triangles_fit_lem : triangles_fit m ≡ true
  unfolding triangles_fit
  triangles_fit_lem = every_below (triangle_fits m) (triangle_count m t) (λ x below. go x below (checked_or_empty m t passes))
    where
      go : (x : ℕ) → x < triangle_count m t → Checked m t ⊎ ((t.node_count ≡ 0) × (triangle_count m t ≡ 0)) → triangle_fits m x ≡ true
      go x below (inl c) = fits_of_checked c x below
      go x below (inr e) = absurd (omega arith)

  casts_agree : (r : Ray) → mesh_cast r m m.vertices t ≡ plain_cast r m
  unfolding mesh_cast plain_cast over_triangles over_walk
  casts_agree r = simp (walk_lists_candidates m t (segment_box r) passes, triangles_fit_lem)

  shape_admitted_lem : lengths_admitted (length m.vertices) (length m.triangles) ≡ true → shape_admitted m m.vertices t ≡ true
  unfolding shape_admitted
  shape_admitted_lem h = simp (h, le-leb t.node_count (2 * triangle_count m t) few_nodes)

pub agrees_with_trees : (r : Ray) (m : Mesh) → AgreesWithTrees r m (ray_mesh_plain r m)
unfolding ray_mesh ray_mesh_plain
agrees_with_trees r m t list stack p room =
    let passes = yes_passes m t p.marks p.says_yes in
    let lengths = yes_lengths m t p.marks p.says_yes in
    let own = eq-eqb (length m.vertices) (length m.vertices) refl in
    simp (shape_admitted_lem m t passes lengths, lengths, room, own, casts_agree m t passes r)

-- the same of an answer that is known to be the definition's, as the contracts have it
pub answer_agrees : (r : Ray) (m : Mesh) (answer : Indexed) → answer ≡ ray_mesh_plain r m
    → (answer ≡ ray_mesh_plain r m) × AgreesWithTrees r m answer
answer_agrees r m answer e = (e, λ t list stack p room. agrees_with_trees r m t list stack p room ∙ sym e)
