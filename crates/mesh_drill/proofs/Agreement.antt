-- Through any tree that passes the check the drill answers as without one. Assumes nothing.
use Rattle.std.proofs.Common.{◌≡◌, ℕ, ◌<◌, Bool, true, false, cond, refl, ap, ◌∙◌, arith}
use lib.Ieee.{Float}
use Rattle.geometry.specs.Box.{touches}
use Rattle.geometry.specs.Segment.{ray_admitted}
use Rattle.geometry.specs.declared.ray.Ray.{Ray}
use Rattle.tree.specs.Layout.{Tree}
use Rattle.tree.specs.Mesh.{Mesh, triangle_count, triangle_box, triangles_fit, candidates}
use Rattle.tree_check.specs.Check.{tree_passes}
use Rattle.tree_check.proofs.Answers.{yes_passes}
use Rattle.tree_walk.specs.Walk.{walk_of}
use Rattle.tree_query.specs.Query.{walk_fits}
use Rattle.mesh.specs.Demand3.{PassesCheck}
use Rattle.mesh.proofs.WalkLists.{walk_lists_candidates}
use Rattle.mesh_plain.proofs.Agreement.{yes_lengths, triangles_fit_lem}
use Rattle.exact_triangle.specs.Line.{Line}
use Rattle.exact_triangle.specs.Grid.{within, grid_admitted, grid_line}
use Rattle.tree_exact.specs.Numbers.{NoNaN}
use Rattle.tree_exact.proofs.Agreement.{shape_admitted_lem}
use Rattle.drill.specs.Box.{drill_box}
use Rattle.mesh_drill.specs.MeshDrill.{DrillAnswer, touched_at, drill_boxed, mesh_read}
use Rattle.mesh_drill.specs.Radius.{widestᶠ, radius_admitted, radius_on}
use Rattle.mesh_drill.specs.Drilling.{over_mesh, drill_plain, DrillAdmitted}
use Rattle.mesh_drill.specs.Through.{drilled_at, first_answer, over_walk, root_read, over_tree, drill_through, AsWithoutTree}
use Rattle.mesh_drill.proofs.Wholes.{fits_at, read_at_lem}
use Rattle.mesh_drill.proofs.Listings.{drilled_is, first_in_range}
use Rattle.mesh_drill.proofs.Roots.{root_reads}
use Rattle.mesh_drill.proofs.Answers.{boxed_answers, over_passed, answer_certain}

-- the candidates of a mesh in range
module _ (l : Line) (ρ : ℕ) (m : Mesh) (fit : triangles_fit m ≡ true) (read : mesh_read m ≡ true) where
  candidates_answer : first_answer (drilled_at l ρ m) (candidates m (drill_box l ρ)) ≡ drill_boxed l ρ m
  unfolding drill_boxed candidates
  candidates_answer =
      first_in_range (λ (i : ℕ). touches (triangle_box m.vertices m.triangles i) (drill_box l ρ)) (touched_at l ρ m) (drilled_at l ρ m) 0
      (triangle_count m)
      (λ i low high.
      let below : i < triangle_count m = omega (arith, high) in
      drilled_is l ρ m i (fits_at m fit i below) (read_at_lem m read i below))

  walk_answers : (t : Tree) → tree_passes m t ≡ true → over_walk l ρ m (walk_of t (triangle_count m) (drill_box l ρ)) ≡ drill_boxed l ρ m
  unfolding over_walk
  walk_answers t passes = ap (over_walk l ρ m) (walk_lists_candidates m t (drill_box l ρ) passes) ∙ candidates_answer

module _ (r : Ray) (radius : Float) (m : Mesh) (t : Tree) (a : DrillAdmitted r radius) (passes : tree_passes m t ≡ true)
    (numbered : NoNaN m) where
  pub tree_answers : over_tree r radius m t ≡ over_mesh r radius m
  unfolding over_tree
  tree_answers = go (root_read t) refl
    where
      walked : DrillAnswer
      walked = over_walk (grid_line r) (radius_on radius) m (walk_of t (triangle_count m) (drill_box (grid_line r) (radius_on radius)))

      go : (b : Bool) → root_read t ≡ b → cond b walked (over_mesh r radius m) ≡ over_mesh r radius m
      go false e = refl
      go true e =
          let fit = triangles_fit_lem m t passes in
          let read = root_reads m numbered t passes e in
          over_passed r radius m fit read walked
          (boxed_answers r radius m a read walked (walk_answers (grid_line r) (radius_on radius) m fit read t passes))

agrees_by : (r : Ray) (radius : Float) (m : Mesh) (t : Tree) (list stack : ℕ) → PassesCheck m t → NoNaN m
    → walk_fits (triangle_count m) t list stack ≡ true
    → (p : Bool) → ray_admitted r ≡ p → (q : Bool) → radius_admitted radius ≡ q → (s : Bool) → grid_admitted r ≡ s
    → (u : Bool) → within widestᶠ radius ≡ u
    → drill_through r radius m t list stack ≡ drill_plain r radius m
unfolding drill_through drill_plain
agrees_by r radius m t list stack c n room false a q b s d u e = simp a
agrees_by r radius m t list stack c n room true a false b s d u e = simp (a, b)
agrees_by r radius m t list stack c n room true a true b false d u e = simp (a, b, d)
agrees_by r radius m t list stack c n room true a true b true d false e = simp (a, b, d, e)
agrees_by r radius m t list stack c n room true a true b true d true e =
    let passes = yes_passes m t c.marks c.says_yes in
    let lengths = yes_lengths m t c.marks c.says_yes in
    let admitted : DrillAdmitted r radius = record { ray = a; size = b; read = d; widest = e } in
    simp (a, b, d, e, shape_admitted_lem r m t passes lengths, lengths, room, tree_answers r radius m t admitted passes n)

pub agrees : (r : Ray) (radius : Float) (m : Mesh) (t : Tree) (list stack : ℕ) → PassesCheck m t → NoNaN m
    → walk_fits (triangle_count m) t list stack ≡ true → drill_through r radius m t list stack ≡ drill_plain r radius m
agrees r radius m t list stack c n room =
    agrees_by r radius m t list stack c n room (ray_admitted r) refl (radius_admitted radius) refl (grid_admitted r) refl
    (within widestᶠ radius) refl

-- the three clauses of the contract: the equation, what is kept, and the agreement
pub with_agreement : (r : Ray) (radius : Float) (m : Mesh) (t : Tree) (list stack : ℕ) (answer : DrillAnswer) (Kept : Type 0)
    → answer ≡ drill_through r radius m t list stack → Kept
    → (answer ≡ drill_through r radius m t list stack) × (Kept × AsWithoutTree r radius m t list stack answer)
with_agreement r radius m t list stack answer Kept e k =
    (e, (k, λ c n room. answer_certain r radius m answer (e ∙ agrees r radius m t list stack c n room)))
