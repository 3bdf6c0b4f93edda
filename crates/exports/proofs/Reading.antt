-- What a caller reads back is the answer, so that what is proved of the answer holds of it. Assumes nothing.
use Prim.Native.Nat.{ℕ, ◌≤◌}
use mathlib.Core.Path.{◌≡◌, refl, sym, ap, subst, ◌∙◌}
use mathlib.Core.Bool.{Bool, true, false, ◌&&◌, cond}
use mathlib.Core.List.{List, [], ◌∷◌}
use native.Mathlib.Omega.{arith}
use borrow.Author.Tests.{leb-true, le-leb, ne_eqb}
use lib.Dec.{leb}
use lib.Ieee.{Float}
use lib.ListN.{length}
use lib.Seq.{sets}
use Rattle.lists.proofs.JoinedTests.{and_first, and_second}
use Rattle.vectors.specs.declared.vec3.Vec3.{Vec3}
use Rattle.geometry.specs.Segment.{ray_admitted}
use Rattle.geometry.specs.declared.ray.Ray.{Ray}
use Rattle.casts.specs.Answer.{bad_shape, no_room}
use Rattle.nearest_hit.specs.Nearest.{Indexed, hit_at, no_hit, stopped}
use Rattle.tree.specs.Layout.{Tree, Areas, tree_in, word_at, vector_at}
use Rattle.tree.specs.Mesh.{Mesh, lengths_admitted}
use Rattle.tree_build.specs.Build.{Answer, nodes, refused, build_of}
use Rattle.tree_check.specs.Verdict.{Ruling, yes, no, check_of}
use Rattle.tree_check.specs.Verdict as Verdict
use Rattle.mesh.specs.MeshCast.{shape_admitted, ray_mesh}
use Rattle.mesh.specs.Demand3.{MeetsDemand}
use Rattle.mesh.proofs.Demand3.{demand3}
use Rattle.mesh.proofs.BuildPasses.{built_trees_pass}
use Rattle.results.specs.Results.{ReturnedIndexed, returned_indexed, results_fit, answered_mesh, hit_code, none_code}
use Rattle.results.specs.Results.{BuildReturned, done_code, yes_code, returned_nodes, build_returned, returned_verdict}
use Rattle.exports.specs.Reading.{answer_read, DemandRead, YesRead, BuiltRead}
use Rattle.exports.specs.Codes.{Below}
use Rattle.exports.proofs.Kept.{room_there}
use Rattle.exports.proofs.Codes.{refusals_below_codes}

-- ---- the number and the slices say the answer
hit_read : (n : Vec3) (d : Float) (i : ℕ) (area : List Float) (place : List ℕ) → 4 ≤ length area → 1 ≤ length place
    → answer_read (returned_indexed (hit_at n d i) area place) ≡ hit_at n d i
unfolding answer_read returned_indexed vector_at
hit_read n d i [] place h k = absurd (omega arith)
hit_read n d i (a ∷ []) place h k = absurd (omega arith)
hit_read n d i (a ∷ (b ∷ [])) place h k = absurd (omega arith)
hit_read n d i (a ∷ (b ∷ (c ∷ []))) place h k = absurd (omega arith)
hit_read n d i (a ∷ (b ∷ (c ∷ (e ∷ rest)))) [] h k = absurd (omega arith)
hit_read n d i (a ∷ (b ∷ (c ∷ (e ∷ rest)))) (p ∷ place) h k = refl

module _ (area : List Float) (place : List ℕ) (fits : results_fit area place ≡ true) where
  pub answer_read_lem : (x : Indexed) → Below stopped x → answer_read (returned_indexed x area place) ≡ x
  unfolding results_fit answer_read returned_indexed
  answer_read_lem (hit_at n d i) small =
      hit_read n d i area place (leb-true 4 (length area) (and_first (leb 4 (length area)) (leb 1 (length place)) fits))
      (leb-true 1 (length place) (and_second (leb 4 (length area)) (leb 1 (length place)) fits))
  answer_read_lem no_hit small = refl
  answer_read_lem (stopped number) small =
      let below = small number refl in
      simp (ne_eqb number hit_code (λ same. omega arith), ne_eqb number none_code (λ same. omega arith))

-- ---- the mesh cast
module _ (area : List Float) (place : List ℕ) (r : Ray) (m : Mesh) (pose : List Float) (t : Tree) (list stack : ℕ) where
  mesh_read_lem : results_fit area place ≡ true
      → answer_read (answered_mesh r m pose t list stack area place) ≡ ray_mesh r m pose t list stack
  unfolding answered_mesh
  mesh_read_lem fits =
      ap answer_read (room_there (ray_admitted r && shape_admitted m pose t) (results_fit area place) _ _ fits)
      ∙ answer_read_lem area place fits (ray_mesh r m pose t list stack) (refusals_below_codes.mesh r m pose t list stack)

  -- the three clauses of the call's contract, from the first two
  pub with_demand : (returned : ReturnedIndexed) (Kept : Type 0) → returned ≡ answered_mesh r m pose t list stack area place → Kept
      → (returned ≡ answered_mesh r m pose t list stack area place)
      × (Kept × DemandRead r m pose t list stack area place returned)
  with_demand returned Kept e k = (
    e,
    (
      k,
      λ own admitted fits.
          let is = ap answer_read e ∙ mesh_read_lem fits ∙ ap (λ (vs : List Float). ray_mesh r m vs t list stack) own in
          subst (MeetsDemand r m) (sym is) (demand3 r m t list stack admitted),
    ),
  )

-- ---- the build
-- a place that is not there is not told as done
pub short_undone : (admitted : Bool) (number : ℕ) → number ≡ cond admitted no_room bad_shape → number ≡ done_code → ⊥
short_undone true number e h = omega arith
short_undone false number e h = omega arith

module _ (m : Mesh) (before : Areas) (work : ℕ) (place : List ℕ) (there : 1 ≤ length place) where
  count_read : (p : List ℕ) (k : ℕ) → 1 ≤ length p → word_at (sets p 0 (k ∷ [])) 0 ≡ k
  count_read [] k some = absurd (omega arith)
  count_read (x ∷ p) k some = refl

  nodes_read : (x : Answer) → (build_of m before work).answer ≡ x → (returned_nodes x place).number ≡ done_code
      → (build_of m before work).answer ≡ nodes (word_at (returned_nodes x place).count 0)
  unfolding returned_nodes
  nodes_read (nodes k) e h = e ∙ ap nodes (sym (count_read place k there))
  nodes_read (refused number) e h = absurd (omega (arith, refusals_below_codes.build m before work number e))

  pub built_read : (returned : BuildReturned) → returned ≡ build_returned m before work place → BuiltRead m returned
  unfolding build_returned
  built_read returned e done marks long =
      let whole : returned ≡ record {
        returned = returned_nodes (build_of m before work).answer place;
        after = (build_of m before work).after;
      } =
      e ∙ room_there (lengths_admitted (length m.vertices) (length m.triangles)) (leb 1 (length place)) _ _
      (le-leb 1 (length place) there) in
      let is = nodes_read (build_of m before work).answer refl (sym (ap (λ (b : BuildReturned). b.returned.number) whole) ∙ done) in
      ap (λ (b : BuildReturned). check_of m (tree_in (word_at b.returned.count 0) b.after) marks) whole
      ∙ built_trees_pass m before work _ marks is long

-- ---- the check
module _ (m : Mesh) (t : Tree) (marks : ℕ) where
  verdict_read : (x : Ruling) → check_of m t marks ≡ x → returned_verdict x ≡ yes_code → check_of m t marks ≡ yes
  unfolding returned_verdict
  verdict_read yes e h = e
  verdict_read no e h = absurd (omega arith)
  verdict_read (Verdict.refused number) e h = absurd (omega (arith, refusals_below_codes.check m t marks number e))

  pub yes_read : (number : ℕ) → number ≡ returned_verdict (check_of m t marks) → YesRead m t number
  yes_read number e h = record { marks = marks; says_yes = verdict_read (check_of m t marks) refl (sym e ∙ h) }
