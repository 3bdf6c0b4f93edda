-- Through any tree that passes the check the exact cast answers as without one, whatever it passes over. Assumes nothing.
use Prim.Native.Nat.{ℕ, ◌*◌}
use mathlib.Core.Path.{◌≡◌, refl, ap, ◌∙◌}
use mathlib.Core.Logic.{◌⊎◌, inl, inr}
use mathlib.Core.Bool.{Bool, true, false}
use mathlib.Core.List.{List, [], ◌∷◌}
use native.Mathlib.Omega.{arith}
use lib.Ieee.{Float}
use lib.ListN.{length}
use borrow.Author.Tests.{le-leb, eq-eqb}
use Rattle.lists.specs.Lists.{range}
use Rattle.geometry.specs.Segment.{ray_admitted}
use Rattle.geometry.specs.declared.ray.Ray.{Ray}
use Rattle.casts.specs.Answer.{Answer}
use Rattle.nearest_hit.specs.Nearest.{Indexed, nearest_of}
use Rattle.tree.specs.Layout.{Tree}
use Rattle.tree.specs.Mesh.{Mesh, thirds, triangle_count, lengths_admitted}
use Rattle.tree_check.specs.Check.{tree_passes}
use Rattle.tree_check.proofs.Answers.{yes_passes}
use Rattle.mesh.specs.MeshCast.{shape_admitted}
use Rattle.mesh.specs.Demand3.{PassesCheck}
use Rattle.mesh.proofs.CheckedTree.{Checked, checked_or_empty}
use Rattle.mesh_plain.proofs.Agreement.{yes_lengths, few_nodes, triangles_fit_lem}
use Rattle.exact_triangle.specs.Grid.{grid_admitted, grid_line}
use Rattle.exact_triangle.proofs.Moving.{ray_moves}
use Rattle.geometry.specs.Box.{corners_box}
use Rattle.exact_triangle.proofs.Touching.{met_touches}
use Rattle.mesh_exact.proofs.Ranges.{vector_finite}
use Rattle.tree_exact.specs.WalkDemand.{PassesSafely}
use Rattle.tree_exact.proofs.Finding.{finds_nearest}
use Rattle.tree_exact.specs.Opening.{opens_node}
use Rattle.tree_exact.specs.Order.{left_first}
use Rattle.mesh_exact.specs.GridCast.{exact_answer, over_triangles, ray_mesh_exact_plain}
use Rattle.tree_exact.specs.Numbers.{NoNaN}
use Rattle.tree_exact.specs.ExactMesh.{exact_through, room_for, ray_mesh_exact, AsWithoutTree}
use Rattle.tree_exact.proofs.Safely.{MeetsInBox, passes_safely}
use Rattle.tree_exact.proofs.Answers.{grid_answers, hits_are_numbers}

pub meets_in_box : (r : Ray) → grid_admitted r ≡ true → MeetsInBox (grid_line r)
unfolding corners_box
meets_in_box r read a b c h g f D t on =
    met_touches r read (a ∷ (b ∷ (c ∷ []))) (vector_finite a h) (vector_finite b g) (vector_finite c f) D t on

module _ (r : Ray) (m : Mesh) (t : Tree) (passes : tree_passes m t ≡ true) where
  module _ (admitted : ray_admitted r ≡ true) (read : grid_admitted r ≡ true) (numbered : NoNaN m) where
    abbrev answer : ℕ → Answer
    answer = exact_answer r m.vertices m.triangles

    safely : PassesSafely m t answer (opens_node (grid_line r) t)
    safely = go (checked_or_empty m t passes)
      where
        go : Checked m t ⊎ ((t.node_count ≡ 0) × (triangle_count m ≡ 0)) → PassesSafely m t answer (opens_node (grid_line r) t)
        go (inl c) =
            passes_safely (grid_line r) (ray_moves r admitted) m t c answer (grid_answers r admitted read m numbered c.corners)
            (meets_in_box r read)
        go (inr empty) = λ node s below. absurd (omega (arith, below, empty.0))

    pub casts_agree : exact_through r m.vertices m.triangles t ≡ nearest_of answer (range 0 (triangle_count m))
    unfolding exact_through
    casts_agree =
        finds_nearest m t answer (opens_node (grid_line r) t) (left_first (grid_line r) t)
        (hits_are_numbers r m.vertices m.triangles admitted read) safely passes

  pub shape_admitted_lem : lengths_admitted (length m.vertices) (length m.triangles) ≡ true → shape_admitted m m.vertices t ≡ true
  unfolding shape_admitted
  shape_admitted_lem h = simp (h, le-leb t.node_count (2 * thirds (length m.triangles)) (few_nodes m t passes))

agrees_by : (r : Ray) (m : Mesh) (t : Tree) (stack : ℕ) → PassesCheck m t → NoNaN m → room_for m t stack ≡ true
    → (a : Bool) → ray_admitted r ≡ a → (g : Bool) → grid_admitted r ≡ g
    → ray_mesh_exact r m m.vertices t stack ≡ ray_mesh_exact_plain r m
unfolding ray_mesh_exact ray_mesh_exact_plain over_triangles
agrees_by r m t stack p numbered room false a g e = simp a
agrees_by r m t stack p numbered room true a false e = simp (a, e)
agrees_by r m t stack p numbered room true a true e =
    let passes = yes_passes m t p.marks p.says_yes in
    let lengths = yes_lengths m t p.marks p.says_yes in
    let own = eq-eqb (length m.vertices) (length m.vertices) refl in
    simp (
      a,
      e,
      shape_admitted_lem r m t passes lengths,
      lengths,
      room,
      own,
      triangles_fit_lem m t passes,
      casts_agree r m t passes a e
          numbered,
    )

pub agrees : (r : Ray) (m : Mesh) (t : Tree) (stack : ℕ) → AsWithoutTree r m t stack (ray_mesh_exact r m m.vertices t stack)
agrees r m t stack p numbered room = agrees_by r m t stack p numbered room (ray_admitted r) refl (grid_admitted r) refl

-- the three clauses of the contract: the equation, what is kept, and the agreement
pub with_agreement : (r : Ray) (m : Mesh) (pose : List Float) (t : Tree) (stack : ℕ) (answer : Indexed) (Kept : Type 0)
    → answer ≡ ray_mesh_exact r m pose t stack → Kept
    → (answer ≡ ray_mesh_exact r m pose t stack) × (Kept × (pose ≡ m.vertices → AsWithoutTree r m t stack answer))
with_agreement r m pose t stack answer Kept e k = (
  e,
  (
    k,
    λ own p numbered room.
        e ∙ ap (λ (vs : List Float). ray_mesh_exact r m vs t stack) own ∙ agrees r m t stack p numbered room,
  ),
)
