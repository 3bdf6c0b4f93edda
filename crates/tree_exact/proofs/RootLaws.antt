-- A ray whose segment is apart from the root's box misses. Assumes nothing.
use Prim.Native.Nat.{ℕ, suc, ◌-◌, ◌<◌}
use mathlib.Core.Path.{◌≡◌, refl, sym, ap, subst, ◌∙◌}
use mathlib.Core.Bool.{true, false}
use mathlib.Core.List.{List, [], ◌∷◌}
use native.Mathlib.Omega.{arith}
use lib.Ieee.{Float}
use lib.ListN.{length}
use Rattle.geometry.specs.Box.{touches}
use Rattle.geometry.specs.declared.aabb.Aabb.{Aabb}
use Rattle.geometry.specs.declared.ray.Ray.{Ray}
use Rattle.casts.specs.Answer.{Answer}
use Rattle.nearest_hit.specs.Nearest.{no_hit}
use Rattle.nearest_hit.specs.Summary.{nothing, winner_of, winner, answer_at}
use Rattle.tree.specs.Layout.{Tree, box_at}
use Rattle.tree.specs.Mesh.{thirds}
use Rattle.exact_triangle.specs.Grid.{grid_line}
use Rattle.exact_triangle.specs.Box.{certain_box}
use Rattle.mesh_exact.specs.GridCast.{exact_answer}
use Rattle.tree_exact.specs.Onward.{Standing}
use Rattle.tree_exact.specs.Opening.{limit_of, box_read, box_met, opens_node}
use Rattle.tree_exact.specs.Order.{left_first}
use Rattle.tree_exact.specs.ExactMesh.{exact_through}
use Rattle.tree_exact.specs.AtRoot.{MissesRoot}
use Rattle.tree_exact.proofs.BoxSteps.{apart_met}
use Rattle.tree_exact.proofs.Standings.{stands_first, node_tests, node_passes, stands_ended}

answers_none : (answer : ℕ → Answer) → no_hit ≡ answer_at answer (winner nothing)
unfolding answer_at winner_of
answers_none answer = refl

module _ (reach : Aabb) (nodes : ℕ) (boxes : List Float) (some : 0 < nodes) (b : Aabb) (is : b ≡ box_at boxes 0)
    (apart : touches b reach ≡ false) (read : box_read b ≡ true) where
  shut : (r : Ray) → reach ≡ certain_box (grid_line r) → (t : Tree) → t.node_boxes ≡ boxes → opens_node (grid_line r) t 0 nothing ≡ false
  unfolding opens_node
  shut r box t boxed =
      let l = grid_line r in
      let limit = limit_of l nothing.least in
      ap (box_met l limit) (ap (λ (xs : List Float). box_at xs 0) boxed ∙ sym is) ∙ sym (apart_met l limit b reach box apart (sym read))

  -- the walk takes the root, and ends
  pub apart_misses : MissesRoot reach nodes boxes
  unfolding exact_through
  apart_misses = record {
    missed = λ r box pose triangles t counted boxed.
        let n = thirds (length triangles) in
        let answer = exact_answer r pose triangles in
        let opens = opens_node (grid_line r) t in
        let lf = left_first (grid_line r) t in
        let k = t.node_count - 1 in
        let there : 0 < t.node_count = omega (arith, some, counted) in
        let again : t.node_count ≡ suc k = omega (arith, there) in
        let begun = subst (λ (j : ℕ). Standing t n answer opens lf j [] (0 ∷ []) nothing) again (stands_first t n answer opens lf there) in
        let tests = node_tests t n answer opens lf k 0 [] nothing begun there in
        let passed = node_passes t n answer opens lf k 0 [] nothing tests (shut r box t boxed) in
        answers_none answer ∙ stands_ended t n answer opens lf k nothing passed;
  }
