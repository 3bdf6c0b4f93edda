-- `tree_build::build::build` meets its contract: a refusal for each of the two tests, and past them what `grow` gives.
-- Assumes nothing.
use Rattle.std.proofs.Common.{refl, sym, ◌∙◌, length}
use Rattle.tree.specs.Mesh.{mesh, triangle_count}
use Rattle.tree.specs.Layout.{areas}
use Rattle.tree_build.specs.Build.{room_for, build_tests, tests_pass}
use Rattle.lists.proofs.JoinedTests.{test_passed, test_failed}
use Rattle.lists.proofs.RefusalLaws.{tests_passed}
use Rattle.tree_build.proofs.Outcomes.{count_admitted, lengths_refused, room_refused, nodes_returned, refusal_returned, zeroed_same}
use Rattle.tree_build.proofs.build.build.Goals as goal

-- the lengths are not admitted
pub returns-then-not-lengths_admitted : goal.returns-then-not-lengths_admitted
returns-then-not-lengths_admitted c =
    (lengths_refused _ _ _ (test_failed c.lengths_admitted.ensures c.if-not-lengths_admitted.true), λ _. refl)

pub has_room-requires : goal.has_room-requires
has_room-requires c = count_admitted _ _ (test_passed c.lengths_admitted.ensures c.if-not-lengths_admitted.false)

-- an area is too short
pub returns-then-not-has_room : goal.returns-then-not-has_room
returns-then-not-has_room c =
    let a = c.args in
    let m = mesh a.vertices.now a.triangles.now in
    let lent = areas a.node_boxes.now a.triangle_boxes.now a.node_words.now a.order.now in
    let admitted = test_passed c.lengths_admitted.ensures c.if-not-lengths_admitted.false in
    let short = test_failed {b = room_for (triangle_count m) lent (length a.work.now)} c.has_room.ensures c.if-not-has_room.true in
    (room_refused m lent _ admitted short, λ _. refl)

-- `grow` refused, and `zero_areas` cleared what it left
pub returns-then-is_err : goal.returns-then-is_err
unfolding tests_pass
returns-then-is_err c =
    let a = c.args in
    let m = mesh a.vertices.now a.triangles.now in
    let lent = areas a.node_boxes.now a.triangle_boxes.now a.node_words.now a.order.now in
    let admitted = test_passed c.lengths_admitted.ensures c.if-not-lengths_admitted.false in
    let roomy = test_passed {b = room_for (triangle_count m) lent (length a.work.now)} c.has_room.ensures c.if-not-has_room.false in
    let left = c.grow-built.new in
    let same = c.grow-built.auto in
    let as_long = zeroed_same (areas left.node_boxes left.triangle_boxes left.node_words left.order) lent same.node_boxes
    same.triangle_boxes same.node_words same.order in (
      refusal_returned m lent _ admitted roomy _ c.grow-built.ensures.0 _ (sym c.is_err.ensures.value ∙ c.if-is_err.true)
          (c.zero_areas.ensures ∙ as_long),
      λ failed. absurd (tests_passed (build_tests m lent (length a.work.now)) (admitted, roomy) failed),
    )

-- `grow` wrote the tree
pub returns-else-is_err : goal.returns-else-is_err
unfolding tests_pass
returns-else-is_err c =
    let a = c.args in
    let m = mesh a.vertices.now a.triangles.now in
    let lent = areas a.node_boxes.now a.triangle_boxes.now a.node_words.now a.order.now in
    let admitted = test_passed c.lengths_admitted.ensures c.if-not-lengths_admitted.false in
    let roomy = test_passed {b = room_for (triangle_count m) lent (length a.work.now)} c.has_room.ensures c.if-not-has_room.false in (
      nodes_returned m lent _ admitted roomy _ c.grow-built.ensures.0 _ (sym c.is_err.ensures.value ∙ c.if-is_err.false)
          c.grow-built.ensures.1,
      λ failed. absurd (tests_passed (build_tests m lent (length a.work.now)) (admitted, roomy) failed),
    )
