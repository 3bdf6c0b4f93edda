-- `merge::merging::merge` meets its contract. Assumes nothing.
use Rattle.std.proofs.Common.{length}
use Rattle.lists.proofs.JoinedTests.{test_passed, test_failed}
use Rattle.merge.specs.Merge.{says_board, areas_of, shapes_admitted}
use Rattle.merge.proofs.TestsPassed.{shape_refused, room_refused, tree_refused, ready, tests_told, checkable, outcome_is}
use Rattle.merge.proofs.merging.merge.Goals as goal

-- 2
pub returns-then-not-shapes_fit-clause-order_after : goal.returns-then-not-shapes_fit-clause-order_after
unfolding shapes_admitted
returns-then-not-shapes_fit-clause-order_after c =
    let a = c.args in
    shape_refused (says_board a.first) (says_board a.second)
    (areas_of a.vertices.now a.triangles.now a.node_boxes.now a.triangle_boxes.now a.node_words.now a.order.now) (length a.marks.now)
    (test_failed c.shapes_fit.ensures c.if-not-shapes_fit.true)

pub areas_fit-requires : goal.areas_fit-requires
unfolding shapes_admitted
areas_fit-requires c = test_passed c.shapes_fit.ensures c.if-not-shapes_fit.false

-- 3
pub returns-then-not-areas_fit-clause-order_after : goal.returns-then-not-areas_fit-clause-order_after
unfolding shapes_admitted
returns-then-not-areas_fit-clause-order_after c =
    let a = c.args in
    room_refused (says_board a.first) (says_board a.second)
    (areas_of a.vertices.now a.triangles.now a.node_boxes.now a.triangle_boxes.now a.node_words.now a.order.now) (length a.marks.now)
    (test_passed c.shapes_fit.ensures c.if-not-shapes_fit.false) (test_failed c.areas_fit.ensures c.if-not-areas_fit.true)

pub both_pass-requires : goal.both_pass-requires
unfolding shapes_admitted
both_pass-requires c =
    let a = c.args in
    checkable (says_board a.first) (says_board a.second)
    (areas_of a.vertices.now a.triangles.now a.node_boxes.now a.triangle_boxes.now a.node_words.now a.order.now) (length a.marks.now)
    (test_passed c.shapes_fit.ensures c.if-not-shapes_fit.false) (test_passed c.areas_fit.ensures c.if-not-areas_fit.false)

-- 5
pub returns-then-not-both_pass-clause-order_after : goal.returns-then-not-both_pass-clause-order_after
unfolding shapes_admitted
returns-then-not-both_pass-clause-order_after c =
    let a = c.args in
    tree_refused (says_board a.first) (says_board a.second)
    (areas_of a.vertices.now a.triangles.now a.node_boxes.now a.triangle_boxes.now a.node_words.now a.order.now) (length a.marks.now)
    (test_passed c.shapes_fit.ensures c.if-not-shapes_fit.false) (test_passed c.areas_fit.ensures c.if-not-areas_fit.false)
    (test_failed c.both_pass.ensures c.if-not-both_pass.true)

pub returns-then-not-both_pass-clause-marks_unchanged : goal.returns-then-not-both_pass-clause-marks_unchanged
unfolding shapes_admitted
returns-then-not-both_pass-clause-marks_unchanged c = λ failed.
    let a = c.args in
    absurd (tests_told (says_board a.first) (says_board a.second)
    (areas_of a.vertices.now a.triangles.now a.node_boxes.now a.triangle_boxes.now a.node_words.now a.order.now) (length a.marks.now)
    (test_passed c.shapes_fit.ensures c.if-not-shapes_fit.false) (test_passed c.areas_fit.ensures c.if-not-areas_fit.false) failed)

pub glue-count-requires : goal.glue-count-requires
unfolding shapes_admitted
glue-count-requires c =
    let a = c.args in
    ready (says_board a.first) (says_board a.second)
    (areas_of a.vertices.now a.triangles.now a.node_boxes.now a.triangle_boxes.now a.node_words.now a.order.now) (length a.marks.now)
    (test_passed c.shapes_fit.ensures c.if-not-shapes_fit.false) (test_passed c.areas_fit.ensures c.if-not-areas_fit.false)
    (test_passed c.both_pass.ensures c.if-not-both_pass.false)

-- the boards glued
pub returns-clause-order_after : goal.returns-clause-order_after
unfolding shapes_admitted
returns-clause-order_after c =
    let a = c.args in
    outcome_is (says_board a.first) (says_board a.second)
    (areas_of a.vertices.now a.triangles.now a.node_boxes.now a.triangle_boxes.now a.node_words.now a.order.now) (length a.marks.now)
    c.glue-count.result _ (test_passed c.shapes_fit.ensures c.if-not-shapes_fit.false)
    (test_passed c.areas_fit.ensures c.if-not-areas_fit.false) (test_passed c.both_pass.ensures c.if-not-both_pass.false)
    c.glue-count.ensures.0 c.glue-count.ensures.1

pub returns-clause-marks_unchanged : goal.returns-clause-marks_unchanged
unfolding shapes_admitted
returns-clause-marks_unchanged c = λ failed.
    let a = c.args in
    absurd (tests_told (says_board a.first) (says_board a.second)
    (areas_of a.vertices.now a.triangles.now a.node_boxes.now a.triangle_boxes.now a.node_words.now a.order.now) (length a.marks.now)
    (test_passed c.shapes_fit.ensures c.if-not-shapes_fit.false) (test_passed c.areas_fit.ensures c.if-not-areas_fit.false) failed)
