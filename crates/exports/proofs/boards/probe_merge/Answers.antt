-- `exports::boards::probe_merge` meets its contract. Assumes nothing.
use mathlib.Core.Bool.{true}
use mathlib.Core.Path.{◌≡◌, refl, ◌∙◌}
use Rattle.lists.proofs.JoinedTests.{test_passed, test_failed}
use Rattle.merge.specs.Merge.{Board, Areas, board_of, areas_of, shapes_admitted}
use Rattle.exports.proofs.BoardCalls.{returned_bad, returned_short, returned_merged_lem, marks_kept, merged_count}
use Rattle.exports.proofs.boards.probe_merge.Goals as goal

-- 2
pub returns-then-not-shapes_fit : goal.returns-then-not-shapes_fit
unfolding shapes_admitted
returns-then-not-shapes_fit c =
    let p = c.args in
    let one = board_of p.first_vertices.now p.first_triangles.now p.first_nodes p.first_node_boxes.now
    p.first_triangle_boxes.now p.first_node_words.now p.first_order.now in
    let other = board_of p.second_vertices.now p.second_triangles.now p.second_nodes p.second_node_boxes.now
    p.second_triangle_boxes.now p.second_node_words.now p.second_order.now in
    let old = areas_of p.vertices.now p.triangles.now p.node_boxes.now p.triangle_boxes.now p.node_words.now p.order.now in
    let returned = returned_bad one other old _ p.nodes.now (test_failed c.shapes_fit.ensures c.if-not-shapes_fit.true) in
    rw c.into.ensures record { order_after = returned.0; marks_unchanged = λ _. refl; glued = returned.1 }

-- 3, the place of the node count
pub returns-then-nodes-lt1 : goal.returns-then-nodes-lt1
unfolding shapes_admitted
returns-then-nodes-lt1 c =
    let p = c.args in
    let one = board_of p.first_vertices.now p.first_triangles.now p.first_nodes p.first_node_boxes.now
    p.first_triangle_boxes.now p.first_node_words.now p.first_order.now in
    let other = board_of p.second_vertices.now p.second_triangles.now p.second_nodes p.second_node_boxes.now
    p.second_triangle_boxes.now p.second_node_words.now p.second_order.now in
    let old = areas_of p.vertices.now p.triangles.now p.node_boxes.now p.triangle_boxes.now p.node_words.now p.order.now in
    let shapes : shapes_admitted one other ≡ true = test_passed c.shapes_fit.ensures c.if-not-shapes_fit.false in
    let returned = returned_short one other old _ p.nodes.now shapes c.if-nodes-lt1.true in
    rw c.into-then-nodes-lt1.ensures record { order_after = returned.0; marks_unchanged = λ _. refl; glued = returned.1 }

-- the merge's answer, told
pub returns : goal.returns
unfolding shapes_admitted
returns c =
    let p = c.args in
    let one = board_of p.first_vertices.now p.first_triangles.now p.first_nodes p.first_node_boxes.now
    p.first_triangle_boxes.now p.first_node_words.now p.first_order.now in
    let other = board_of p.second_vertices.now p.second_triangles.now p.second_nodes p.second_node_boxes.now
    p.second_triangle_boxes.now p.second_node_words.now p.second_order.now in
    let old = areas_of p.vertices.now p.triangles.now p.node_boxes.now p.triangle_boxes.now p.node_words.now p.order.now in
    let place = p.nodes.now in
    let shapes : shapes_admitted one other ≡ true = test_passed c.shapes_fit.ensures c.if-not-shapes_fit.false in
    let returned =
    returned_merged_lem one other old _ place shapes c.if-nodes-lt1.false _ _ _ c.merge-merged.ensures.order_after
    (c.put_count.ensures.nodes ∙ merged_count _ _) in
    record {
      order_after = returned.0;
      marks_unchanged = λ failed. c.merge-merged.ensures.marks_unchanged (marks_kept one other old _ place shapes failed
          c.if-nodes-lt1.false);
      glued = returned.1;
    }
