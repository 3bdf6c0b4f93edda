-- `merge::both::areas_fit` meets its contract. Assumes nothing.
use Rattle.std.proofs.Common.{length, arith}
use Rattle.lists.proofs.JoinedTests.{test_passed, test_failed}
use Rattle.merge.specs.Merge.{says_board, areas_of}
use Rattle.merge.proofs.PassedTests.{divided}
use Rattle.merge.proofs.TestsTold.{first_short, second_short, results_told}
use Rattle.merge.proofs.both.areas_fit.Goals as goal

pub tree_fits-requires : goal.tree_fits-requires
tree_fits-requires c = omega (arith, (divided _ _ c.requires).few_triangles)

pub returns-then-not-tree_fits : goal.returns-then-not-tree_fits
returns-then-not-tree_fits c =
    let a = c.args in
    first_short (says_board a.first) (says_board a.second)
    (areas_of a.vertices.now a.triangles.now a.node_boxes.now a.triangle_boxes.now a.node_words.now a.order.now) (length a.marks.now)
    (test_failed c.tree_fits.ensures c.if-not-tree_fits.true)

pub tree_fits-requires-2 : goal.tree_fits-requires-2
tree_fits-requires-2 c = omega (arith, (divided _ _ c.requires).few_triangles)

pub returns-then-not-tree_fits-2 : goal.returns-then-not-tree_fits-2
returns-then-not-tree_fits-2 c =
    let a = c.args in
    second_short (says_board a.first) (says_board a.second)
    (areas_of a.vertices.now a.triangles.now a.node_boxes.now a.triangle_boxes.now a.node_words.now a.order.now) (length a.marks.now)
    (test_passed c.tree_fits.ensures c.if-not-tree_fits.false) (test_failed c.tree_fits-2.ensures c.if-not-tree_fits-2.true)

pub results_fit-requires : goal.results_fit-requires
results_fit-requires c = omega (arith, (divided _ _ c.requires).few_triangles)

pub returns : goal.returns
returns c =
    let a = c.args in
    results_told (says_board a.first) (says_board a.second)
    (areas_of a.vertices.now a.triangles.now a.node_boxes.now a.triangle_boxes.now a.node_words.now a.order.now) (length a.marks.now)
    (test_passed c.tree_fits.ensures c.if-not-tree_fits.false) (test_passed c.tree_fits-2.ensures c.if-not-tree_fits-2.false)
    c.results_fit.result c.results_fit.ensures
