-- `exports::drills::probe_drill` meets its contract, the agreement with the call without a tree included. Assumes nothing.
use mathlib.Core.Path.{refl, ◌∙◌}
use Rattle.tree.specs.Layout.{Tree, tree_of}
use Rattle.tree.specs.Mesh.{Mesh, mesh}
use Rattle.exports.proofs.Kept.{second_failed}
use Rattle.exports.proofs.DrillCalls.{index_there, index_missing, tree_short, tree_returned_lem, with_reading}
use Rattle.exports.proofs.drills.probe_drill.Goals as goal

-- the index slice is too short
pub returns-then-index-lt1 : goal.returns-then-index-lt1
returns-then-index-lt1 c =
    let tree : Tree = tree_of c.args.nodes c.args.node_boxes.now c.args.triangle_boxes.now c.args.node_words.now c.args.order.now in
    let own : Mesh =
    mesh c.args.vertices.now c.args.triangles.now in
    let a = c.args in
    with_reading a.index.now _ _ own tree _ _ _ _
    (tree_short a.index.now _ _ own tree _ _ _ _
    (index_missing a.index.now c.if-index-lt1.true) c.shape_admitted.ensures (c.into.ensures ∙ c.short_drill.ensures))
    (λ _. (refl, refl))

-- the drill's answer
pub returns : goal.returns
returns c =
    let tree : Tree = tree_of c.args.nodes c.args.node_boxes.now c.args.triangle_boxes.now c.args.node_words.now c.args.order.now in
    let own : Mesh =
    mesh c.args.vertices.now c.args.triangles.now in
    let a = c.args in
    let fits = index_there a.index.now c.if-index-lt1.false in
    let returned = c.drill_through-found.ensures in
    with_reading a.index.now _ _ own tree _ _ _ _
    (tree_returned_lem a.index.now _ _ own tree _ _ _ _ fits returned.0 c.put_drill.ensures)
    (λ failed. returned.1.0 (second_failed _ _ fits failed))
