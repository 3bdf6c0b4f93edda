-- `exports::exact::probe_ray_mesh_exact` meets its contract, the agreement with the call without a tree included. Assumes nothing.
use mathlib.Core.Path.{refl, ◌∙◌}
use Rattle.tree.specs.Layout.{Tree, tree_of}
use Rattle.tree.specs.Mesh.{Mesh, mesh}
use Rattle.exports.proofs.Kept.{results_fit_lem, hit_short, index_short, second_failed}
use Rattle.exports.proofs.ExactCalls.{tree_short, tree_returned_lem, with_agreement}
use Rattle.exports.proofs.exact.probe_ray_mesh_exact.Goals as goal

-- the hit slice is too short
pub returns-then-hit-lt4 : goal.returns-then-hit-lt4
returns-then-hit-lt4 c =
    let tree : Tree = tree_of c.args.nodes c.args.node_boxes.now c.args.triangle_boxes.now c.args.node_words.now c.args.order.now in
    let own : Mesh =
    mesh c.args.vertices.now c.args.triangles.now in
    let a = c.args in
    with_agreement a.hit.now a.index.now _ own a.pose.now tree _ _ _
    (tree_short a.hit.now a.index.now _ own a.pose.now tree _ _ _
    (hit_short a.hit.now a.index.now c.if-hit-lt4.true) c.shape_admitted.ensures (c.into.ensures ∙ c.short_exact.ensures))
    (λ _. refl)

-- the index slice is
pub returns-then-index-lt1 : goal.returns-then-index-lt1
returns-then-index-lt1 c =
    let tree : Tree = tree_of c.args.nodes c.args.node_boxes.now c.args.triangle_boxes.now c.args.node_words.now c.args.order.now in
    let own : Mesh =
    mesh c.args.vertices.now c.args.triangles.now in
    let a = c.args in
    with_agreement a.hit.now a.index.now _ own a.pose.now tree _ _ _
    (tree_short a.hit.now a.index.now _ own a.pose.now tree _ _ _
    (index_short a.hit.now a.index.now c.if-hit-lt4.false c.if-index-lt1.true) c.shape_admitted-then-index-lt1.ensures
    (c.into-then-index-lt1.ensures ∙ c.short_exact-then-index-lt1.ensures))
    (λ _. refl)

-- the cast's answer, told
pub returns : goal.returns
returns c =
    let tree : Tree = tree_of c.args.nodes c.args.node_boxes.now c.args.triangle_boxes.now c.args.node_words.now c.args.order.now in
    let own : Mesh =
    mesh c.args.vertices.now c.args.triangles.now in
    let a = c.args in
    let fits = results_fit_lem a.hit.now a.index.now c.if-hit-lt4.false c.if-index-lt1.false in
    let returned = c.ray_mesh_exact-found.ensures in
    with_agreement a.hit.now a.index.now _ own a.pose.now tree _ _ _
    (tree_returned_lem a.hit.now a.index.now _ own a.pose.now tree _ _ _ fits returned.0 c.put_indexed.ensures)
    (λ failed. returned.1.0 (second_failed _ _ fits failed))
