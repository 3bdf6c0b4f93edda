-- `mesh_drill::through::over_tree` meets its contract. Assumes nothing.
use Rattle.std.proofs.Common.{refl}
use Rattle.tree.specs.Layout.{Tree, tree_of}
use Rattle.tree.specs.Mesh.{Mesh, mesh}
use Rattle.lists.proofs.JoinedTests.{test_passed, test_failed}
use Rattle.mesh_plain.proofs.Casting.{triangles_few}
use Rattle.mesh_drill.proofs.Throughs.{root_out, root_in}
use Rattle.mesh_drill.proofs.Answers.{runs}
use Rattle.mesh_drill.proofs.through.over_tree.Goals as goal

-- the first node's box is out of range
pub returns-then-not-root_read : goal.returns-then-not-root_read
returns-then-not-root_read c =
    let tree : Tree =
    let a = c.args in
    tree_of a.nodes a.node_boxes.now a.triangle_boxes.now a.node_words.now a.order.now in
    let own : Mesh =
    mesh c.args.vertices.now c.args.triangles.now in
    root_out c.args.ray c.args.radius own tree
    (test_failed (c.root_read.ensures tree refl refl) c.if-not-root_read.true) _ c.over_mesh.ensures

pub over_walk-requires : goal.over_walk-requires
over_walk-requires c = (c.cylinder_of.ensures.1, (triangles_few _ _ c.requires.1.0, c.requires.1.1))

-- through the tree
pub returns : goal.returns
returns c =
    let tree : Tree =
    let a = c.args in
    tree_of a.nodes a.node_boxes.now a.triangle_boxes.now a.node_words.now a.order.now in
    let own : Mesh =
    mesh c.args.vertices.now c.args.triangles.now in
    root_in c.args.ray c.args.radius own tree
    (test_passed (c.root_read.ensures tree refl refl) c.if-not-root_read.false) _
    (c.over_walk.ensures _ _ c.cylinder_of.ensures.0 (runs c.args.ray c.args.radius c.requires.0))
