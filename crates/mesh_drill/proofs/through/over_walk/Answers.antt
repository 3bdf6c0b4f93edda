-- `mesh_drill::through::over_walk` meets its contract. Assumes nothing.
use Rattle.std.proofs.Common.{arith}
use Rattle.tree.specs.Layout.{Tree, tree_of}
use Rattle.tree.specs.Mesh.{Mesh, mesh}
use Rattle.mesh.proofs.Casting.{list_inside}
use Rattle.mesh_drill.proofs.Throughs.{walk_broken, walk_listed}
use Rattle.mesh_drill.proofs.through.over_walk.Goals as goal

pub walk-walked-requires : goal.walk-walked-requires
walk-walked-requires c = (omega (arith, c.requires.1.0), c.requires.1.1)

-- the walk met a 5
pub returns-in_default : goal.returns-in_default
returns-in_default c =
    let tree : Tree =
    let a = c.args in
    tree_of a.nodes a.node_boxes.now a.triangle_boxes.now a.node_words.now a.order.now in
    let own : Mesh =
    mesh c.args.vertices.now c.args.triangles.now in
    λ l ρ h g.
    walk_broken l ρ own tree _ (c.drill_box.ensures l ρ h) _ _ c.walk-walked.ensures.0 c.in_default.is

pub over_list-requires : goal.over_list-requires
over_list-requires c = (list_inside _ _ _ _ _ c.walk-walked.ensures.1 c.in-Some.is, c.requires.0)

-- the first that is touched of those that it listed
pub returns : goal.returns
returns c =
    let tree : Tree =
    let a = c.args in
    tree_of a.nodes a.node_boxes.now a.triangle_boxes.now a.node_words.now a.order.now in
    let own : Mesh =
    mesh c.args.vertices.now c.args.triangles.now in
    λ l ρ h g.
    walk_listed l ρ own tree _ (c.drill_box.ensures l ρ h) _ _ c.walk-walked.ensures.0 _ c.in-Some.is _
    (c.over_list.ensures l ρ h g)
