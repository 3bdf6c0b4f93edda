-- `mesh_plain::cast::over_triangles` meets its contract. Assumes nothing.
use Rattle.tree.specs.Mesh.{mesh}
use Rattle.mesh_plain.proofs.Passing.{unfit_over}
use Rattle.mesh_plain.proofs.cast.over_triangles.Goals as goal

-- a triangle without a valid box
pub returns-then-not-boxes_hold : goal.returns-then-not-boxes_hold
returns-then-not-boxes_hold c =
    unfit_over _ _ (mesh c.args.vertices.now c.args.triangles.now)
    (c.boxes_hold.ensures.triangles_value c.if-not-boxes_hold.true)

pub cast_all-requires : goal.cast_all-requires
cast_all-requires c = (c.requires, (c.boxes_hold.ensures.boxes_hold c.if-not-boxes_hold.false, c.coded-told.ensures))
