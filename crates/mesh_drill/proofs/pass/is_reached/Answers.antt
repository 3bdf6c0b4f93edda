-- `mesh_drill::pass::is_reached` meets its contract. Assumes nothing.
use Rattle.tree.specs.Mesh.{Mesh, mesh}
use Rattle.lists.proofs.JoinedTests.{test_passed, test_failed}
use Rattle.mesh_drill.proofs.Passes.{far_off, near_decides}
use Rattle.mesh_drill.proofs.pass.is_reached.Goals as goal

pub returns-then-not-triangle_touches : goal.returns-then-not-triangle_touches
returns-then-not-triangle_touches c =
    let own : Mesh =
    mesh c.args.vertices.now c.args.triangles.now in
    λ l ρ h g e. far_off l ρ own c.args.index c.args.bounds e (test_failed c.triangle_touches.ensures c.if-not-triangle_touches.true)

pub returns : goal.returns
returns c =
    let own : Mesh =
    mesh c.args.vertices.now c.args.triangles.now in
    λ l ρ h g e.
    near_decides l ρ own c.args.index c.args.bounds e (test_passed c.triangle_touches.ensures c.if-not-triangle_touches.false) _
    (c.is_touched.ensures l ρ h g)
