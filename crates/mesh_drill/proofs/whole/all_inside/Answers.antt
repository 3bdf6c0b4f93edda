-- `mesh_drill::whole::all_inside` meets its contract. Assumes nothing.
use Rattle.std.proofs.Common.{true, arith}
use Rattle.tree.specs.Mesh.{Mesh, mesh}
use Rattle.lists.proofs.JoinedTests.{test_passed, test_failed}
use Rattle.mesh_plain.proofs.Passing.{fitting_begins, fitting_goes, fitting_fails, fitting_ends, index_unfit, box_tells}
use Rattle.mesh_exact.proofs.Ranges.{within_hold}
use Rattle.mesh_drill.proofs.whole.all_inside.Goals as goal

pub loop-i-init : goal.loop-i-init
loop-i-init c = fitting_begins _

pub corners_inside-requires : goal.corners_inside-requires
corners_inside-requires c = omega (arith, c.loop-i-test.true)

-- an index past the vertices
pub returns-then-not-corners_inside : goal.returns-then-not-corners_inside
returns-then-not-corners_inside c =
    let own : Mesh =
    mesh c.args.vertices.now c.args.triangles.now in
    let outside = test_failed c.corners_inside.ensures c.if-not-corners_inside.true in
    fitting_fails own _ c.loop-i.invariant c.loop-i-test.true (index_unfit own c.loop-i.i outside)

-- one more, whose box is valid
pub loop-i-preserved : goal.loop-i-preserved
loop-i-preserved c =
    let own : Mesh =
    mesh c.args.vertices.now c.args.triangles.now in
    let inside = test_passed c.corners_inside.ensures c.if-not-corners_inside.false in
    let valid = (within_hold own c.requires.1).each c.loop-i.i c.loop-i-test.true inside in
    fitting_goes own _ c.loop-i.invariant c.loop-i-test.true (box_tells own c.loop-i.i inside true valid)

pub returns : goal.returns
returns c = fitting_ends _ _ c.loop-i.invariant (omega arith)
