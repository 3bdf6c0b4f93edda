-- `mesh_drill::whole::each_read` meets its contract. Assumes nothing.
use Rattle.std.proofs.Common.{sym, ap, ◌∙◌, arith}
use Rattle.tree.specs.Mesh.{Mesh, mesh}
use Rattle.exact_triangle.specs.Reach.{corners_read}
use Rattle.lists.proofs.JoinedTests.{test_passed, test_failed}
use Rattle.mesh_drill.proofs.Wholes.{reading_begins, reading_goes, reading_fails, reading_ends, fits_at}
use Rattle.mesh_drill.proofs.whole.each_read.Goals as goal

pub loop-i-init : goal.loop-i-init
loop-i-init c = reading_begins _

pub corners_of-requires : goal.corners_of-requires
corners_of-requires c =
    let own : Mesh =
    mesh c.args.vertices.now c.args.triangles.now in
    (omega (arith, c.loop-i-test.true), fits_at own c.requires.1 c.loop-i.i c.loop-i-test.true)

-- a corner out of range
pub returns-then-not-corners_read : goal.returns-then-not-corners_read
returns-then-not-corners_read c =
    let own : Mesh =
    mesh c.args.vertices.now c.args.triangles.now in
    reading_fails own c.loop-i.i c.loop-i.invariant c.loop-i-test.true
    (sym (ap corners_read c.corners_of.ensures) ∙ test_failed c.corners_read.ensures c.if-not-corners_read.true)

pub loop-i-preserved : goal.loop-i-preserved
loop-i-preserved c =
    let own : Mesh =
    mesh c.args.vertices.now c.args.triangles.now in
    reading_goes own c.loop-i.i c.loop-i.invariant c.loop-i-test.true
    (sym (ap corners_read c.corners_of.ensures) ∙ test_passed c.corners_read.ensures c.if-not-corners_read.false)

pub returns : goal.returns
returns c = reading_ends _ _ c.loop-i.invariant (omega arith)
