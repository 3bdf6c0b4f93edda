-- `mesh_plain::boxes::all_fit` meets its contract. Assumes nothing.
use Rattle.std.proofs.Common.{true, false, sym, ap, ◌∙◌, arith}
use Rattle.geometry.specs.Box.{valid_box}
use Rattle.tree.specs.Mesh.{mesh}
use Rattle.lists.proofs.JoinedTests.{test_passed, test_failed}
use Rattle.mesh_plain.proofs.Passing.{fitting_begins, fitting_goes, fitting_fails, fitting_ends, index_unfit, box_tells}
use Rattle.mesh_plain.proofs.boxes.all_fit.Goals as goal

pub loop-i-init : goal.loop-i-init
loop-i-init c = fitting_begins _

-- an index past the vertices
pub returns-then-not-corners_inside : goal.returns-then-not-corners_inside
returns-then-not-corners_inside c =
    let own = mesh c.args.vertices.now c.args.triangles.now in
    let outside = test_failed c.corners_inside.ensures c.if-not-corners_inside.true in
    fitting_fails own _ c.loop-i.invariant c.loop-i-test.true (index_unfit own c.loop-i.i outside)

pub triangle_box-around-requires : goal.triangle_box-around-requires
triangle_box-around-requires c =
    (omega (arith, c.loop-i-test.true), test_passed c.corners_inside.ensures c.if-not-corners_inside.false)

-- a box that is not valid
pub returns-then-not-is_valid : goal.returns-then-not-is_valid
returns-then-not-is_valid c =
    let own = mesh c.args.vertices.now c.args.triangles.now in
    let inside = test_passed c.corners_inside.ensures c.if-not-corners_inside.false in
    let invalid = sym (ap valid_box c.triangle_box-around.ensures) ∙ test_failed c.is_valid.ensures c.if-not-is_valid.true in
    fitting_fails own _ c.loop-i.invariant c.loop-i-test.true (box_tells own c.loop-i.i inside false invalid)

-- one that has a valid box
pub loop-i-preserved : goal.loop-i-preserved
loop-i-preserved c =
    let own = mesh c.args.vertices.now c.args.triangles.now in
    let inside = test_passed c.corners_inside.ensures c.if-not-corners_inside.false in
    let valid = sym (ap valid_box c.triangle_box-around.ensures) ∙ test_passed c.is_valid.ensures c.if-not-is_valid.false in
    fitting_goes own _ c.loop-i.invariant c.loop-i-test.true (box_tells own c.loop-i.i inside true valid)

pub returns : goal.returns
returns c = fitting_ends _ _ c.loop-i.invariant (omega arith)
