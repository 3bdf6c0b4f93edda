-- `mesh_plain::cast::cast_all` meets its contract. Assumes nothing.
use Rattle.std.proofs.Common.{◌+◌, true, refl, sym, ap, subst, ◌∙◌, arith}
use Rattle.nearest_hit.specs.Nearest.{next_of}
use Rattle.nearest_hit.specs.Deferred.{faced_indexed, says_near, HitMeasured}
use Rattle.tree.specs.Mesh.{mesh}
use Rattle.lists.proofs.JoinedTests.{test_passed, test_failed}
use Rattle.mesh_plain.proofs.Passing.{Passing, passing_begins, passing_near, passing_far, passing_unfit, passing_ends}
use Rattle.mesh_plain.proofs.Passing.{index_unfit, box_tells, corners_cast, corners_near}
use Rattle.mesh_plain.proofs.cast.cast_all.Goals as goal
use Rattle.mesh_plain.proofs.cast.cast_all.Goals.{then-triangle_touches, else-triangle_touches}

pub loop-i-init : goal.loop-i-init
loop-i-init c = (passing_begins _ _ _, refl)

-- an index past the vertices
pub returns-then-not-corners_inside : goal.returns-then-not-corners_inside
returns-then-not-corners_inside c =
    let own = mesh c.args.vertices.now c.args.triangles.now in
    let outside = test_failed c.corners_inside.ensures c.if-not-corners_inside.true in
    passing_unfit _ _ own _ _ c.loop-i.invariant.0 c.loop-i-test.true (index_unfit own c.loop-i.i outside)

pub triangle_touches-requires : goal.triangle_touches-requires
triangle_touches-requires c =
    ((omega (arith, c.loop-i-test.true), test_passed c.corners_inside.ensures c.if-not-corners_inside.false), c.requires.1.1)

pub corners_of-corners-requires : goal.corners_of-corners-requires
corners_of-corners-requires c =
    (omega (arith, c.loop-i-test.true), test_passed c.corners_inside.ensures c.if-not-corners_inside.false)

pub loop-i-preserved : goal.loop-i-preserved
loop-i-preserved c =
    let own = mesh c.args.vertices.now c.args.triangles.now in
    let inside = test_passed c.corners_inside.ensures c.if-not-corners_inside.false in
    let valid = c.requires.1.0.each c.loop-i.i c.loop-i-test.true inside in
    let fit = box_tells own c.loop-i.i inside true valid in
    let near = c.triangle_touches.ensures ∙ corners_near own c.loop-i.i c.args.ray c.args.bounds in
    elim c.if-triangle_touches.branch [
      | then-triangle_touches w ↦ (
        passing_near _ _ own _ _ c.loop-i.invariant.0 c.loop-i-test.true fit (sym near ∙ w.if-triangle_touches.true)
            (says_near c.if-triangle_touches.best)
            (ap (λ x. faced_indexed c.args.ray (says_near x)) w.best-is ∙ w.next_deferred-best.ensures.result_value
            ∙ ap (next_of _ _) (corners_cast own c.loop-i.i inside _ w.corners_of-corners.ensures c.args.ray c.args.bounds)),
        subst HitMeasured (sym w.best-is) (w.next_deferred-best.ensures.hit_measured c.loop-i.invariant.1),
      )
      | else-triangle_touches w ↦ (
        subst (λ x. Passing c.args.ray c.args.bounds own (says_near x) (c.loop-i.i + 1)) (sym w.best-is)
            (passing_far _ _ own _ _ c.loop-i.invariant.0 c.loop-i-test.true fit (sym near ∙ w.if-triangle_touches.false)),
        subst HitMeasured (sym w.best-is) c.loop-i.invariant.1,
      )
    ]

pub returns : goal.returns
returns c = passing_ends _ _ _ _ _ c.loop-i.invariant.0 (omega arith) _ c.with_normal.ensures
