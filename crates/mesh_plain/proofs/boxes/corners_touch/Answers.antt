-- `mesh_plain::boxes::corners_touch` meets its contract. Assumes nothing.
use mathlib.Core.Path.{◌∙◌}
use Rattle.lists.proofs.JoinedTests.{test_passed, test_failed}
use Rattle.mesh_plain.proofs.BoxTests.{apart_on_x, apart_on_y, by_z}
use Rattle.mesh_plain.proofs.boxes.corners_touch.Goals as goal

-- apart on x
pub returns-then-not-side_touches : goal.returns-then-not-side_touches
returns-then-not-side_touches c = apart_on_x _ _ (test_failed c.side_touches.ensures c.if-not-side_touches.true)

-- apart on y
pub returns-then-not-side_touches-2 : goal.returns-then-not-side_touches-2
returns-then-not-side_touches-2 c =
    apart_on_y _ _ (test_passed c.side_touches.ensures c.if-not-side_touches.false)
    (test_failed c.side_touches-2.ensures c.if-not-side_touches-2.true)

-- and else z decides
pub returns : goal.returns
returns c =
    c.side_touches-3.ensures
    ∙ by_z _ _ (test_passed c.side_touches.ensures c.if-not-side_touches.false)
    (test_passed c.side_touches-2.ensures c.if-not-side_touches-2.false)
