-- `mesh_drill::plain::over_mesh` meets its contract. Assumes nothing.
use Rattle.lists.proofs.JoinedTests.{test_passed, test_failed}
use Rattle.mesh_plain.proofs.Casting.{triangles_few}
use Rattle.mesh_drill.proofs.Answers.{over_unfit, over_unread, over_passed}
use Rattle.mesh_drill.proofs.plain.over_mesh.Goals as goal

pub all_fit-requires : goal.all_fit-requires
all_fit-requires c = (triangles_few _ _ c.requires.1, c.all_within-within.ensures)

-- 5
pub returns-then-not-all_fit : goal.returns-then-not-all_fit
returns-then-not-all_fit c = over_unfit _ _ _ (test_failed c.all_fit.ensures c.if-not-all_fit.true)

pub all_read-requires : goal.all_read-requires
all_read-requires c = (triangles_few _ _ c.requires.1, (c.all_within-within.ensures, test_passed c.all_fit.ensures c.if-not-all_fit.false))

-- 12
pub returns-then-not-all_read : goal.returns-then-not-all_read
returns-then-not-all_read c =
    over_unread _ _ _ (test_passed c.all_fit.ensures c.if-not-all_fit.false) (test_failed c.all_read.ensures c.if-not-all_read.true)

pub over_triangles-requires : goal.over_triangles-requires
over_triangles-requires c = (
  c.requires.0,
  (c.requires.1, (test_passed c.all_fit.ensures c.if-not-all_fit.false, test_passed c.all_read.ensures c.if-not-all_read.false)),
)

pub returns : goal.returns
returns c =
    over_passed _ _ _ (test_passed c.all_fit.ensures c.if-not-all_fit.false) (test_passed c.all_read.ensures c.if-not-all_read.false) _
    c.over_triangles.ensures
