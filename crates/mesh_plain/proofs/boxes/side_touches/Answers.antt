-- `mesh_plain::boxes::side_touches` meets its contract. Assumes nothing.
use mathlib.Core.Path.{sym}
use Rattle.lists.proofs.JoinedTests.{test_passed, test_failed}
use Rattle.mesh_plain.proofs.boxes.side_touches.Goals as goal

pub returns-then-not-one_at_most : goal.returns-then-not-one_at_most
returns-then-not-one_at_most c = simp (test_failed c.one_at_most.ensures c.if-not-one_at_most.true)

pub returns : goal.returns
returns c = simp (test_passed c.one_at_most.ensures c.if-not-one_at_most.false, sym c.one_at_least.ensures)
