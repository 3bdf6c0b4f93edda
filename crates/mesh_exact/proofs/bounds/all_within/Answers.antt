-- `mesh_exact::bounds::all_within` meets its contract. Assumes nothing.
use mathlib.Core.Bool.{false≢true}
use native.Mathlib.Omega.{arith}
use Rattle.lists.proofs.JoinedTests.{test_passed}
use Rattle.mesh_exact.proofs.Ranges.{passed_begins, passed_goes, passed_ends}
use Rattle.mesh_exact.proofs.bounds.all_within.Goals as goal

pub loop-i-init : goal.loop-i-init
loop-i-init c = passed_begins _

pub vector_at-requires : goal.vector_at-requires
vector_at-requires c = omega (arith, c.loop-i-test.true)

-- one that is out of range
pub returns-then-not-all_within : goal.returns-then-not-all_within
returns-then-not-all_within c h = absurd (false≢true h)

-- one more vertex
pub loop-i-preserved : goal.loop-i-preserved
loop-i-preserved c = passed_goes _ _ c.loop-i.invariant _ c.vector_at.ensures (test_passed c.all_within.ensures c.if-not-all_within.false)

-- all of them
pub returns : goal.returns
returns c h = passed_ends _ _ c.loop-i.invariant (omega arith)
