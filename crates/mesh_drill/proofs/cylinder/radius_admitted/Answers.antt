-- `mesh_drill::cylinder::radius_admitted` meets its contract. Assumes nothing.
use Rattle.lists.proofs.JoinedTests.{test_passed, test_failed}
use Rattle.mesh_drill.proofs.Radii.{not_finite, finite_decides}
use Rattle.mesh_drill.proofs.cylinder.radius_admitted.Goals as goal

-- an infinity or NaN
pub returns-then-not-is_finite : goal.returns-then-not-is_finite
returns-then-not-is_finite c = not_finite c.args.radius (test_failed c.is_finite.ensures c.if-not-is_finite.true)

pub returns : goal.returns
returns c = finite_decides c.args.radius (test_passed c.is_finite.ensures c.if-not-is_finite.false)
