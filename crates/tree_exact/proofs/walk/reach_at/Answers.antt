-- `tree_exact::walk::reach_at` meets its contract. Assumes nothing.
use Rattle.lists.proofs.JoinedTests.{test_passed, test_failed}
use Rattle.tree_exact.proofs.Answers.{outside_refused}
use Rattle.tree_exact.proofs.walk.reach_at.Goals as goal

-- an index past the vertices
pub returns-then-not-corners_inside : goal.returns-then-not-corners_inside
returns-then-not-corners_inside c =
    λ ray on. outside_refused ray c.args.pose.now c.args.triangles.now c.args.index
    (test_failed c.corners_inside.ensures c.if-not-corners_inside.true)

pub reach_of-requires : goal.reach_of-requires
reach_of-requires c = ((c.requires.1, test_passed c.corners_inside.ensures c.if-not-corners_inside.false), c.requires.0)

-- a triangle of the mesh
pub returns : goal.returns
returns c = c.reach_of.ensures
