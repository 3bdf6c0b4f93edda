-- What each iteration of `tree_exact::walk::find_nearest` keeps. Assumes nothing.
use Prim.Native.Nat.{◌-◌}
use Rattle.tree_exact.proofs.WalkSteps.{WalkSoFar}
use Rattle.tree_exact.proofs.walk.find_nearest.Given as goal

abbrev pub invariant-loop-taken : goal.invariant-loop-taken
invariant-loop-taken l =
    WalkSoFar l.line l.reach l.pose l.triangles l.nodes l.node_boxes l.node_words l.order l.initial.stack l.stack l.top
    (l.nodes - l._taken) l.best
