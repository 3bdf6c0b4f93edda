-- What each iteration of `tree_exact::walk::note_leaf` keeps. Assumes nothing.
use Rattle.tree_exact.proofs.WalkSteps.{LeafSoFar}
use Rattle.tree_exact.proofs.walk.note_leaf.Given as goal

abbrev pub invariant-loop-place : goal.invariant-loop-place
invariant-loop-place l = LeafSoFar l.line l.reach l.pose l.triangles l.order l.start l.end l.initial.found l.found l.place
