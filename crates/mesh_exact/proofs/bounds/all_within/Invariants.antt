-- What each iteration of `mesh_exact::bounds::all_within` keeps. Assumes nothing.
use Rattle.mesh_exact.proofs.Ranges.{Passed}
use Rattle.mesh_exact.proofs.bounds.all_within.Given as goal

abbrev pub invariant-loop-i : goal.invariant-loop-i
invariant-loop-i l = Passed l.vertices l.i
