-- What each iteration of `mesh_plain::boxes::all_finite` keeps. Assumes nothing.
use Rattle.mesh_plain.proofs.FiniteSums.{Summed}
use Rattle.mesh_plain.proofs.boxes.all_finite.Given as goal

abbrev pub invariant-loop-i : goal.invariant-loop-i
invariant-loop-i l = Summed l.vertices l.sum l.i
