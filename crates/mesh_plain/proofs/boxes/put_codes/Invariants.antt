-- What each iteration of `mesh_plain::boxes::put_codes` keeps. Assumes nothing.
use Rattle.mesh_plain.proofs.CodeLaws.{Coding}
use Rattle.mesh_plain.proofs.boxes.put_codes.Given as goal

abbrev pub invariant-loop-i : goal.invariant-loop-i
invariant-loop-i l = Coding l.bounds l.vertices l.fn.codes l.codes l.i
