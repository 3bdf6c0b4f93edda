-- What each iteration of `mesh_plain::boxes::all_fit` keeps. Assumes nothing.
use Rattle.tree.specs.Mesh.{mesh}
use Rattle.mesh_plain.proofs.Passing.{Fitting}
use Rattle.mesh_plain.proofs.boxes.all_fit.Given as goal

abbrev pub invariant-loop-i : goal.invariant-loop-i
invariant-loop-i l = Fitting (mesh l.vertices l.triangles) l.i
