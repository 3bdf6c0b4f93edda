-- What each iteration of `mesh_drill::whole::all_inside` keeps. Assumes nothing.
use Rattle.tree.specs.Mesh.{mesh}
use Rattle.mesh_plain.proofs.Passing.{Fitting}
use Rattle.mesh_drill.proofs.whole.all_inside.Given as goal

abbrev pub invariant-loop-i : goal.invariant-loop-i
invariant-loop-i l = Fitting (mesh l.vertices l.triangles) l.i
