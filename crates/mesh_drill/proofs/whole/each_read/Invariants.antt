-- What each iteration of `mesh_drill::whole::each_read` keeps. Assumes nothing.
use Rattle.tree.specs.Mesh.{mesh}
use Rattle.mesh_drill.proofs.Wholes.{Reading}
use Rattle.mesh_drill.proofs.whole.each_read.Given as goal

abbrev pub invariant-loop-i : goal.invariant-loop-i
invariant-loop-i l = Reading (mesh l.vertices l.triangles) l.i
