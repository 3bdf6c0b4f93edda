-- What each iteration of `mesh_plain::cast::cast_all` keeps. Assumes nothing.
use Rattle.nearest_hit.specs.Deferred.{says_near, HitMeasured}
use Rattle.tree.specs.Mesh.{mesh}
use Rattle.mesh_plain.proofs.Passing.{Passing}
use Rattle.mesh_plain.proofs.cast.cast_all.Given as goal

abbrev pub invariant-loop-i : goal.invariant-loop-i
invariant-loop-i l = Passing l.ray l.bounds (mesh l.vertices l.triangles) (says_near l.best) l.i × HitMeasured l.best
