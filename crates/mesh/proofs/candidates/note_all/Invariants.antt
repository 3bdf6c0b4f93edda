-- What each iteration of `mesh::candidates::note_all` keeps: what is left of the notes gives the whole. Assumes nothing.
use Rattle.mesh.proofs.Folding.{Folding}
use Rattle.nearest_hit.specs.Summary.{says_nearest_so_far}
use Rattle.tree.specs.Mesh.{triangle_answer}
use Rattle.mesh.proofs.candidates.note_all.Given as goal

abbrev pub invariant-loop-index : goal.invariant-loop-index
invariant-loop-index l =
    Folding (triangle_answer l.ray l.pose l.triangles) l.list l.found (says_nearest_so_far l.notes) l.index-index
