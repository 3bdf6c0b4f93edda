-- What each iteration of `mesh_exact::noted::winner_of` keeps. Assumes nothing.
use Rattle.geometry.specs.declared.ray.Ray.{Ray}
use Rattle.nearest_hit.specs.Summary.{says_nearest_so_far}
use Rattle.tree.specs.Mesh.{mesh}
use Rattle.mesh_plain.proofs.Passing.{Fitting}
use Rattle.mesh_exact.specs.GridCast.{exact_answer}
use Rattle.mesh_exact.specs.Noted.{Bounded}
use Rattle.mesh_exact.proofs.Noting.{Noting}
use Rattle.mesh_exact.proofs.noted.winner_of.Given as goal

abbrev pub invariant-loop-i : goal.invariant-loop-i
invariant-loop-i l =
    Fitting (mesh l.vertices l.triangles) l.i
    × ((r : Ray) → Bounded r l.line l.bounds
    → Noting (mesh l.vertices l.triangles) (exact_answer r l.vertices l.triangles) (says_nearest_so_far l.notes) l.i)
