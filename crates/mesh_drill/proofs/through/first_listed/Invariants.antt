-- What each iteration of `mesh_drill::through::first_listed` keeps. Assumes nothing.
use Rattle.std.proofs.Common.{ℕ}
use Rattle.tree.specs.Mesh.{mesh}
use Rattle.exact_triangle.specs.Line.{Line}
use Rattle.drill.specs.Code.{Drills}
use Rattle.mesh_drill.specs.Code.{Runs}
use Rattle.mesh_drill.specs.Through.{drilled_at}
use Rattle.mesh_drill.proofs.Listings.{Listing}
use Rattle.mesh_drill.proofs.through.first_listed.Given as goal

abbrev pub invariant-loop-i : goal.invariant-loop-i
invariant-loop-i l =
    (m : Line) (ρ : ℕ) → Drills l.drill m ρ → Runs m → Listing (drilled_at m ρ (mesh l.vertices l.triangles)) l.list l.found l.i
