-- What each iteration of `mesh_drill::pass::first_touched` keeps. Assumes nothing.
use Rattle.std.proofs.Common.{◌≡◌, ℕ}
use Rattle.tree.specs.Mesh.{mesh}
use Rattle.exact_triangle.specs.Line.{Line}
use Rattle.drill.specs.Box.{drill_box}
use Rattle.drill.specs.Code.{Drills}
use Rattle.mesh_drill.specs.Code.{Runs}
use Rattle.mesh_drill.proofs.Passes.{Passing}
use Rattle.mesh_drill.proofs.pass.first_touched.Given as goal

abbrev pub invariant-loop-i : goal.invariant-loop-i
invariant-loop-i l =
    (m : Line) (ρ : ℕ) → Drills l.drill m ρ → Runs m → l.bounds ≡ drill_box m ρ → Passing m ρ (mesh l.vertices l.triangles) l.i
