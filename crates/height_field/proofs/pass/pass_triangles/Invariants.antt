-- What was found is what the triangles so far give.
use Rattle.std.proofs.Common.{◌≡◌}
use Rattle.nearest_hit.specs.Nearest.{says_indexed}
use Rattle.height_field.specs.Pass.{pass_triangles}
use Rattle.height_field.proofs.pass.pass_triangles.Given as goal

abbrev pub invariant-loop-triangle : goal.invariant-loop-triangle
invariant-loop-triangle l =
    says_indexed l.found ≡ pass_triangles l.ray l.bounds l.lower l.upper l.feature (says_indexed l.initial.found) l.triangle
