-- The answer to a mesh: its tree is built, and the ray cast through it. Definitions only. Assumes nothing.
use Rattle.std.specs.Prelude.{cond}
use Rattle.geometry.specs.Segment.{ray_admitted}
use Rattle.geometry.specs.declared.ray.Ray.{Ray}
use Rattle.casts.specs.Answer.{invalid_input}
use Rattle.nearest_hit.specs.Nearest.{Indexed, stopped}
use Rattle.tree.specs.Mesh.{Mesh}
use Rattle.mesh.specs.Through.{through_own_tree}

-- "A mesh's tree is built after checks 1 and 2": check 2 is the build's own first one
unfoldable pub mesh_answer : Ray → Mesh → Indexed
mesh_answer ray m = cond (ray_admitted ray) (through_own_tree ray m) (stopped invalid_input)
