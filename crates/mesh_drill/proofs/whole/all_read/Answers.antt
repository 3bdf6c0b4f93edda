-- `mesh_drill::whole::all_read` meets its contract. Assumes nothing.
use Rattle.tree.specs.Mesh.{mesh}
use Rattle.mesh_drill.proofs.Wholes.{all_within_read}
use Rattle.mesh_drill.proofs.whole.all_read.Goals as goal

-- vertices in range
pub returns-then-within : goal.returns-then-within
returns-then-within c = all_within_read (mesh c.args.vertices.now c.args.triangles.now) c.requires.1.1 (c.requires.1.0 c.if-within.true)
