-- `tree::mesh::corner_at` meets its contract. Assumes nothing.
use mathlib.Core.Path.{sym}
use Rattle.tree.specs.Mesh.{corner_at}
use borrow.Author.Rules.{rules}
use Rattle.tree.proofs.mesh.corner_at.Statement.{statement}
use Rattle.tree.proofs.mesh.corner_at.Tie as tie

corner-index-requires : tie.Need-corner_index-vertex-requires
corner-index-requires c κs = search rules

mul-vector-at : tie.Need-overflow_mul-vertex
mul-vector-at c = search rules

vector-at-requires : tie.Need-vector_at-requires
vector-at-requires c κs = search rules

returns : tie.Need-returns
unfolding corner_at
returns c = simp (sym c.corner_index-vertex.ensures) c.vector_at.ensures

pub corner_at_spec : {M : Type 1} → statement M
corner_at_spec =
    tie.close (tie.spec
    corner-index-requires
    mul-vector-at
    vector-at-requires
    returns)
