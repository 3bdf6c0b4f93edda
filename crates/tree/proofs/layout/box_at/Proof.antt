-- `tree::layout::box_at` meets its contract. Assumes nothing.
use mathlib.Core.Path.{sym}
use Rattle.tree.specs.Layout.{box_at}
use borrow.Author.Rules.{rules}
use Rattle.tree.proofs.layout.box_at.Statement.{statement}
use Rattle.tree.proofs.layout.box_at.Tie as tie

mul-place : tie.Need-overflow_mul-place
mul-place c = search rules

vector-at-requires : tie.Need-vector_at-requires
vector-at-requires c κs = search rules

add-vector-at : tie.Need-overflow_add-place
add-vector-at c = search rules

vector-at-requires-2 : tie.Need-vector_at-requires-2
vector-at-requires-2 c κs = search rules

returns : tie.Need-returns
unfolding box_at
returns c = simp (sym c.vector_at.ensures, sym c.vector_at-2.ensures)

pub box_at_spec : {M : Type 1} → statement M
box_at_spec =
    tie.close (tie.spec
    mul-place
    vector-at-requires
    add-vector-at
    vector-at-requires-2
    returns)
