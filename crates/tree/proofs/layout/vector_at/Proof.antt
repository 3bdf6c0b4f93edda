-- `tree::layout::vector_at` meets its contract. Assumes nothing.
use mathlib.Core.Path.{refl}
use Rattle.tree.specs.Layout.{vector_at}
use borrow.Author.Rules.{rules}
use Rattle.tree.proofs.layout.vector_at.Statement.{statement}
use Rattle.tree.proofs.layout.vector_at.Tie as tie

mul-t3 : tie.Need-offset_bounds-numbers-place
mul-t3 c = search rules

shared-slice-read-t5 : tie.Need-bounds-numbers-place
shared-slice-read-t5 c = search rules

add-t6 : tie.Need-overflow_add-result
add-t6 c = search rules

mul-t7 : tie.Need-offset_bounds-numbers-place-2
mul-t7 c = search rules

shared-slice-read-t9 : tie.Need-bounds-numbers-place-2
shared-slice-read-t9 c = search rules

add-t10 : tie.Need-overflow_add-result-2
add-t10 c = search rules

mul-t11 : tie.Need-offset_bounds-numbers-place-3
mul-t11 c = search rules

shared-slice-read-t13 : tie.Need-bounds-numbers-place-3
shared-slice-read-t13 c = search rules

returns : tie.Need-returns
unfolding vector_at
returns c = refl

pub vector_at_spec : {M : Type 1} → statement M
vector_at_spec =
    tie.close
    (tie.spec
    mul-t3
    shared-slice-read-t5
    add-t6
    mul-t7
    shared-slice-read-t9
    add-t10
    mul-t11
    shared-slice-read-t13
    returns)
