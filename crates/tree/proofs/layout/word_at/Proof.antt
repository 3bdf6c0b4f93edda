-- `tree::layout::word_at` meets its contract. Assumes nothing.
use native.Mathlib.Omega.{arith}
use borrow.Author.Rules.{rules}
use Rattle.tree.proofs.layout.word_at.Statement.{statement}
use Rattle.tree.proofs.layout.word_at.Tie as tie

mul-result : tie.Need-offset_bounds-words-place
mul-result c = search rules

shared-slice-read-result : tie.Need-bounds-words-place
shared-slice-read-result c = search rules

cast-result : tie.Need-overflow_cast-result
cast-result c = omega (arith, c.shared_slice_known-1.given c.args.place)

returns : tie.Need-returns
returns c = search rules

pub word_at_spec : {M : Type 1} → statement M
word_at_spec = tie.close (tie.spec
    mul-result
    shared-slice-read-result
    cast-result
    returns)
