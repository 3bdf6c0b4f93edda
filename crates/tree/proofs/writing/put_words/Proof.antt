-- `tree::writing::put_words` meets its contract. Assumes nothing.
use native.Mathlib.Omega.{arith}
use native.Mathlib.Numerals.{add-one, add-two}
use lib.ListN.{length-set}
use borrow.Author.Rules.{rules}
use Rattle.tree.proofs.writing.put_words.Statement.{statement}
use Rattle.tree.proofs.writing.put_words.Tie as tie

slice-write-area-2 : tie.Need-bounds-area-place-2
slice-write-area-2 c = simp length-set (omega arith)

slice-write-area-3 : tie.Need-bounds-area-place-3
slice-write-area-3 c = simp length-set (omega arith)

same_length : tie.Need-shape_of-area
same_length c = simp length-set

returns : tie.Need-returns
returns c = simp (add-one, add-two)

pub put_words_spec : {M : Type 1} → statement M
put_words_spec =
    tie.close
    (tie.spec
    (search rules)  -- offset_bounds-area-place
    (search rules)  -- bounds-area-place
    (search rules)  -- overflow_cast-area
    (search rules)  -- overflow_add-area
    (search rules)  -- offset_bounds-area-place-2
    slice-write-area-2
    (search rules)  -- overflow_cast-area-2
    (search rules)  -- overflow_add-area-2
    (search rules)  -- offset_bounds-area-place-3
    slice-write-area-3
    same_length
    returns)
