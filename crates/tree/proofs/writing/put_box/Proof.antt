-- `tree::writing::put_box` meets its contract. Assumes nothing.
use native.Mathlib.Omega.{arith}
use native.Mathlib.Numerals.{add-one, add-two, add-three, add-four, add_five}
use lib.ListN.{length-set}
use Rattle.tree.specs.Layout.{box_numbers}
use borrow.Author.Rules.{rules}
use Rattle.tree.proofs.writing.put_box.Statement.{statement}
use Rattle.tree.proofs.writing.put_box.Tie as tie

slice-write-area-2 : tie.Need-bounds-area-place-2
slice-write-area-2 c = simp length-set (omega arith)

slice-write-area-3 : tie.Need-bounds-area-place-3
slice-write-area-3 c = simp length-set (omega arith)

slice-write-area-4 : tie.Need-bounds-area-place-4
slice-write-area-4 c = simp length-set (omega arith)

slice-write-area-5 : tie.Need-bounds-area-place-5
slice-write-area-5 c = simp length-set (omega arith)

slice-write-area-6 : tie.Need-bounds-area-place-6
slice-write-area-6 c = simp length-set (omega arith)

same_length : tie.Need-shape_of-area
same_length c = simp length-set

returns : tie.Need-returns
unfolding box_numbers
returns c = simp (add-one, add-two, add-three, add-four, add_five)

pub put_box_spec : {M : Type 1} → statement M
put_box_spec =
    tie.close
    (tie.spec
    (search rules)  -- offset_bounds-area-place
    (search rules)  -- bounds-area-place
    (search rules)  -- overflow_add-area
    (search rules)  -- offset_bounds-area-place-2
    slice-write-area-2
    (search rules)  -- overflow_add-area-2
    (search rules)  -- offset_bounds-area-place-3
    slice-write-area-3
    (search rules)  -- overflow_add-area-3
    (search rules)  -- offset_bounds-area-place-4
    slice-write-area-4
    (search rules)  -- overflow_add-area-4
    (search rules)  -- offset_bounds-area-place-5
    slice-write-area-5
    (search rules)  -- overflow_add-area-5
    (search rules)  -- offset_bounds-area-place-6
    slice-write-area-6
    same_length
    returns)
