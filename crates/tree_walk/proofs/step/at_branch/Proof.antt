-- `tree_walk::step::at_branch` meets its contract. Assumes nothing.
use Rattle.tree_walk.proofs.Branches.{left_unfit, right_unfit, right_pushed}
use mathlib.Core.Path.{sym, ◌∙◌}
use Prim.Native.Nat.{◌+◌, ◌*◌}
use native.Mathlib.Omega.{arith}
use borrow.Author.Rules.{rules}
use Rattle.tree_walk.proofs.step.at_branch.Statement.{statement}
use Rattle.tree_walk.proofs.step.at_branch.Tie as tie

cast-left : tie.Need-overflow_cast-left
cast-left c =
    let start : tie.Start = search in
    omega (arith, c.shared_slice_known-2-1.given (3 * start.args.node + 1))

returns : tie.Need-returns-then-not-child_fits
returns c = left_unfit _ _ _ _ _ _ _ (sym c.child_fits.ensures ∙ c.if-not-child_fits.true)

cast-child-fits : tie.Need-overflow_cast-right
cast-child-fits c =
    let (start, at-shared-slice-known2) : tie.Start × tie.After-shared_slice_known-2-1 = search in
    omega (arith, at-shared-slice-known2.shared_slice_known-2-1.given (3 * start.args.node + 2))

returns-2 : tie.Need-returns-then-not-child_fits-2
returns-2 c =
    let (at-child-fits, else1) : tie.After-child_fits × tie.Else-not-child_fits = search in
    right_unfit _ _ _ _ _ _ _ (sym at-child-fits.child_fits.ensures ∙ else1.if-not-child_fits.false)
    (sym c.child_fits-2.ensures ∙ c.if-not-child_fits-2.true)

returns-3 : tie.Need-returns
returns-3 c =
    let (start, at-child-fits, else1) : tie.Start × tie.After-child_fits × tie.Else-not-child_fits = search in
    right_pushed _ _ _ _ _ _ _ (sym at-child-fits.child_fits.ensures ∙ else1.if-not-child_fits.false)
    (sym c.child_fits-2.ensures ∙ c.if-not-child_fits-2.false) start.requires.1.0
    start.requires.1.1

pub at_branch_spec : {M : Type 1} → statement M
at_branch_spec =
    tie.close
    (tie.spec
    (search rules)  -- overflow_mul-left
    (search rules)  -- overflow_add-left
    (search rules)  -- offset_bounds-node_words-node
    (search rules)  -- bounds-node_words-node
    cast-left
    (search rules)  -- overflow_mul-right
    (search rules)  -- overflow_add-right
    (search rules)  -- offset_bounds-node_words-node-2
    (search rules)  -- bounds-node_words-node-2
    (search rules)  -- child_fits-requires
    returns
    cast-child-fits
    (search rules)  -- child_fits-requires-2
    returns-2
    (search rules)  -- offset_bounds-stack-top
    (search rules)  -- bounds-stack-top
    (search rules)  -- overflow_add-result
    (search rules)  -- shape_of-stack
    returns-3)
