-- `tree_walk::ahead::open_branch` meets its contract. Assumes nothing.
use Rattle.tree_walk.proofs.Children.{stopped_left, stopped_right, stopped_past, waits, children_tested}
use mathlib.Core.Path.{sym, ◌∙◌}
use Prim.Native.Nat.{◌+◌, ◌*◌}
use native.Mathlib.Omega.{arith}
use borrow.Author.Rules.{rules}
use Rattle.tree_walk.proofs.ahead.open_branch.Statement.{statement}
use Rattle.tree_walk.proofs.ahead.open_branch.Tie as tie

cast-left : tie.Need-overflow_cast-left
cast-left c =
    let start : tie.Start = search in
    omega (arith, c.shared_slice_known-3-1.given (3 * start.args.node + 1))

-- the left child does not fit
returns : tie.Need-returns-then-not-child_fits
returns c = stopped_left _ _ _ _ _ _ _ _ _ _ (sym c.child_fits.ensures ∙ c.if-not-child_fits.true)

cast-child-fits : tie.Need-overflow_cast-right
cast-child-fits c =
    let (start, at-shared-slice-known3) : tie.Start × tie.After-shared_slice_known-3-1 = search in
    omega (arith, at-shared-slice-known3.shared_slice_known-3-1.given (3 * start.args.node + 2))

-- nor the right one
returns-2 : tie.Need-returns-then-not-child_fits-2
returns-2 c =
    let (at-child-fits, else1) : tie.After-child_fits × tie.Else-not-child_fits = search in
    stopped_right _ _ _ _ _ _ _ _ _ _ (sym at-child-fits.child_fits.ensures ∙ else1.if-not-child_fits.false)
    (sym c.child_fits-2.ensures ∙ c.if-not-child_fits-2.true)

-- there are not so many nodes
returns-3 : tie.Need-returns-then-nodes-spent-lt2
returns-3 c =
    let (f, g, e, e') : tie.After-child_fits × tie.After-child_fits-2 × tie.Else-not-child_fits × tie.Else-not-child_fits-2 = search in
    stopped_past _ _ _ _ _ _ _ _ _ _ (sym f.child_fits.ensures ∙ e.if-not-child_fits.false)
    (sym g.child_fits-2.ensures ∙ e'.if-not-child_fits-2.false) c.if-nodes-spent-lt2.true

open-children-requires : tie.Need-open_children-requires
open-children-requires c κs =
    let (s, f, g, e, e', e'') : tie.Start × tie.After-child_fits × tie.After-child_fits-2 × tie.Else-not-child_fits
    × tie.Else-not-child_fits-2 × tie.Else-nodes-spent-lt2 = search in (
      s.requires.1.0,
      (
        s.requires.1.1.0,
        waits _ _ _ _ _ _ _ _ s.args.found _ (sym f.child_fits.ensures ∙ e.if-not-child_fits.false)
            (sym g.child_fits-2.ensures ∙ e'.if-not-child_fits-2.false) e''.if-nodes-spent-lt2.false s.requires.1.1.1,
      ),
    )

-- the children are tested
returns-4 : tie.Need-returns
returns-4 c =
    let (f, g, e, e', e'', o) :
    tie.After-child_fits × tie.After-child_fits-2 × tie.Else-not-child_fits × tie.Else-not-child_fits-2 × tie.Else-nodes-spent-lt2
    × tie.After-open_children = search in
    children_tested _ _ _ _ _ _ _ _ _ _ (sym f.child_fits.ensures ∙ e.if-not-child_fits.false)
    (sym g.child_fits-2.ensures ∙ e'.if-not-child_fits-2.false) e''.if-nodes-spent-lt2.false _ _ o.open_children.ensures

pub open_branch_spec : {M : Type 1} → statement M
open_branch_spec =
    tie.close
    (tie.spec
    (search rules)  -- overflow_mul-left
    (search rules)  -- overflow_add-left
    (search rules)  -- offset_bounds-node_words-node
    (search rules)  -- bounds-node_words-node
    cast-left
    (search rules)  -- overflow_mul-right
    (search rules)  -- overflow_add-right
    (search rules)  -- offset_bounds-node_words-node-2
    (search rules)  -- bounds-node_words-node-2
    (search rules)  -- child_fits-requires
    returns
    cast-child-fits
    (search rules)  -- child_fits-requires-2
    returns-2
    (search rules)  -- overflow_sub-nodes
    returns-3
    (search rules)  -- overflow_add-spent
    open-children-requires
    (search rules)  -- shape_of-stack
    returns-4)
