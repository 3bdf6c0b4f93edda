-- `tree::layout::lengths_fit` meets its contract. Assumes nothing.
use borrow.Author.Tests.{lt-leb, le-leb}
use borrow.Author.Rules.{rules}
use Rattle.tree.proofs.layout.lengths_fit.Statement.{statement}
use Rattle.tree.proofs.layout.lengths_fit.Tie as tie

returns : tie.Need-returns-then-node_boxes-n
returns c = simp (lt-leb _ _ c.if-node_boxes-n.true)

returns-2 : tie.Need-returns-then-triangle_boxes-n
returns-2 c = simp (le-leb _ _ c.if-node_boxes-n.false, lt-leb _ _ c.if-triangle_boxes-n.true)

returns-3 : tie.Need-returns-then-node_words-n
returns-3 c =
    let else1 : tie.Else-node_boxes-n = search in
    simp (le-leb _ _ else1.if-node_boxes-n.false, le-leb _ _ c.if-triangle_boxes-n.false, lt-leb _ _ c.if-node_words-n.true)

returns-4 : tie.Need-returns
returns-4 c =
    let else1 : tie.Else-node_boxes-n = search in
    simp (le-leb _ _ else1.if-node_boxes-n.false, le-leb _ _ c.if-triangle_boxes-n.false, le-leb _ _ c.if-node_words-n.false)

pub lengths_fit_spec : {M : Type 1} → statement M
lengths_fit_spec = tie.close (tie.spec
    (search rules)  -- overflow_mul-n
    returns
    (search rules)  -- overflow_mul-n-2
    returns-2
    (search rules)  -- overflow_mul-n-3
    returns-3
    returns-4)
