-- `tree_copy::root::one_empty` meets its contract. Assumes nothing.
use borrow.Author.Tests.{eq-eqb, ne_eqb}
use Rattle.tree_copy.proofs.root.one_empty.Statement.{statement}
use Rattle.tree_copy.proofs.root.one_empty.Tie as tie

returns : tie.Need-returns-then-n-eq0
returns c = simp (eq-eqb _ 0 c.if-n-eq0.true)

returns-2 : tie.Need-returns
returns-2 c = simp (ne_eqb _ 0 c.if-n-eq0.false)

pub one_empty_spec : {M : Type 1} → statement M
one_empty_spec = tie.close (tie.spec returns returns-2)
