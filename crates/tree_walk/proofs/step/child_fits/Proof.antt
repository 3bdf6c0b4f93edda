-- `tree_walk::step::child_fits` meets its contract. Assumes nothing.
use borrow.Author.Tests.{lt-ltb, le-ltb}
use Rattle.tree_walk.proofs.step.child_fits.Statement.{statement}
use Rattle.tree_walk.proofs.step.child_fits.Tie as tie

returns : tie.Need-returns-then-node-child
returns c = simp (lt-ltb _ _ c.if-node-child.true)

returns-2 : tie.Need-returns
returns-2 c = simp (le-ltb _ _ c.if-node-child.false)

pub child_fits_spec : {M : Type 1} → statement M
child_fits_spec = tie.close (tie.spec returns returns-2)
