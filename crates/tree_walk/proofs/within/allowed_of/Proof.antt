-- `tree_walk::within::allowed_of` meets its contract. Assumes nothing.
use borrow.Author.Tests.{lt-ltb, le-ltb}
use Rattle.tree_walk.proofs.within.allowed_of.Statement.{statement}
use Rattle.tree_walk.proofs.within.allowed_of.Tie as tie

returns : tie.Need-returns-then-limit-nodes
returns c = simp (lt-ltb _ _ c.if-limit-nodes.true)

returns-2 : tie.Need-returns
returns-2 c = simp (le-ltb _ _ c.if-limit-nodes.false)

pub allowed_of_spec : {M : Type 1} → statement M
allowed_of_spec = tie.close (tie.spec returns returns-2)
