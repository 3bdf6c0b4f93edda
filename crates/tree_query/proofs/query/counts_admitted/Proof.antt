-- `tree_query::query::counts_admitted` meets its contract. Assumes nothing.
use Rattle.tree_query.specs.Query.{counts_admitted}
use borrow.Author.Tests.{lt-leb, le-leb}
use borrow.Author.Rules.{rules}
use Rattle.tree_query.proofs.query.counts_admitted.Statement.{statement}
use Rattle.tree_query.proofs.query.counts_admitted.Tie as tie

returns : tie.Need-returns-then-count-gt65536
unfolding counts_admitted
returns c = simp (lt-leb _ _ c.if-count-gt65536.true)

returns-2 : tie.Need-returns
unfolding counts_admitted
returns-2 c = simp (le-leb _ _ c.if-count-gt65536.false)

pub counts_admitted_spec : {M : Type 1} → statement M
counts_admitted_spec = tie.close (tie.spec
    returns
    (search rules)  -- overflow_mul-result
    returns-2)
