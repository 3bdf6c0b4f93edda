-- `tree_query::query::tree_fits` meets its contract. Assumes nothing.
use Rattle.tree_query.specs.Query.{tree_fits}
use borrow.Author.Rules.{rules}
use Rattle.tree_query.proofs.query.tree_fits.Statement.{statement}
use Rattle.tree_query.proofs.query.tree_fits.Tie as tie

returns : tie.Need-returns
unfolding tree_fits
returns c = c.lengths_fit.ensures

pub tree_fits_spec : {M : Type 1} → statement M
tree_fits_spec = tie.close (tie.spec
    (search rules)  -- lengths_fit-requires
    returns)
