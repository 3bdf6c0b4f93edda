-- `tree_query::query::walk_fits` meets its contract. Assumes nothing.
use Rattle.tree_query.specs.Query.{walk_fits}
use borrow.Author.Tests.{lt-leb, le-leb}
use native.Mathlib.Numerals.{add-one}
use mathlib.Core.Path.{sym}
use borrow.Author.Rules.{rules}
use Rattle.tree_query.proofs.query.walk_fits.Statement.{statement}
use Rattle.tree_query.proofs.query.walk_fits.Tie as tie

returns : tie.Need-returns-then-not-tree_fits
unfolding walk_fits
returns c = simp (sym c.tree_fits.ensures, c.if-not-tree_fits.true)

returns-2 : tie.Need-returns-then-list-count
unfolding walk_fits
returns-2 c =
    let at-tree-fits : tie.After-tree_fits = search in
    simp (
      sym at-tree-fits.tree_fits.ensures,
      c.if-not-tree_fits.false,
      lt-leb _ _
          c.if-list-count.true,
    )

returns-3 : tie.Need-returns
unfolding walk_fits
returns-3 c =
    let at-tree-fits : tie.After-tree_fits = search in
    simp (
      sym at-tree-fits.tree_fits.ensures,
      c.if-not-tree_fits.false,
      le-leb _ _
          c.if-list-count.false,
      add-one,
    )

pub walk_fits_spec : {M : Type 1} → statement M
walk_fits_spec = tie.close (tie.spec
    (search rules)  -- tree_fits-requires
    returns
    returns-2
    returns-3)
