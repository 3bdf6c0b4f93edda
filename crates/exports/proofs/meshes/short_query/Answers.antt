-- `exports::meshes::short_query` meets its contract. Assumes nothing.
use mathlib.Core.Path.{sym, ◌∙◌}
use borrow.Author.Tests.{not-true, not-false}
use Rattle.exports.proofs.meshes.short_query.Goals as goal

-- 1
pub returns-then-not-is_valid : goal.returns-then-not-is_valid
returns-then-not-is_valid c = simp (sym c.is_valid.ensures ∙ c.if-not-is_valid.true)

-- 2
pub returns-then-not-counts_admitted : goal.returns-then-not-counts_admitted
returns-then-not-counts_admitted c =
    simp (
      sym c.is_valid.ensures ∙ c.if-not-is_valid.false,
      sym c.counts_admitted.ensures ∙ c.if-not-counts_admitted.true,
    )

-- 3
pub returns : goal.returns
returns c =
    simp (
      sym c.is_valid.ensures ∙ c.if-not-is_valid.false,
      sym c.counts_admitted.ensures ∙ c.if-not-counts_admitted.false,
    )
