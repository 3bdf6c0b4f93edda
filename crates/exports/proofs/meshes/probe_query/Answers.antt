-- `exports::meshes::probe_query` meets its contract. Assumes nothing.
use borrow.Author.Tests.{le-leb}
use mathlib.Core.Path.{refl, ◌∙◌}
use Rattle.exports.proofs.Counts.{query_returned_lem, query_short}
use Rattle.exports.proofs.Kept.{second_failed}
use Rattle.exports.proofs.QueryCalls.{query_complete}
use Rattle.exports.proofs.meshes.probe_query.Goals as goal

-- the place of the list's length is not there
pub returns-then-found-lt1 : goal.returns-then-found-lt1
returns-then-found-lt1 c =
    let returned = query_short _ _ _ _ _ _ _ c.if-found-lt1.true (c.into.ensures ∙ c.short_query.ensures) in
    (returned, (λ _. refl, query_complete _ _ _ _ _ _ _ returned))

-- the query's answer
pub returns : goal.returns
returns c =
    let returned = query_returned_lem _ _ _ _ _ _ _ _ _ c.if-found-lt1.false c.query-listed.ensures.0 c.put_count.ensures.found in (
      returned,
      (
        λ failed. c.query-listed.ensures.1 (second_failed _ _ (le-leb _ _ c.if-found-lt1.false) failed),
        query_complete _ _ _ _ _ _ _ returned,
      ),
    )
