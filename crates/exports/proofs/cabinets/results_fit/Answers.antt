-- `exports::cabinets::results_fit` meets its contract. Assumes nothing.
use borrow.Author.Tests.{le-leb, lt-leb}
use Rattle.exports.specs.CabinetResults.{cabinet_fits}
use Rattle.exports.proofs.cabinets.results_fit.Goals as goal

pub returns-then-hit-lt4 : goal.returns-then-hit-lt4
unfolding cabinet_fits
returns-then-hit-lt4 c = simp (lt-leb _ _ c.if-hit-lt4.true)

pub returns-then-index-lt1 : goal.returns-then-index-lt1
unfolding cabinet_fits
returns-then-index-lt1 c = simp (le-leb _ _ c.if-hit-lt4.false, lt-leb _ _ c.if-index-lt1.true)

pub returns-then-part-lt1 : goal.returns-then-part-lt1
unfolding cabinet_fits
returns-then-part-lt1 c = simp (le-leb _ _ c.if-hit-lt4.false, le-leb _ _ c.if-index-lt1.false, lt-leb _ _ c.if-part-lt1.true)

pub returns : goal.returns
unfolding cabinet_fits
returns c = simp (le-leb _ _ c.if-hit-lt4.false, le-leb _ _ c.if-index-lt1.false, le-leb _ _ c.if-part-lt1.false)
