-- `many_drills::places::places_fit` meets its contract. Assumes nothing.
use borrow.Author.Tests.{le-leb, lt-leb}
use Rattle.many_drills.proofs.places.places_fit.Goals as goal

-- too few places for the codes
pub returns-then-codes-count : goal.returns-then-codes-count
returns-then-codes-count c = simp (lt-leb _ _ c.if-codes-count.true)

-- the places for the indices decide
pub returns : goal.returns
returns c = simp (le-leb _ _ c.if-codes-count.false)
