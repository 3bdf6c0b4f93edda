-- `many_casts::places::places_fit` meets its contract. Assumes nothing.
use borrow.Author.Tests.{le-leb, lt-leb}
use Rattle.many_casts.proofs.places.places_fit.Goals as goal

-- too few places for the codes
pub returns-then-codes-count : goal.returns-then-codes-count
returns-then-codes-count c = simp (lt-leb _ _ c.if-codes-count.true)

-- too few for the numbers
pub returns-then-hits-count : goal.returns-then-hits-count
returns-then-hits-count c = simp (le-leb _ _ c.if-codes-count.false, lt-leb _ _ c.if-hits-count.true)

-- the places for the indices decide
pub returns : goal.returns
returns c = simp (le-leb _ _ c.if-codes-count.false, le-leb _ _ c.if-hits-count.false)
