-- `tree_exact::cast::room_fits` meets its contract. Assumes nothing.
use mathlib.Core.Path.{sym}
use native.Mathlib.Numerals.{add-one}
use Rattle.tree_exact.proofs.cast.room_fits.Goals as goal

-- the tree's areas are too short
pub returns-then-not-tree_fits : goal.returns-then-not-tree_fits
returns-then-not-tree_fits c = simp (sym c.tree_fits.ensures, c.if-not-tree_fits.true)

-- the stack decides
pub returns : goal.returns
returns c = simp (sym c.tree_fits.ensures, c.if-not-tree_fits.false, add-one)
