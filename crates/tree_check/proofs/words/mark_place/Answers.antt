-- `tree_check::words::mark_place` meets its contract. Assumes nothing.
use Rattle.tree_check.proofs.Counting.{none_more, apart}
use native.Mathlib.Omega.{arith}
use Rattle.tree_check.proofs.words.mark_place.Goals as goal

pub bump-requires : goal.bump-requires
bump-requires c = (omega (arith, c.requires), c.requires.1 _ c.if-x-n.true)

pub returns-then-x-n : goal.returns-then-x-n
returns-then-x-n c = λ x h. c.bump.ensures x

pub returns-else-x-n : goal.returns-else-x-n
returns-else-x-n c = λ x h. none_more x _ _ (λ e. apart h c.if-x-n.false e)
