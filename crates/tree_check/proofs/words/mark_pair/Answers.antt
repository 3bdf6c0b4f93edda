-- `tree_check::words::mark_pair` meets its contract. Assumes nothing.
use Rattle.tree_check.proofs.Counting.{bump_low, pair_counts}
use native.Mathlib.Omega.{arith}
use mathlib.Core.Path.{◌∙◌}
use Rattle.tree_check.proofs.words.mark_pair.Goals as goal

pub bump-requires-2 : goal.bump-requires-2
bump-requires-2 c = (omega (arith, c.bump.auto.marks), omega (arith, bump_low _ _ _ _ (c.bump.ensures c.args.second)))

pub returns : goal.returns
returns c = λ x. pair_counts x _ _ _ _ _ (c.bump.ensures x) (c.bump-2.ensures x)
