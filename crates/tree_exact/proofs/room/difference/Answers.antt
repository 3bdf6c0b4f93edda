-- `tree_exact::room::difference` meets its contract. Assumes nothing.
use Rattle.tree_exact.proofs.RoomSteps.{difference_fits, difference_plain}
use Rattle.tree_exact.proofs.room.difference.Goals as goal

pub overflow_sub-result : goal.overflow_sub-result
overflow_sub-result c = difference_fits c.requires.0.low c.requires.1.high

pub overflow_sub-result-2 : goal.overflow_sub-result-2
overflow_sub-result-2 c = difference_fits c.requires.0.high c.requires.1.low

pub returns : goal.returns
returns c =
    λ i. record {
      low = difference_plain c.requires.0.low c.requires.1.high i;
      high = difference_plain c.requires.0.high c.requires.1.low i;
    }
