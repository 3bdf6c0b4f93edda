-- `tree_exact::room::multiple` meets its contract. Assumes nothing.
use Rattle.tree_exact.proofs.RoomSteps.{product_fits, product_plain, in_order, heading_sized}
use Rattle.tree_exact.proofs.room.multiple.Goals as goal

pub overflow_mul-first : goal.overflow_mul-first
overflow_mul-first c = product_fits c.requires.0.low c.requires.1

pub overflow_mul-last : goal.overflow_mul-last
overflow_mul-last c = product_fits c.requires.0.high c.requires.1

pub returns-then-first-last : goal.returns-then-first-last
returns-then-first-last c =
    in_order (product_plain c.requires.0.low c.requires.1) (product_plain c.requires.0.high c.requires.1) c.if-first-last.true

pub returns : goal.returns
returns c = heading_sized (product_plain c.requires.0.low c.requires.1) (product_plain c.requires.0.high c.requires.1) c.if-first-last.false
