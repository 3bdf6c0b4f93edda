-- `tree_exact::room::holds_zero` meets its contract. Assumes nothing.
use lib.Dec.{lit≤}
use Rattle.wide_integers.proofs.Reading.{plain, widen}
use Rattle.tree_exact.proofs.RoomSteps.{zero_inside, zero_above}
use Rattle.tree_exact.proofs.room.holds_zero.Goals as goal

pub returns-then-s-le0 : goal.returns-then-s-le0
returns-then-s-le0 c =
    zero_inside c.args.s (plain (widen c.requires.low (lit≤ tt))) (plain (widen c.requires.high (lit≤ tt))) c.if-s-le0.true

pub returns : goal.returns
returns c = zero_above c.args.s (plain (widen c.requires.low (lit≤ tt))) c.if-s-le0.false
