-- `wide_integers::division::rounded` meets its contract. Assumes nothing.
use Rattle.std.proofs.Common.{arith}
use Rattle.wide_integers.proofs.DivisionLaws.{left_held, rounded_down, rounded_up, rounded_even}
use Rattle.wide_integers.proofs.division.rounded.Goals as goal

pub difference-room-requires : goal.difference-room-requires
difference-room-requires c = left_held c.args.at c.requires.less

pub returns-then-below : goal.returns-then-below
returns-then-below c = rounded_down c.args.at c.requires.less c.difference-room.result c.difference-room.ensures c.below.ensures
    c.if-below.true

pub returns-then-below-2 : goal.returns-then-below-2
returns-then-below-2 c =
    rounded_up c.args.at c.requires.less c.difference-room.result c.difference-room.ensures c.below.ensures c.if-below.false
    c.below-2.ensures c.if-below-2.true

pub returns : goal.returns
returns c =
    rounded_even c.args.at c.requires.less c.difference-room.result c.difference-room.ensures c.below.ensures c.if-below.false
    c.below-2.ensures c.if-below-2.false

pub overflow_add-result : goal.overflow_add-result
overflow_add-result c = omega (arith, c.requires.most)

pub overflow_add-result-2 : goal.overflow_add-result-2
overflow_add-result-2 c = omega (arith, c.requires.most)
