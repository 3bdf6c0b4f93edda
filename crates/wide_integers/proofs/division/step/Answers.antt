-- `wide_integers::division::step` meets its contract. Assumes nothing.
use Rattle.std.proofs.Common.{arith}
use Rattle.wide_integers.proofs.DivisionLaws.{left_held, low_held, stepped_low, high_held, stepped_high}
use Rattle.wide_integers.proofs.division.step.Goals as goal

pub difference-room-requires : goal.difference-room-requires
difference-room-requires c = left_held c.args.at c.requires.less

pub overflow_add-result : goal.overflow_add-result
overflow_add-result c = omega (arith, c.requires.few)

pub sum-requires : goal.sum-requires
sum-requires c = low_held c.args.at c.requires.less c.difference-room.result c.difference-room.ensures c.below.ensures c.if-below.true

pub returns-then-below : goal.returns-then-below
returns-then-below c =
    stepped_low c.args.at c.requires.less c.difference-room.result c.difference-room.ensures c.below.ensures c.sum.result
    c.if-below.true c.sum.ensures

pub overflow_add-result-2 : goal.overflow_add-result-2
overflow_add-result-2 c = omega (arith, c.requires.few)

pub overflow_add-result-3 : goal.overflow_add-result-3
overflow_add-result-3 c = omega (arith, c.requires.few)

pub difference-requires : goal.difference-requires
difference-requires c = high_held c.args.at c.requires.less c.difference-room.result c.difference-room.ensures c.below.ensures
    c.if-below.false

pub returns : goal.returns
returns c =
    stepped_high c.args.at c.requires.less c.difference-room.result c.difference-room.ensures c.below.ensures
    c.difference.result c.if-below.false c.difference.ensures
