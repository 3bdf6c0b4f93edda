-- `arithmetic::square_root::halved_root` meets its contract. The loop's invariant: the interval holds the root. The measure is its width.
use Rattle.std.proofs.Common.{sym, ◌∙◌}
use Rattle.arithmetic.proofs.RootHalves.{between_at_first, between_raised, between_lowered, between_nearest}
use Rattle.arithmetic.proofs.square_root.halved_root.Goals as goal

pub loop-high-init : goal.loop-high-init
loop-high-init c = between_at_first c.args.m c.requires.0 c.requires.1

pub loop-high-preserved-then-square_at_most : goal.loop-high-preserved-then-square_at_most
loop-high-preserved-then-square_at_most c =
    between_raised c.args.m c.loop-high.low c.loop-high.high
    c.loop-high.invariant
    c.loop-high-test.true
    (sym c.square_at_most.ensures ∙ c.if-square_at_most.true)

pub loop-high-preserved : goal.loop-high-preserved
loop-high-preserved c =
    between_lowered c.args.m c.loop-high.low c.loop-high.high
    c.loop-high.invariant
    c.loop-high-test.true
    (sym c.square_at_most.ensures ∙ c.if-square_at_most.false)

pub returns : goal.returns
returns c = between_nearest c.args.m c.loop-high.low c.loop-high.high c.loop-high.invariant c.loop-high-test.false
