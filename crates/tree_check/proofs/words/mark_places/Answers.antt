-- `tree_check::words::mark_places` meets its contract. Assumes nothing.
use Rattle.std.proofs.Common.{arith}
use Rattle.tree_check.proofs.Tally.{order_more, order_done, order_few}
use Rattle.tree_check.proofs.words.mark_places.Goals as goal

pub loop-p-init : goal.loop-p-init
loop-p-init c x h = omega (arith, c.clear.ensures x h)

pub mark_place-requires : goal.mark_place-requires
mark_place-requires c = (
  (omega (arith, c.requires), omega (arith, c.requires, c.clear.auto.marks, c.loop-p.auto.marks)),
  λ x h. omega (arith, c.requires, c.loop-p.invariant x h, order_few c.args.order.now c.args.n x c.requires.0),
)

pub loop-p-preserved : goal.loop-p-preserved
loop-p-preserved c x h =
    order_more _ _ x _ _ _ _ c.loop-p-test.true c.requires.0 (c.mark_place.ensures x h) (c.loop-p.invariant x h)

pub returns : goal.returns
returns c x h = order_done _ _ x _ _ _ c.loop-p-test.false (omega arith) (c.loop-p.invariant x h)
