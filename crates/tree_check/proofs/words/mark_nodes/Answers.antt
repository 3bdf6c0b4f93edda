-- `tree_check::words::mark_nodes` meets its contract. Assumes nothing.
use Rattle.std.proofs.Common.{arith}
use Rattle.tree_check.proofs.Tally.{marks_few, tally_none, tally_more, tally_done}
use Rattle.tree_check.proofs.words.mark_nodes.Goals as goal

pub loop-node-init : goal.loop-node-init
loop-node-init c x h = tally_none _ x _ _ (c.clear.ensures x h)

pub mark_node-requires : goal.mark_node-requires
mark_node-requires c = (
  (omega (arith, c.requires), (omega (arith, c.requires), omega (arith, c.requires, c.clear.auto.marks, c.loop-node.auto.marks))),
  (
    c.requires.1 _ c.loop-node-test.true,
    λ x h. omega (arith, c.requires, c.loop-node.invariant x h, marks_few c.args.kind c.args.n c.args.words.now x 0 c.args.nodes),
  ),
)

pub loop-node-preserved : goal.loop-node-preserved
loop-node-preserved c x h =
    tally_more _ x _ _ _ _ _ c.loop-node-test.true (c.mark_node.ensures x) (c.loop-node.invariant x h)

pub returns : goal.returns
returns c x h = tally_done _ x _ _ _ _ c.loop-node-test.false (c.loop-node.invariant x h)
