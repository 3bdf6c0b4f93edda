-- `exact_hits::walk::take_opened` meets its contract. Assumes nothing.
use mathlib.Core.Path.{ap, ◌∙◌}
use native.Mathlib.Omega.{arith}
use Rattle.tree_walk.proofs.Nodes.{node_boxed}
use Rattle.exact_hits.specs.LineWalk.{box_opens}
use Rattle.exact_hits.proofs.OpenedSteps.{node_passed, node_opened}
use Rattle.exact_hits.proofs.walk.take_opened.Goals as goal

pub box_at-requires : goal.box_at-requires
box_at-requires c = node_boxed _ c.args.reach _ _ _ _ _ _ c.requires.1

pub box_opens-requires : goal.box_opens-requires
box_opens-requires c = c.requires.0

-- a node that is passed over
pub pop-requires : goal.pop-requires
pop-requires c = omega (arith, c.requires.1.taller)

pub returns-then-not-box_opens : goal.returns-then-not-box_opens
returns-then-not-box_opens c =
    node_passed c.args.line _ c.args.reach _ _ _ _ _ _ c.requires.1 c.box_opens.result
    (λ l sees. c.box_opens.ensures l sees ∙ ap (box_opens l c.args.reach) c.box_at.ensures)
    c.if-not-box_opens.true _ c.pop.ensures

pub take_node-requires : goal.take_node-requires
take_node-requires c = c.requires.1

-- one that is opened
pub returns : goal.returns
returns c =
    node_opened c.args.line _ c.args.reach _ _ _ _ _ _ c.requires.1 c.box_opens.result
    (λ l sees. c.box_opens.ensures l sees ∙ ap (box_opens l c.args.reach) c.box_at.ensures)
    c.if-not-box_opens.false _ _ _ c.take_node.ensures
