-- `tree_exact::walk::take_node` meets its contract. Assumes nothing.
use mathlib.Core.Path.{◌∙◌}
use native.Mathlib.Omega.{arith}
use Rattle.wide_integers.proofs.Reading.{plain}
use Rattle.tree_exact.proofs.WalkSteps.{takes_bad, takes_past, takes_open}
use Rattle.tree_exact.proofs.walk.take_node.Goals as goal

-- a node that is none
pub returns-then-node-nodes : goal.returns-then-node-nodes
returns-then-node-nodes c =
    let v = c.args in
    takes_bad v.line v.reach v.pose.now v.triangles.now v.nodes v.node_boxes.now v.node_words.now v.order.now
    v.stack.now v.top v.best c.requires.1.1.0 c.word_at-node.result c.word_at-node.ensures (omega arith)

pub box_met-requires : goal.box_met-requires
box_met-requires c = c.requires.0.0

-- one that is passed over
pub returns-then-not-box_met : goal.returns-then-not-box_met
returns-then-not-box_met c =
    let v = c.args in
    let limited = c.requires.0.1 in
    takes_past v.line v.reach v.pose.now v.triangles.now v.nodes v.node_boxes.now v.node_words.now v.order.now
    v.stack.now v.top v.best c.requires.1.1.0 c.word_at-node.result c.word_at-node.ensures (omega (arith, c.if-node-nodes.false)) limited
    c.box_at.result c.box_at.ensures c.box_met.result
    (λ l limit sees box past. c.box_met.ensures l limit sees box (plain limited.fits ∙ past))
    c.if-not-box_met.true

pub open_node-requires : goal.open_node-requires
open_node-requires c = (c.requires.0, (c.requires.1.0, (omega (arith, c.if-node-nodes.false), omega (arith, c.requires.1.1))))

-- one that is opened
pub returns : goal.returns
returns c =
    let v = c.args in
    let limited = c.requires.0.1 in
    takes_open v.line v.reach v.pose.now v.triangles.now v.nodes v.node_boxes.now v.node_words.now v.order.now
    v.stack.now v.top v.best c.requires.1.1.0 c.word_at-node.result c.word_at-node.ensures (omega (arith, c.if-node-nodes.false)) limited
    c.box_at.result c.box_at.ensures c.box_met.result
    (λ l limit sees box past. c.box_met.ensures l limit sees box (plain limited.fits ∙ past))
    c.if-not-box_met.false
    c.open_node.ensures
