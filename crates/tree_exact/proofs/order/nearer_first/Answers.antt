-- `tree_exact::order::nearer_first` meets its contract. Assumes nothing.
use native.Mathlib.Omega.{arith}
use Rattle.tree_exact.proofs.BoxSteps.{left_missing, right_missing, both_there}
use Rattle.tree_exact.proofs.order.nearer_first.Goals as goal

-- no left child
pub returns-then-left-nodes : goal.returns-then-left-nodes
returns-then-left-nodes c =
    let v = c.args in
    λ l sees. left_missing l v.nodes v.node_boxes.now v.left v.right (omega arith)

-- no right child
pub returns-then-right-nodes : goal.returns-then-right-nodes
returns-then-right-nodes c =
    let v = c.args in
    λ l sees. right_missing l v.nodes v.node_boxes.now v.left v.right (omega arith) (omega arith)

pub comes_first-requires : goal.comes_first-requires
comes_first-requires c = c.requires.0

-- the nearer one
pub returns : goal.returns
returns c =
    let v = c.args in
    λ l sees. both_there l v.nodes v.node_boxes.now v.left v.right (omega (arith, c.if-left-nodes.false))
    (omega (arith, c.if-right-nodes.false))
    (c.comes_first.ensures l sees) c.box_at.ensures c.box_at-2.ensures
