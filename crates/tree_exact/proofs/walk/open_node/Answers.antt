-- `tree_exact::walk::open_node` meets its contract. Assumes nothing.
use native.Mathlib.Omega.{arith}
use Rattle.tree_exact.proofs.WalkSteps.{leaf_within, opens_leaf, opens_leaf_bad, opens_branch, opens_bad}
use Rattle.tree_exact.proofs.walk.open_node.Goals as goal

pub note_leaf-leaf-requires : goal.note_leaf-leaf-requires
note_leaf-leaf-requires c =
    let v = c.args in (
      c.requires.0.0,
      leaf_within v.line v.reach v.pose.now v.triangles.now v.nodes v.node_boxes.now v.node_words.now
          v.order.now v.stack.now v.node v.top v.best _ c.node_at.ensures _ _ c.in-Leaf.is
          c.requires.1.0.ordered,
    )

-- a place of the leaf is none
pub returns-in_default : goal.returns-in_default
returns-in_default c =
    let v = c.args in
    opens_leaf_bad v.line v.reach v.pose.now v.triangles.now v.nodes v.node_boxes.now v.node_words.now
    v.order.now v.stack.now v.node v.top v.best _ c.node_at.ensures _ _ c.in-Leaf.is _ c.note_leaf-leaf.ensures
    c.in_default.is

-- a leaf
pub returns-in-Some : goal.returns-in-Some
returns-in-Some c =
    let v = c.args in
    opens_leaf v.line v.reach v.pose.now v.triangles.now v.nodes v.node_boxes.now v.node_words.now
    v.order.now v.stack.now v.node v.top v.best _ c.node_at.ensures _ _ c.in-Leaf.is _ c.note_leaf-leaf.ensures
    _ c.in-Some.is _ c.best_of.ensures.0 c.best_of.ensures.1

pub best_of-requires : goal.best_of-requires
best_of-requires c = c.requires.0.0

pub taken_first-left_first-requires : goal.taken_first-left_first-requires
taken_first-left_first-requires c = (c.requires.0.0, c.requires.1.0.boxed)

pub push-requires : goal.push-requires
push-requires c = (omega (arith, c.requires.1.0.worded, c.requires.1.1.0), c.requires.1.1.1)

pub overflow_add-result : goal.overflow_add-result
overflow_add-result c = omega (arith, c.requires.1.1.1, c.well_formed)

-- a branch
pub returns-in-Branch : goal.returns-in-Branch
returns-in-Branch c =
    let v = c.args in
    opens_branch v.line v.reach v.pose.now v.triangles.now v.nodes v.node_boxes.now v.node_words.now
    v.order.now v.stack.now v.node v.top v.best _ c.node_at.ensures _ _ c.in-Branch.is _
    c.taken_first-left_first.ensures _ c.push.ensures

-- a node that is none
pub returns-in-Bad : goal.returns-in-Bad
returns-in-Bad c =
    let v = c.args in
    opens_bad v.line v.reach v.pose.now v.triangles.now v.nodes v.node_boxes.now v.node_words.now
    v.order.now v.stack.now v.node v.top v.best _ c.node_at.ensures c.in-Bad.is
