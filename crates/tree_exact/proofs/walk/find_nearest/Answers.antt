-- `tree_exact::walk::find_nearest` meets its contract. Assumes nothing.
use mathlib.Core.Path.{◌≡◌, refl}
use native.Mathlib.Omega.{arith}
use Prim.Native.Nat.{◌+◌, ◌-◌}
use Rattle.tree_exact.proofs.WalkSteps.{walks_empty, walk_begins, walk_ended, walk_used_up, walk_broken}
use Rattle.tree_exact.proofs.WalkSteps.{walk_finds_nothing, walk_goes}
use Rattle.tree_exact.proofs.walk.find_nearest.Goals as goal
use Rattle.tree_exact.proofs.walk.find_nearest.Goals.{in-NothingFound, in-Next}

-- no node
pub returns-then-nodes-eq0 : goal.returns-then-nodes-eq0
returns-then-nodes-eq0 c =
    let v = c.args in
    walks_empty v.line v.reach v.pose.now v.triangles.now v.nodes v.node_boxes.now v.node_words.now v.order.now
    c.if-nodes-eq0.true _ c.empty.ensures

pub best_of-best-requires : goal.best_of-best-requires
best_of-best-requires c = c.requires.0

pub loop-taken-init : goal.loop-taken-init
loop-taken-init c =
    let v = c.args in
    let k : v.nodes - 0 ≡ v.nodes = omega arith in
    rw k (walk_begins v.line v.reach v.pose.now v.triangles.now v.nodes v.node_boxes.now v.node_words.now v.order.now
    v.stack.now c.requires.1.1 (omega (arith, c.if-nodes-eq0.false)) _ _ c.best_of-best.ensures.0 c.empty-2.ensures
    c.best_of-best.ensures.1)

-- no node is left on the stack
pub returns-then-top-eq0 : goal.returns-then-top-eq0
returns-then-top-eq0 c =
    let v = c.args in
    walk_ended v.line v.reach v.pose.now v.triangles.now v.nodes v.node_boxes.now v.node_words.now v.order.now
    _ _ _ _ _ c.loop-taken.invariant c.if-top-eq0.true _ refl

pub take_node-step-requires : goal.take_node-step-requires
take_node-step-requires c = (
  (c.requires.0, c.loop-taken.invariant.limited),
  (c.requires.1.0, (omega (arith, c.if-top-eq0.false), omega (arith, c.loop-taken.invariant.room, c.loop-taken-test.true))),
)

-- a 5
pub returns-in-Bad : goal.returns-in-Bad
returns-in-Bad c =
    let v = c.args in
    walk_broken v.line v.reach v.pose.now v.triangles.now v.nodes v.node_boxes.now v.node_words.now v.order.now
    _ _ _ _ _ c.loop-taken.invariant (omega (arith, c.loop-taken-test.true)) (omega (arith, c.if-top-eq0.false)) _ _
    c.take_node-step.ensures c.in-Bad.is

-- the next node, with nothing more found or with more
pub loop-taken-preserved : goal.loop-taken-preserved
loop-taken-preserved c =
    let v = c.args in
    let k : v.nodes - (c.loop-taken._taken + 1) ≡ v.nodes - c.loop-taken._taken - 1 = omega arith in
    elim c.match-step.branch [
      | in-NothingFound w ↦
          rw (k, w.top-is, w.best-is)
          (walk_finds_nothing v.line v.reach v.pose.now v.triangles.now v.nodes v.node_boxes.now v.node_words.now v.order.now
          _ _ _ _ _ c.loop-taken.invariant (omega (arith, c.loop-taken-test.true)) (omega (arith, c.if-top-eq0.false)) _ _
          c.take_node-step.ensures _ w.in-NothingFound.is c.take_node-step.auto.stack)
      | in-Next w ↦
          rw (k, w.top-is, w.best-is)
          (walk_goes v.line v.reach v.pose.now v.triangles.now v.nodes v.node_boxes.now v.node_words.now v.order.now
          _ _ _ _ _ c.loop-taken.invariant (omega (arith, c.loop-taken-test.true)) (omega (arith, c.if-top-eq0.false)) _ _
          c.take_node-step.ensures _ _ w.in-Next.is c.take_node-step.auto.stack)
    ]

-- all nodes were taken, and none is left
pub returns-then-top-eq0-2 : goal.returns-then-top-eq0-2
returns-then-top-eq0-2 c =
    let v = c.args in
    walk_ended v.line v.reach v.pose.now v.triangles.now v.nodes v.node_boxes.now v.node_words.now v.order.now
    _ _ _ _ _ c.loop-taken.invariant c.if-top-eq0-2.true _ refl

-- all were taken, and one is left
pub returns : goal.returns
returns c =
    let v = c.args in
    walk_used_up v.line v.reach v.pose.now v.triangles.now v.nodes v.node_boxes.now v.node_words.now
    v.order.now _ _ _ _ _ c.loop-taken.invariant (omega arith) (omega (arith, c.if-top-eq0-2.false))
