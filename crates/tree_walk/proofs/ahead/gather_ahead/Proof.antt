-- `tree_walk::ahead::gather_ahead` meets its contract: what is left of the walk gives the whole. The measure is the number of nodes that
-- are not counted yet and of those that stand on the stack. Assumes nothing.
use Rattle.tree_walk.proofs.OpenNodes.{Goes, root_apart, goes_begin, goes_room, goes_next, goes_less, goes_stopped, goes_ended}
use Rattle.tree_walk.proofs.Walks.{walks_none}
use Rattle.tree_walk.proofs.Nodes.{touch_is}
use Rattle.tree_walk.specs.Opening.{due}
use Rattle.tree.specs.Layout.{Tree, tree_of}
use mathlib.Core.Path.{◌∙◌}
use native.Mathlib.Omega.{arith}
use borrow.Author.Rules.{rules}
use Rattle.tree_walk.proofs.ahead.gather_ahead.Statement.{statement}
use Rattle.tree_walk.proofs.ahead.gather_ahead.Tie as tie

abbrev invariant-loop : tie.invariant-loop-counted
invariant-loop bounds count nodes node_boxes_lem triangle_boxes_lem node_words_lem order list₀ stack₀ next₀ height₀ among₀ counted₀ list
    stack next height
    among counted =
    Goes (tree_of nodes node_boxes_lem triangle_boxes_lem node_words_lem order) count bounds list₀ stack₀ list stack next height among
    counted

abbrev decreases-loop : tie.decreases-loop-counted
decreases-loop bounds count nodes node_boxes_lem triangle_boxes_lem node_words_lem order list₀ stack₀ next₀ height₀ among₀ counted₀ list
    stack next height
    among counted =
    due nodes counted height

-- the places of the loop
abbrev Start : Type 0
Start = tie.Start invariant-loop decreases-loop

abbrev Some : Type 0
Some = tie.Else-nodes-eq0 invariant-loop decreases-loop

abbrev Read : Type 0
Read = tie.After-box_at invariant-loop decreases-loop

abbrev Told : Type 0
Told = tie.After-touches invariant-loop decreases-loop

abbrev At : Type 0
At = tie.At-loop-counted invariant-loop decreases-loop

abbrev Taken : Type 0
Taken = tie.After-open_node-step invariant-loop decreases-loop

abbrev tree : Start → Tree
tree s =
    let a = s.args in
    tree_of a.nodes a.node_boxes.now a.triangle_boxes.now a.node_words.now a.order.now

-- no node
returns : tie.Need-returns-then-nodes-eq0 invariant-loop decreases-loop
returns c =
    let s : Start = search in
    walks_none (tree s) _ _ _ c.if-nodes-eq0.true

-- there is a first node, so its box is within the area
box-at-requires : tie.Need-box_at-requires invariant-loop decreases-loop
box-at-requires c κs =
    let (s, e) : Start × Some = search in
    omega (arith, s.requires.boxed, e.if-nodes-eq0.false)

-- the box does not touch that of the first node
returns-2 : tie.Need-returns-then-not-touches invariant-loop decreases-loop
returns-2 c =
    let (s, e, b) : Start × Some × Read = search in
    let t = c.touches in
    root_apart (tree s) _ _ _ e.if-nodes-eq0.false (touch_is _ _ _ _ t.ensures b.box_at.ensures _ c.if-not-touches.true)

loop-holds : tie.Need-loop-counted-init invariant-loop decreases-loop
loop-holds c =
    let (s, e, b, t) : Start × Some × Read × Told = search in
    goes_begin (tree s) _ _ _ _ e.if-nodes-eq0.false (touch_is _ _ _ _ t.touches.ensures b.box_at.ensures _ c.if-not-touches.false)

open-node-requires : tie.Need-open_node-step-requires invariant-loop decreases-loop
open-node-requires c κs =
    let (s, l) : Start × At = search in
    goes_room (tree s) _ s.args.bounds _ _ _ _ _ _ _ _ l.loop-counted.invariant s.requires

-- the next node: less is left
loop-less : tie.Need-loop-counted-smaller invariant-loop decreases-loop
loop-less c =
    let (s, l, n) : Start × At × Taken = search in
    goes_less (tree s) _ _ _ _ _ _ _ _ _ _ l.loop-counted.invariant _ _ _ n.open_node-step.ensures _ _ _ _ c.in-Next.is

loop-again : tie.Need-loop-counted-preserved invariant-loop decreases-loop
loop-again c =
    let (s, l, n) : Start × At × Taken = search in
    goes_next (tree s) _ _ _ _ _ _ _ _ _ _ l.loop-counted.invariant _ _ _ n.open_node-step.ensures _ _ _ _ c.in-Next.is
    n.open_node-step.auto.list n.open_node-step.auto.stack

same_length : tie.Need-shape_of-list-in-Ended invariant-loop decreases-loop
same_length c =
    let (l, n) : At × Taken = search in
    n.open_node-step.auto.list ∙ l.loop-counted.invariant.long

same-length-2 : tie.Need-shape_of-stack-in-Ended invariant-loop decreases-loop
same-length-2 c =
    let (l, n) : At × Taken = search in
    n.open_node-step.auto.stack ∙ l.loop-counted.invariant.high

-- the last node
returns-3 : tie.Need-returns-in-Ended invariant-loop decreases-loop
returns-3 c =
    let (s, l, n) : Start × At × Taken = search in
    goes_ended (tree s) _ _ _ _ _ _ _ _ _ _ l.loop-counted.invariant _ _ _ n.open_node-step.ensures _ c.in-Ended.is

same-length-3 : tie.Need-shape_of-list-in-Stopped invariant-loop decreases-loop
same-length-3 c =
    let (l, n) : At × Taken = search in
    n.open_node-step.auto.list ∙ l.loop-counted.invariant.long

same-length-4 : tie.Need-shape_of-stack-in-Stopped invariant-loop decreases-loop
same-length-4 c =
    let (l, n) : At × Taken = search in
    n.open_node-step.auto.stack ∙ l.loop-counted.invariant.high

-- a 5
returns-4 : tie.Need-returns-in-Stopped invariant-loop decreases-loop
returns-4 c =
    let (s, l, n) : Start × At × Taken = search in
    (goes_stopped (tree s) _ _ _ _ _ _ _ _ _ _ l.loop-counted.invariant _ _ _ n.open_node-step.ensures c.in-Stopped.is, tt)

-- no more are counted than there are
same-length-5 : tie.Need-shape_of-list invariant-loop decreases-loop
same-length-5 c =
    let l : At = search in
    l.loop-counted.invariant.long

same-length-6 : tie.Need-shape_of-stack invariant-loop decreases-loop
same-length-6 c =
    let l : At = search in
    l.loop-counted.invariant.high

returns-5 : tie.Need-returns invariant-loop decreases-loop
returns-5 c =
    let l : At = search in
    absurd (omega (arith, l.loop-counted.invariant.opens.within, c.loop-counted-test.false))

pub gather_ahead_spec : {M : Type 1} → statement M
gather_ahead_spec =
    tie.close
    (tie.spec
    invariant-loop
    decreases-loop
    returns
    box-at-requires
    (λ c κs. search rules)  -- touches-requires
    returns-2
    loop-holds
    open-node-requires
    (search rules)  -- enum_known-step
    loop-less
    loop-again
    (search rules)  -- enum_known-step-in-Ended-1
    same_length
    same-length-2
    returns-3
    (search rules)  -- enum_told-1
    same-length-3
    same-length-4
    returns-4
    same-length-5
    same-length-6
    returns-5)
