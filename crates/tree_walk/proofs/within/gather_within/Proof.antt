-- `tree_walk::within::gather_within` meets its contract: what is left of the walk gives the whole. The measure is the number of nodes
-- that may still be opened. Assumes nothing.
use Rattle.tree_walk.proofs.Gathering.{Gathers, allowed_is, gathers_none, gathers_begin, gathers_room, gathers_next}
use Rattle.tree_walk.proofs.Gathering.{gathers_stopped, gathers_ended, gathers_past, gathers_used}
use Rattle.tree.specs.Layout.{tree_of}
use mathlib.Core.Path.{◌∙◌}
use Prim.Native.Nat.{◌-◌}
use borrow.Author.Rules.{rules}
use Rattle.tree_walk.proofs.within.gather_within.Statement.{statement}
use Rattle.tree_walk.proofs.within.gather_within.Tie as tie

abbrev invariant-loop : tie.invariant-loop-taken
invariant-loop bounds count nodes node_boxes_lem triangle_boxes_lem node_words_lem order list₀ stack₀ limit allowed next₀ height₀ listed₀
    taken₀ list
    stack next height listed taken =
    Gathers (tree_of nodes node_boxes_lem triangle_boxes_lem node_words_lem order) count bounds limit allowed list₀ stack₀ list stack next
    height
    listed taken

abbrev decreases-loop : tie.decreases-loop-taken
decreases-loop bounds count nodes node_boxes_lem triangle_boxes_lem node_words_lem order list₀ stack₀ limit allowed next₀ height₀ listed₀
    taken₀ list stack
    next height listed taken =
    allowed - taken

-- the places of the loop
abbrev Start : Type 0
Start = tie.Start invariant-loop decreases-loop

abbrev Opened : Type 0
Opened = tie.After-allowed_of-allowed invariant-loop decreases-loop

abbrev At : Type 0
At = tie.At-loop-taken invariant-loop decreases-loop

abbrev Within : Type 0
Within = tie.In-loop-taken invariant-loop decreases-loop

abbrev Taken : Type 0
Taken = tie.After-take_node-step invariant-loop decreases-loop

-- with no node nothing is spent
returns : tie.Need-returns-then-nodes-eq0 invariant-loop decreases-loop
returns c = gathers_none _ _ _ _ _ c.if-nodes-eq0.true

loop-holds : tie.Need-loop-taken-init invariant-loop decreases-loop
loop-holds c = gathers_begin _ _ _ _ _ _ _ c.if-nodes-eq0.false

take-node-requires : tie.Need-take_node-step-requires invariant-loop decreases-loop
take-node-requires c κs =
    let (start, a, l, i) : Start × Opened × At × Within = search in
    gathers_room (tree_of _ _ _ _ _) _ start.args.bounds _ _ _ _ _ _ _ _ _ _ l.loop-taken.invariant
    (allowed_is _ _ _ a.allowed_of-allowed.ensures) i.loop-taken-test.true start.requires

-- the next node
loop-again : tie.Need-loop-taken-preserved invariant-loop decreases-loop
loop-again c =
    let (a, l, i, n) : Opened × At × Within × Taken = search in
    gathers_next _ _ _ _ _ _ _ _ _ _ _ _ _ l.loop-taken.invariant (allowed_is _ _ _ a.allowed_of-allowed.ensures) i.loop-taken-test.true
    _ _ _ n.take_node-step.ensures _ _ _ c.in-Next.is n.take_node-step.auto.list
    n.take_node-step.auto.stack

same_length : tie.Need-shape_of-list-in-Ended invariant-loop decreases-loop
same_length c =
    let (l, n) : At × Taken = search in
    n.take_node-step.auto.list ∙ l.loop-taken.invariant.walks.long

same-length-2 : tie.Need-shape_of-stack-in-Ended invariant-loop decreases-loop
same-length-2 c =
    let (l, n) : At × Taken = search in
    n.take_node-step.auto.stack ∙ l.loop-taken.invariant.walks.high

-- the last node
returns-2 : tie.Need-returns-in-Ended invariant-loop decreases-loop
returns-2 c =
    let (a, l, i, n) : Opened × At × Within × Taken = search in
    gathers_ended _ _ _ _ _ _ _ _ _ _ _ _ _ l.loop-taken.invariant (allowed_is _ _ _ a.allowed_of-allowed.ensures) i.loop-taken-test.true
    _ _ _ n.take_node-step.ensures _ c.in-Ended.is

same-length-3 : tie.Need-shape_of-list-in-Stopped invariant-loop decreases-loop
same-length-3 c =
    let (l, n) : At × Taken = search in
    n.take_node-step.auto.list ∙ l.loop-taken.invariant.walks.long

same-length-4 : tie.Need-shape_of-stack-in-Stopped invariant-loop decreases-loop
same-length-4 c =
    let (l, n) : At × Taken = search in
    n.take_node-step.auto.stack ∙ l.loop-taken.invariant.walks.high

-- a 5
returns-3 : tie.Need-returns-in-Stopped invariant-loop decreases-loop
returns-3 c =
    let (a, l, i, n) : Opened × At × Within × Taken = search in (
      gathers_stopped _ _ _ _ _ _ _ _ _ _ _ _ _ l.loop-taken.invariant (allowed_is _ _ _ a.allowed_of-allowed.ensures)
          i.loop-taken-test.true
          _ _ _ n.take_node-step.ensures c.in-Stopped.is,
      tt,
    )

-- as many were taken as may be opened: the node passes the node count
same-length-5 : tie.Need-shape_of-list-then-taken-limit invariant-loop decreases-loop
same-length-5 c =
    let l : At = search in
    l.loop-taken.invariant.walks.long

same-length-6 : tie.Need-shape_of-stack-then-taken-limit invariant-loop decreases-loop
same-length-6 c =
    let l : At = search in
    l.loop-taken.invariant.walks.high

returns-4 : tie.Need-returns-then-taken-limit invariant-loop decreases-loop
returns-4 c =
    let (a, l) : Opened × At = search in (
      gathers_past _ _ _ _ _ _ _ _ _ _ _ _ _ l.loop-taken.invariant (allowed_is _ _ _ a.allowed_of-allowed.ensures)
          c.loop-taken-test.false c.if-taken-limit.true,
      tt,
    )

-- or the limit is used up
same-length-7 : tie.Need-shape_of-list invariant-loop decreases-loop
same-length-7 c =
    let l : At = search in
    l.loop-taken.invariant.walks.long

same-length-8 : tie.Need-shape_of-stack invariant-loop decreases-loop
same-length-8 c =
    let l : At = search in
    l.loop-taken.invariant.walks.high

returns-5 : tie.Need-returns invariant-loop decreases-loop
returns-5 c =
    let (a, l) : Opened × At = search in (
      gathers_used _ _ _ _ _ _ _ _ _ _ _ _ _ l.loop-taken.invariant (allowed_is _ _ _ a.allowed_of-allowed.ensures)
          c.loop-taken-test.false c.if-taken-limit.false,
      tt,
    )

pub gather_within_spec : {M : Type 1} → statement M
gather_within_spec =
    tie.close
    (tie.spec
    invariant-loop
    decreases-loop
    returns
    (λ c κs. search rules)  -- allowed_of-allowed-requires
    loop-holds
    take-node-requires
    (search rules)  -- enum_known-step
    (search rules)  -- overflow_add-taken
    (search rules)  -- loop-taken-smaller
    loop-again
    (search rules)  -- enum_known-step-in-Ended-1
    (search rules)  -- overflow_add-result
    same_length
    same-length-2
    returns-2
    (search rules)  -- enum_told-1
    (search rules)  -- overflow_add-result-in-Stopped
    same-length-3
    same-length-4
    returns-3
    (search rules)  -- overflow_add-result-then-taken-limit
    same-length-5
    same-length-6
    returns-4
    same-length-7
    same-length-8
    returns-5)
