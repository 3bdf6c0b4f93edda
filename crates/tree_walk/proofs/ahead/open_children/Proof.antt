-- `tree_walk::ahead::open_children` meets its contract. Assumes nothing.
use Rattle.tree_walk.proofs.Children.{both_touch, left_touches, right_touches, none_touches}
use Rattle.tree_walk.proofs.Nodes.{touch_is}
use native.Mathlib.Omega.{arith}
use borrow.Author.Rules.{rules}
use Rattle.tree_walk.proofs.ahead.open_children.Statement.{statement}
use Rattle.tree_walk.proofs.ahead.open_children.Tie as tie

-- both touch
returns : tie.Need-returns-then-second
returns c =
    let (s, b, t, b', t', l) :
    tie.Start × tie.After-box_at × tie.After-touches-second × tie.After-box_at-2 × tie.After-touches × tie.Then-touches = search in
    let w = s.requires.1.1 in
    both_touch _ _ _ _ _ _ _ _ _ w (omega (arith, s.requires.1.0, w.tall, w.within))
    (touch_is _ _ _ _ t'.touches.ensures b'.box_at-2.ensures _ l.if-touches.true)
    (touch_is _ _ _ _ t.touches-second.ensures b.box_at.ensures _ c.if-second.true)

-- the left one alone
returns-2 : tie.Need-returns-then-touches
returns-2 c =
    let (s, b, t, b', t', l) :
    tie.Start × tie.After-box_at × tie.After-touches-second × tie.After-box_at-2 × tie.After-touches × tie.Then-touches = search in
    left_touches _ _ _ _ _ _ _ _ _ s.requires.1.1 (touch_is _ _ _ _ t'.touches.ensures b'.box_at-2.ensures _ l.if-touches.true)
    (touch_is _ _ _ _ t.touches-second.ensures b.box_at.ensures _ c.if-second.false)

-- the right one alone
returns-3 : tie.Need-returns-then-second-2
returns-3 c =
    let (s, b, t, b', t', l) :
    tie.Start × tie.After-box_at × tie.After-touches-second × tie.After-box_at-2 × tie.After-touches × tie.Else-touches = search in
    right_touches _ _ _ _ _ _ _ _ _ s.requires.1.1 (touch_is _ _ _ _ t'.touches.ensures b'.box_at-2.ensures _ l.if-touches.false)
    (touch_is _ _ _ _ t.touches-second.ensures b.box_at.ensures _ c.if-second-2.true)

-- neither
returns-4 : tie.Need-returns
returns-4 c =
    let (s, b, t, b', t', l, k) :
    tie.Start × tie.After-box_at × tie.After-touches-second × tie.After-box_at-2 × tie.After-touches × tie.Else-touches
    × tie.Else-second-2 = search in
    none_touches _ _ _ _ _ _ _ _ _ s.requires.1.1 (touch_is _ _ _ _ t'.touches.ensures b'.box_at-2.ensures _ l.if-touches.false)
    (touch_is _ _ _ _ t.touches-second.ensures b.box_at.ensures _ k.if-second-2.false) _ c.next_open.ensures

pub open_children_spec : {M : Type 1} → statement M
open_children_spec =
    tie.close
    (tie.spec
    (search rules)  -- box_at-requires
    (search rules)  -- touches-second-requires
    (search rules)  -- box_at-requires-2
    (search rules)  -- touches-requires
    (search rules)  -- offset_bounds-stack-top
    (search rules)  -- bounds-stack-top
    (search rules)  -- overflow_add-result
    (search rules)  -- shape_of-stack-then-second
    returns
    returns-2
    returns-3
    (search rules)  -- next_open-requires
    (search rules)  -- shape_of-stack
    returns-4)
