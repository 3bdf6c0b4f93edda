-- `tree_query::walk::gather` meets its contract: a box off the first node lists nothing, and else the walk tells. Assumes nothing.
use Rattle.tree.specs.Layout.{Tree, tree_of}
use Rattle.tree_walk.proofs.Walks.{walks_none}
use Rattle.tree_walk.proofs.Nodes.{touch_is}
use Rattle.tree_walk.proofs.OpenNodes.{root_apart}
use native.Mathlib.Omega.{arith}
use borrow.Author.Rules.{rules}
use Rattle.tree_query.proofs.walk.gather.Statement.{statement}
use Rattle.tree_query.proofs.walk.gather.Tie as tie

abbrev tree : tie.Start → Tree
tree s =
    let a = s.args in
    tree_of a.nodes a.node_boxes.now a.triangle_boxes.now a.node_words.now a.order.now

-- no node
returns : tie.Need-returns-then-nodes-eq0
returns c =
    let s : tie.Start = search in
    walks_none (tree s) _ _ _ c.if-nodes-eq0.true

-- there is a first node, so its box is within the area
box-at-requires : tie.Need-box_at-requires
box-at-requires c κs =
    let (s, e) : tie.Start × tie.Else-nodes-eq0 = search in
    omega (arith, s.requires.boxed, e.if-nodes-eq0.false)

-- the box does not touch that of the first node
returns-2 : tie.Need-returns-then-not-touches
returns-2 c =
    let (s, e, b) : tie.Start × tie.Else-nodes-eq0 × tie.After-box_at = search in
    let t = c.touches in
    root_apart (tree s) _ _ _ e.if-nodes-eq0.false (touch_is _ _ _ _ t.ensures b.box_at.ensures _ c.if-not-touches.true)

gather-ahead-requires : tie.Need-gather_ahead-requires
gather-ahead-requires c κs =
    let s : tie.Start = search in
    s.requires

-- what the walk gives
returns-3 : tie.Need-returns
returns-3 c =
    let g : tie.After-gather_ahead = search in
    g.gather_ahead.ensures

pub gather_spec : {M : Type 1} → statement M
gather_spec =
    tie.close
    (tie.spec
    returns
    box-at-requires
    (λ c κs. search rules)  -- touches-requires
    returns-2
    gather-ahead-requires
    (search rules)  -- shape_of-list
    (search rules)  -- shape_of-stack
    returns-3)
