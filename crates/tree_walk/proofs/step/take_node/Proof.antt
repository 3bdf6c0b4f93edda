-- `tree_walk::step::take_node` meets its contract. Assumes nothing.
use Rattle.tree_walk.proofs.Nodes.{touch_is, rest_below, node_boxed, node_worded, node_missed, kind_unknown, leaf_broken}
use Rattle.tree_walk.proofs.Nodes.{leaf_listed, branch_taken}
use native.Mathlib.Omega.{arith}
use borrow.Author.Rules.{rules}
use Rattle.tree_walk.proofs.step.take_node.Statement.{statement}
use Rattle.tree_walk.proofs.step.take_node.Tie as tie

box-at-requires : tie.Need-box_at-requires
box-at-requires c κs =
    let start : tie.Start = search in
    node_boxed _ start.args.bounds _ _ _ _ _ _ start.requires

returns : tie.Need-returns-then-not-touches
returns c =
    let (start, at-box-at, at-touches, then1) : tie.Start × tie.After-box_at × tie.After-touches × tie.Then-not-touches = search in
    node_missed _ _ _ _ _ _ _ _ start.requires (touch_is _ _ _ _ at-touches.touches.ensures at-box-at.box_at.ensures _
    then1.if-not-touches.true) _ c.pop.ensures

mul-word-at : tie.Need-overflow_mul-node
mul-word-at c =
    let start : tie.Start = search in
    omega (arith, node_worded _ start.args.bounds _ _ _ _ _ _ start.requires)

word-at-requires : tie.Need-word_at-kind-requires
word-at-requires c κs =
    let start : tie.Start = search in
    omega (arith, node_worded _ start.args.bounds _ _ _ _ _ _ start.requires)

at-leaf-requires : tie.Need-at_leaf-leaf-requires
at-leaf-requires c κs =
    let start : tie.Start = search in
    (node_worded _ start.args.bounds _ _ _ _ _ _ start.requires, start.requires.places)

returns-2 : tie.Need-returns-in_default
returns-2 c =
    let (start, at-box-at, at-touches, else1, at-word-at, then2, at-at-leaf) :
    tie.Start × tie.After-box_at × tie.After-touches × tie.Else-not-touches × tie.After-word_at-kind × tie.Then-kind-eq0
    × tie.After-at_leaf-leaf = search in
    leaf_broken _ _ _ _ _ _ _ _ start.requires (touch_is _ _ _ _ at-touches.touches.ensures at-box-at.box_at.ensures _
    else1.if-not-touches.false) _ at-word-at.word_at-kind.ensures then2.if-kind-eq0.true _ _
    at-at-leaf.at_leaf-leaf.ensures c.in_default.is

returns-3 : tie.Need-returns-then-kind-eq0
returns-3 c =
    let (start, at-box-at, at-touches, else1, at-word-at, then2, at-at-leaf, at_leaf) :
    tie.Start × tie.After-box_at × tie.After-touches × tie.Else-not-touches × tie.After-word_at-kind × tie.Then-kind-eq0
    × tie.After-at_leaf-leaf × tie.In-Some =
    search in
    leaf_listed _ _ _ _ _ _ _ _ start.requires (touch_is _ _ _ _ at-touches.touches.ensures at-box-at.box_at.ensures _
    else1.if-not-touches.false) _ at-word-at.word_at-kind.ensures then2.if-kind-eq0.true _ _
    at-at-leaf.at_leaf-leaf.ensures _ at_leaf.in-Some.is _ c.pop-then-kind-eq0.ensures

returns-4 : tie.Need-returns-then-kind-ne1
returns-4 c =
    let (start, at-box-at, at-touches, else1, at-word-at) :
    tie.Start × tie.After-box_at × tie.After-touches × tie.Else-not-touches × tie.After-word_at-kind = search in
    kind_unknown _ _ _ _ _ _ _ _ start.requires (touch_is _ _ _ _ at-touches.touches.ensures at-box-at.box_at.ensures _
    else1.if-not-touches.false) _ at-word-at.word_at-kind.ensures c.if-kind-eq0.false c.if-kind-ne1.true

at-branch-requires : tie.Need-at_branch-requires
at-branch-requires c κs =
    let start : tie.Start = search in (
      node_worded _ start.args.bounds _ _ _ _ _ _ start.requires,
      (start.requires.taller, rest_below _ start.args.bounds _ _ _ _ _ _ start.requires),
    )

returns-5 : tie.Need-returns
returns-5 c =
    let (start, at-box-at, at-touches, else1, at-word-at, else3, at-at-branch) :
    tie.Start × tie.After-box_at × tie.After-touches × tie.Else-not-touches × tie.After-word_at-kind × tie.Else-kind-ne1
    × tie.After-at_branch = search in
    branch_taken _ _ _ _ _ _ _ _ start.requires (touch_is _ _ _ _ at-touches.touches.ensures at-box-at.box_at.ensures _
    else1.if-not-touches.false) _ at-word-at.word_at-kind.ensures else3.if-kind-ne1.false _ _
    at-at-branch.at_branch.ensures

pub take_node_spec : {M : Type 1} → statement M
take_node_spec =
    tie.close
    (tie.spec
    box-at-requires
    (search rules)  -- touches-requires
    (search rules)  -- pop-requires
    (search rules)  -- shape_of-stack-then-not-touches
    returns
    mul-word-at
    word-at-requires
    at-leaf-requires
    (search rules)  -- enum_known-leaf
    (search rules)  -- enum_told-1
    (search rules)  -- shape_of-list-in_default
    returns-2
    (search rules)  -- pop-requires-then-kind-eq0
    (search rules)  -- shape_of-list-then-kind-eq0
    (search rules)  -- shape_of-stack-then-kind-eq0
    returns-3
    returns-4
    at-branch-requires
    (search rules)  -- shape_of-stack
    returns-5)
