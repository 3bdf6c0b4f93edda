-- `tree_walk::ahead::open_node` meets its contract. Assumes nothing.
use Rattle.tree_walk.proofs.OpenNodes.{open_worded, open_unknown, open_leaf_broken, open_leaf_listed, open_branch_taken}
use native.Mathlib.Omega.{arith}
use borrow.Author.Rules.{rules}
use Rattle.tree_walk.proofs.ahead.open_node.Statement.{statement}
use Rattle.tree_walk.proofs.ahead.open_node.Tie as tie

mul-word-at : tie.Need-overflow_mul-node
mul-word-at c =
    let s : tie.Start = search in
    omega (arith, open_worded _ s.args.bounds _ _ _ _ _ _ _ s.requires)

word-at-requires : tie.Need-word_at-kind-requires
word-at-requires c κs =
    let s : tie.Start = search in
    omega (arith, open_worded _ s.args.bounds _ _ _ _ _ _ _ s.requires)

at-leaf-requires : tie.Need-at_leaf-leaf-requires
at-leaf-requires c κs =
    let s : tie.Start = search in
    (open_worded _ s.args.bounds _ _ _ _ _ _ _ s.requires, s.requires.places)

-- a leaf that is 5
returns : tie.Need-returns-in_default
returns c =
    let (s, w, k, l) : tie.Start × tie.After-word_at-kind × tie.Then-kind-eq0 × tie.After-at_leaf-leaf = search in
    open_leaf_broken _ _ _ _ _ _ _ _ _ s.requires _ w.word_at-kind.ensures k.if-kind-eq0.true _ _ l.at_leaf-leaf.ensures c.in_default.is

-- a leaf: its triangles are listed
returns-2 : tie.Need-returns-then-kind-eq0
returns-2 c =
    let (s, w, k, l, f) : tie.Start × tie.After-word_at-kind × tie.Then-kind-eq0 × tie.After-at_leaf-leaf × tie.In-Some = search in
    open_leaf_listed _ _ _ _ _ _ _ _ _ s.requires _ w.word_at-kind.ensures k.if-kind-eq0.true _ _ l.at_leaf-leaf.ensures _ f.in-Some.is _
    c.next_open.ensures

-- neither leaf nor branch
returns-3 : tie.Need-returns-then-kind-ne1
returns-3 c =
    let (s, w) : tie.Start × tie.After-word_at-kind = search in
    open_unknown _ _ _ _ _ _ _ _ _ s.requires _ w.word_at-kind.ensures c.if-kind-eq0.false c.if-kind-ne1.true

open-branch-requires : tie.Need-open_branch-requires
open-branch-requires c κs =
    let s : tie.Start = search in
    (open_worded _ s.args.bounds _ _ _ _ _ _ _ s.requires, (s.requires.boxed, (s.requires.high, s.requires.opens)))

-- a branch
returns-4 : tie.Need-returns
returns-4 c =
    let (s, w, e, b) : tie.Start × tie.After-word_at-kind × tie.Else-kind-ne1 × tie.After-open_branch = search in
    open_branch_taken _ _ _ _ _ _ _ _ _ s.requires _ w.word_at-kind.ensures e.if-kind-ne1.false _ _ b.open_branch.ensures

pub open_node_spec : {M : Type 1} → statement M
open_node_spec =
    tie.close
    (tie.spec
    mul-word-at
    word-at-requires
    at-leaf-requires
    (search rules)  -- enum_known-leaf
    (search rules)  -- enum_told-1
    (search rules)  -- shape_of-list-in_default
    returns
    (search rules)  -- next_open-requires
    (search rules)  -- shape_of-list-then-kind-eq0
    (search rules)  -- shape_of-stack-then-kind-eq0
    returns-2
    returns-3
    open-branch-requires
    (search rules)  -- shape_of-stack
    returns-4)
