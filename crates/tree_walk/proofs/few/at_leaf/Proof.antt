-- `tree_walk::few::at_leaf` meets its contract. Assumes nothing.
use Rattle.tree_walk.proofs.Places.{leaf_outside, leaf_taken}
use Prim.Native.Nat.{◌+◌, ◌*◌}
use native.Mathlib.Omega.{arith}
use borrow.Author.Rules.{rules}
use Rattle.tree_walk.proofs.few.at_leaf.Statement.{statement}
use Rattle.tree_walk.proofs.few.at_leaf.Tie as tie

add-if1 : tie.Need-overflow_add-start
add-if1 c =
    let (start, at-known) : tie.Start × tie.After-shared_slice_known-2-1 = search in
    omega (
      arith,
      at-known.shared_slice_known-2-1.given (3 * start.args.node + 1),
      at-known.shared_slice_known-2-1.given (3 * start.args.node + 2),
      c.word_at-start.ensures,
      c.word_at-size.ensures,
    )

returns : tie.Need-returns-then-start-size
returns c =
    let at-word-at : tie.After-word_at-start = search in
    leaf_outside _ _ _ _ _ _ _ _ _ _ at-word-at.word_at-start.ensures c.word_at-size.ensures c.if-start-size.true

take-few-requires : tie.Need-take_few-requires
take-few-requires c κs =
    let (start, few, wide) : tie.Start × tie.Then-size-le4 × tie.Then-found-count = search in
    (omega arith, (omega arith, (omega (arith, few.if-size-le4.true), (omega (arith, wide.if-found-count.true), start.requires.1))))

-- the few of them
returns-2 : tie.Need-returns-then-found-count
returns-2 c =
    let (at-word-at, at-word-at2, else1, at-take-few) : tie.After-word_at-start × tie.After-word_at-size × tie.Else-start-size
    × tie.After-take_few = search in
    leaf_taken _ _ _ _ _ _ _ _ _ _ at-word-at.word_at-start.ensures at-word-at2.word_at-size.ensures else1.if-start-size.false _ _
    at-take-few.take_few.ensures

take-places-requires : tie.Need-take_places-requires
take-places-requires c κs =
    let (start, else1) : tie.Start × tie.Else-start-size = search in
    (omega arith, (omega (arith, else1.if-start-size.false), start.requires.1))

-- or all, one after another
returns-3 : tie.Need-returns
returns-3 c =
    let (at-word-at, at-word-at2, else1, at-take-places) :
    tie.After-word_at-start × tie.After-word_at-size × tie.Else-start-size × tie.After-take_places = search in
    leaf_taken _ _ _ _ _ _ _ _ _ _ at-word-at.word_at-start.ensures at-word-at2.word_at-size.ensures else1.if-start-size.false _ _
    at-take-places.take_places.ensures

pub at_leaf_spec : {M : Type 1} → statement M
at_leaf_spec =
    tie.close
    (tie.spec
    (search rules)  -- overflow_mul-node
    (search rules)  -- overflow_add-node
    (search rules)  -- word_at-start-requires
    (search rules)  -- overflow_mul-node-2
    (search rules)  -- overflow_add-node-2
    (search rules)  -- word_at-size-requires
    add-if1
    returns
    (search rules)  -- overflow_add-found
    (search rules)  -- overflow_add-start-then-found-count
    take-few-requires
    (search rules)  -- shape_of-list-then-found-count
    returns-2
    (search rules)  -- overflow_add-start-2
    take-places-requires
    (search rules)  -- shape_of-list
    returns-3)
