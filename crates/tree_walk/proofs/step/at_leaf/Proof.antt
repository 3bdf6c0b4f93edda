-- `tree_walk::step::at_leaf` meets its contract. Assumes nothing.
use Rattle.tree_walk.proofs.Places.{leaf_outside, leaf_taken}
use Prim.Native.Nat.{◌+◌, ◌*◌}
use native.Mathlib.Omega.{arith}
use borrow.Author.Rules.{rules}
use Rattle.tree_walk.proofs.step.at_leaf.Statement.{statement}
use Rattle.tree_walk.proofs.step.at_leaf.Tie as tie

add-if1 : tie.Need-overflow_add-start
add-if1 c =
    let (start, at-shared-slice-known2) : tie.Start × tie.After-shared_slice_known-2-1 = search in
    omega (
      arith,
      at-shared-slice-known2.shared_slice_known-2-1.given (3 * start.args.node + 1),
      at-shared-slice-known2.shared_slice_known-2-1.given (3 * start.args.node + 2),
      c.word_at-start.ensures,
      c.word_at-size.ensures,
    )

returns : tie.Need-returns-then-start-size
returns c =
    let at-word-at : tie.After-word_at-start = search in
    leaf_outside _ _ _ _ _ _ _ _ _ _ at-word-at.word_at-start.ensures c.word_at-size.ensures c.if-start-size.true

add-take-places : tie.Need-overflow_add-start-2
add-take-places c =
    let (start, at-shared-slice-known2, at-word-at) : tie.Start × tie.After-shared_slice_known-2-1 × tie.After-word_at-start = search in
    omega (
      arith,
      at-shared-slice-known2.shared_slice_known-2-1.given (3 * start.args.node + 1),
      at-shared-slice-known2.shared_slice_known-2-1.given (3 * start.args.node + 2),
      at-word-at.word_at-start.ensures,
      c.word_at-size.ensures,
    )

take-places-requires : tie.Need-take_places-requires
take-places-requires c κs =
    let start : tie.Start = search in
    (omega arith, (omega arith, start.requires.1))

same_length : tie.Need-shape_of-list
same_length c =
    let at-take-places : tie.After-take_places = search in
    at-take-places.take_places.auto.list

returns-2 : tie.Need-returns
returns-2 c =
    let (at-word-at, at-word-at2, else1, at-take-places) :
    tie.After-word_at-start × tie.After-word_at-size × tie.Else-start-size × tie.After-take_places = search in
    leaf_taken _ _ _ _ _ _ _ _ _ _ at-word-at.word_at-start.ensures at-word-at2.word_at-size.ensures else1.if-start-size.false _ _
    at-take-places.take_places.ensures

pub at_leaf_spec : {M : Type 1} → statement M
at_leaf_spec =
    tie.close
    (tie.spec
    (search rules)  -- overflow_mul-node
    (search rules)  -- overflow_add-node
    (search rules)  -- word_at-start-requires
    (search rules)  -- overflow_mul-node-2
    (search rules)  -- overflow_add-node-2
    (search rules)  -- word_at-size-requires
    add-if1
    returns
    add-take-places
    take-places-requires
    same_length
    returns-2)
