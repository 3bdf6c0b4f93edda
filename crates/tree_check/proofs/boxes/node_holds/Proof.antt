-- `tree_check::boxes::node_holds` meets its contract. Assumes nothing.
use Rattle.tree_check.proofs.Holds.{leaf_holds, branch_holds, leaf_here, branch_here}
use native.Mathlib.Omega.{arith}
use mathlib.Core.Path.{sym, ◌∙◌}
use borrow.Author.Rules.{rules}
use Rattle.tree_check.proofs.boxes.node_holds.Statement.{statement}
use Rattle.tree_check.proofs.boxes.node_holds.Tie as tie

add-places-enclosed : tie.Need-overflow_add-first
add-places-enclosed c =
    let (start, at-word-at, at-word-at2) : tie.Start × tie.After-word_at-first × tie.After-word_at-second = search in
    let leaf = leaf_here _ _ _ _ _ _ _ start.requires.1 start.requires.0 (sym c.word_at.ensures ∙ c.if-word_at-eq0.true) in omega
    (arith, leaf, at-word-at.word_at-first.ensures, at-word-at2.word_at-second.ensures, start.ranges.n)

places-enclosed-requires : tie.Need-places_enclosed-requires
places-enclosed-requires c κs =
    let (start, at-word-at, at-word-at2) : tie.Start × tie.After-word_at-first × tie.After-word_at-second = search in
    let leaf = leaf_here _ _ _ _ _ _ _ start.requires.1 start.requires.0 (sym c.word_at.ensures ∙ c.if-word_at-eq0.true) in (
      omega (arith, leaf, at-word-at.word_at-first.ensures, at-word-at2.word_at-second.ensures, start.requires.1.order_long),
      λ p h. start.requires.1.triangles_there p (omega (
        arith,
        h,
        leaf,
        at-word-at.word_at-first.ensures,
        at-word-at2.word_at-second.ensures,
      )),
    )

returns : tie.Need-returns-then-word_at-eq0
returns c =
    let (at-box-at, at-word-at, at-word-at2, at-word-at3) :
    tie.After-box_at-outer × tie.After-word_at-first × tie.After-word_at-second × tie.After-word_at = search in
    c.places_enclosed.ensures ∙ leaf_holds _ _ _ _ _ _ _ _ at-box-at.box_at-outer.ensures at-word-at.word_at-first.ensures
    at-word-at2.word_at-second.ensures (sym at-word-at3.word_at.ensures ∙ c.if-word_at-eq0.true)

children-enclosed-requires : tie.Need-children_enclosed-requires
children-enclosed-requires c κs =
    let (start, at-word-at, at-word-at2) : tie.Start × tie.After-word_at-first × tie.After-word_at-second = search in
    let branch = branch_here _ _ _ _ _ _ _ start.requires.1 start.requires.0 (λ k. c.if-word_at-eq0.false (c.word_at.ensures ∙ k)) in (
      omega (arith, branch, at-word-at.word_at-first.ensures, start.requires.1.boxes_long),
      omega
          (arith, branch, at-word-at2.word_at-second.ensures, start.requires.1.boxes_long),
    )

returns-2 : tie.Need-returns
returns-2 c =
    let (at-box-at, at-word-at, at-word-at2, at-word-at3) :
    tie.After-box_at-outer × tie.After-word_at-first × tie.After-word_at-second × tie.After-word_at = search in
    c.children_enclosed.ensures ∙ branch_holds _ _ _ _ _ _ _ _ at-box-at.box_at-outer.ensures at-word-at.word_at-first.ensures
    at-word-at2.word_at-second.ensures (λ k. c.if-word_at-eq0.false (at-word-at3.word_at.ensures ∙ k))

pub node_holds_spec : {M : Type 1} → statement M
node_holds_spec =
    tie.close
    (tie.spec
    (search rules)  -- box_at-outer-requires
    (search rules)  -- overflow_mul-node
    (search rules)  -- overflow_add-node
    (search rules)  -- word_at-first-requires
    (search rules)  -- overflow_mul-node-2
    (search rules)  -- overflow_add-node-2
    (search rules)  -- word_at-second-requires
    (search rules)  -- overflow_mul-node-3
    (search rules)  -- word_at-requires
    add-places-enclosed
    places-enclosed-requires
    returns
    children-enclosed-requires
    returns-2)
