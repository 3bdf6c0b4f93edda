-- `tree_copy::copying::copy_node` meets its contract. Assumes nothing.
use mathlib.Core.Path.{ap, ◌∙◌}
use Prim.Native.Nat.{◌+◌, ◌*◌}
use native.Mathlib.Omega.{arith}
use lib.Seq.{sets}
use Rattle.tree_copy.proofs.CopyLaws.{leaf_words, branch_words}
use borrow.Author.Rules.{rules}
use Rattle.tree_copy.proofs.copying.copy_node.Statement.{statement}
use Rattle.tree_copy.proofs.copying.copy_node.Tie as tie

add-put-words : tie.Need-overflow_add-first
add-put-words c =
    let (start, at-word-at) : tie.Start × tie.After-word_at-first = search in
    omega (
      arith,
      at-word-at.word_at-first.ensures,
      start.requires.1.leaf
          c.if-kind-eq0.true,
    )

put-words-requires : tie.Need-put_words-requires
put-words-requires c κs =
    let (start, at-shared-slice-known2, at-word-at, at-word-at2) :
    tie.Start × tie.After-shared_slice_known-2-1 × tie.After-word_at-first × tie.After-word_at-second = search in (
      omega (arith, start.requires.0),
      (
        omega (
          arith,
          at-word-at.word_at-first.ensures,
          start.requires.1.leaf
              c.if-kind-eq0.true,
        ),
        omega (
          arith,
          at-word-at2.word_at-second.ensures,
          at-shared-slice-known2.shared_slice_known-2-1.given
              (3 * start.args.node + 2),
        ),
      ),
    )

returns : tie.Need-returns-then-kind-eq0
returns c =
    let (start, at-word-at, at-word-at2, then1, at-put-words) :
    tie.Start × tie.After-word_at-first × tie.After-word_at-second × tie.Then-kind-eq0 × tie.After-put_words = search in
    let a = start.args in
    at-put-words.put_words.ensures
    ∙ ap (sets a.area.now a.place)
    (leaf_words a.words.now a.nodes a.places a.node at-word-at.word_at-first.result
    at-word-at2.word_at-second.result then1.if-kind-eq0.true
    at-word-at.word_at-first.ensures at-word-at2.word_at-second.ensures)

add-put-words-2 : tie.Need-overflow_add-first-2
add-put-words-2 c =
    let (start, at-word-at) : tie.Start × tie.After-word_at-first = search in
    omega (
      arith,
      at-word-at.word_at-first.ensures,
      start.requires.1.left
          c.if-kind-eq0.false,
    )

add-put-words-3 : tie.Need-overflow_add-second
add-put-words-3 c =
    let (start, at-word-at2) : tie.Start × tie.After-word_at-second = search in
    omega (
      arith,
      at-word-at2.word_at-second.ensures,
      start.requires.1.right
          c.if-kind-eq0.false,
    )

put-words-requires-2 : tie.Need-put_words-requires-2
put-words-requires-2 c κs =
    let (start, at-word-at, at-word-at2) : tie.Start × tie.After-word_at-first × tie.After-word_at-second = search in (
      omega (arith, start.requires.0),
      (
        omega (
          arith,
          at-word-at.word_at-first.ensures,
          start.requires.1.left
              c.if-kind-eq0.false,
        ),
        omega (
          arith,
          at-word-at2.word_at-second.ensures,
          start.requires.1.right
              c.if-kind-eq0.false,
        ),
      ),
    )

returns-2 : tie.Need-returns
returns-2 c =
    let (start, at-word-at, at-word-at2, else1, at-put-words2) :
    tie.Start × tie.After-word_at-first × tie.After-word_at-second × tie.Else-kind-eq0 × tie.After-put_words-2 = search in
    let a = start.args in
    at-put-words2.put_words-2.ensures
    ∙ ap (sets a.area.now a.place)
    (branch_words a.words.now a.nodes a.places a.node at-word-at.word_at-first.result
    at-word-at2.word_at-second.result else1.if-kind-eq0.false
    at-word-at.word_at-first.ensures at-word-at2.word_at-second.ensures)

pub copy_node_spec : {M : Type 1} → statement M
copy_node_spec =
    tie.close
    (tie.spec
    (search rules)  -- overflow_mul-kind
    (search rules)  -- offset_bounds-words-node
    (search rules)  -- bounds-words-node
    (search rules)  -- overflow_mul-node
    (search rules)  -- overflow_add-node
    (search rules)  -- word_at-first-requires
    (search rules)  -- overflow_mul-node-2
    (search rules)  -- overflow_add-node-2
    (search rules)  -- word_at-second-requires
    add-put-words
    put-words-requires
    (search rules)  -- shape_of-area-then-kind-eq0
    returns
    add-put-words-2
    add-put-words-3
    put-words-requires-2
    (search rules)  -- shape_of-area
    returns-2)
