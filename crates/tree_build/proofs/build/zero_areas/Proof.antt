-- `tree_build::build::zero_areas` meets its contract. Assumes nothing.
use Rattle.tree_build.specs.Build.{zeroed}
use borrow.Author.Rules.{rules}
use Rattle.tree_build.proofs.build.zero_areas.Statement.{statement}
use Rattle.tree_build.proofs.build.zero_areas.Tie as tie

returns : tie.Need-returns
unfolding zeroed
returns c =
    let (at-zero-numbers, at-zero-numbers2, at-zero-words, at-zero-words2) :
    tie.After-zero_numbers × tie.After-zero_numbers-2 × tie.After-zero_words × tie.After-zero_words-2 = search in
    rw (
      at-zero-numbers.zero_numbers.ensures,
      at-zero-numbers2.zero_numbers-2.ensures,
      at-zero-words.zero_words.ensures,
      at-zero-words2.zero_words-2.ensures,
    )

pub zero_areas_spec : {M : Type 1} → statement M
zero_areas_spec =
    tie.close
    (tie.spec
    (search rules)  -- zero_numbers-requires
    (search rules)  -- zero_numbers-requires-2
    (search rules)  -- zero_words-requires
    (search rules)  -- zero_words-requires-2
    (search rules)  -- shape_of-node_boxes
    (search rules)  -- shape_of-triangle_boxes
    (search rules)  -- shape_of-node_words
    (search rules)  -- shape_of-order
    returns)
