-- `tree_ranges::plain::box_is_plain` meets its contract. Assumes nothing.
use mathlib.Core.Path.{ap, ◌∙◌}
use Rattle.lists.proofs.JoinedTests.{test_failed, test_passed}
use Rattle.tree_ranges.specs.Plain.{plain_vec, plain_box}
use Rattle.geometry.specs.Box.{centre}
use Rattle.tree_ranges.proofs.PlainNumbers.{last_decides}
use borrow.Author.Rules.{rules}
use Rattle.tree_ranges.proofs.plain.box_is_plain.Statement.{statement}
use Rattle.tree_ranges.proofs.plain.box_is_plain.Tie as tie

returns : tie.Need-returns-then-not-vector_is_plain
unfolding plain_box
returns c = simp (test_failed c.vector_is_plain.ensures c.if-not-vector_is_plain.true)

returns-2 : tie.Need-returns-then-not-vector_is_plain-2
unfolding plain_box
returns-2 c =
    let (a, x) : tie.After-vector_is_plain × tie.Else-not-vector_is_plain = search in
    simp (
      test_passed a.vector_is_plain.ensures x.if-not-vector_is_plain.false,
      test_failed c.vector_is_plain-2.ensures
          c.if-not-vector_is_plain-2.true,
    )

returns-3 : tie.Need-returns
unfolding plain_box
returns-3 c =
    let (s, a, x, b, y, m) :
    tie.Start × tie.After-vector_is_plain × tie.Else-not-vector_is_plain × tie.After-vector_is_plain-2 × tie.Else-not-vector_is_plain-2
    × tie.After-center = search in
    c.vector_is_plain-3.ensures
    ∙ ap plain_vec m.center.ensures
    ∙ last_decides (plain_vec s.args.b.min) (plain_vec s.args.b.max) (plain_vec (centre s.args.b))
    (test_passed a.vector_is_plain.ensures x.if-not-vector_is_plain.false)
    (test_passed b.vector_is_plain-2.ensures y.if-not-vector_is_plain-2.false)

pub box_is_plain_spec : {M : Type 1} → statement M
box_is_plain_spec =
    tie.close (tie.spec
    (search rules)  -- vector_is_plain-requires
    returns
    (search rules)  -- vector_is_plain-requires-2
    returns-2
    (search rules)  -- center-requires
    (search rules)  -- vector_is_plain-requires-3
    returns-3)
