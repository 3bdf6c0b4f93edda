-- `tree_ranges::plain::vector_is_plain` meets its contract. Assumes nothing.
use mathlib.Core.Path.{◌∙◌}
use Rattle.lists.proofs.JoinedTests.{test_failed, test_passed}
use Rattle.tree_ranges.specs.Plain.{plain, plain_vec}
use Rattle.tree_ranges.proofs.PlainNumbers.{last_decides}
use borrow.Author.Rules.{rules}
use Rattle.tree_ranges.proofs.plain.vector_is_plain.Statement.{statement}
use Rattle.tree_ranges.proofs.plain.vector_is_plain.Tie as tie

returns : tie.Need-returns-then-not-is_plain
unfolding plain_vec
returns c = simp (test_failed c.is_plain.ensures c.if-not-is_plain.true)

returns-2 : tie.Need-returns-then-not-is_plain-2
unfolding plain_vec
returns-2 c =
    let (a, x) : tie.After-is_plain × tie.Else-not-is_plain = search in
    simp (test_passed a.is_plain.ensures x.if-not-is_plain.false, test_failed c.is_plain-2.ensures c.if-not-is_plain-2.true)

returns-3 : tie.Need-returns
unfolding plain_vec
returns-3 c =
    let (s, a, x, b, y) : tie.Start × tie.After-is_plain × tie.Else-not-is_plain × tie.After-is_plain-2
    × tie.Else-not-is_plain-2 = search in
    c.is_plain-3.ensures
    ∙ last_decides (plain s.args.v.x) (plain s.args.v.y) (plain s.args.v.z)
    (test_passed a.is_plain.ensures x.if-not-is_plain.false) (test_passed b.is_plain-2.ensures y.if-not-is_plain-2.false)

pub vector_is_plain_spec : {M : Type 1} → statement M
vector_is_plain_spec =
    tie.close (tie.spec
    (search rules)  -- is_plain-requires
    returns
    (search rules)  -- is_plain-requires-2
    returns-2
    (search rules)  -- is_plain-requires-3
    returns-3)
