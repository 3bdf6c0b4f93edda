-- `merge::both::both_pass` meets its contract. Assumes nothing.
use Rattle.lists.proofs.JoinedTests.{test_passed, test_failed}
use Rattle.merge.specs.Merge.{says_board}
use Rattle.merge.proofs.TestsTold.{first_tree_fails, second_tree_told}
use Rattle.merge.proofs.both.both_pass.Goals as goal

pub returns-then-not-passes : goal.returns-then-not-passes
returns-then-not-passes c =
    first_tree_fails (says_board c.args.first) (says_board c.args.second) (test_failed c.passes.ensures c.if-not-passes.true)

pub returns : goal.returns
returns c =
    second_tree_told (says_board c.args.first) (says_board c.args.second) (test_passed c.passes.ensures c.if-not-passes.false)
    c.passes-2.result c.passes-2.ensures
