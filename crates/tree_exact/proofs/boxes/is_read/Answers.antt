-- `tree_exact::boxes::is_read` meets its contract. Assumes nothing.
use mathlib.Core.Path.{sym, ap, ◌∙◌}
use mathlib.Core.Bool.{Bool, ◌&&◌}
use Rattle.lists.proofs.JoinedTests.{test_passed, test_failed}
use Rattle.exact_triangle.specs.Grid.{all_within, furthest}
use Rattle.tree_exact.proofs.boxes.is_read.Goals as goal

-- the lower corner is out of range
pub returns-then-not-all_within : goal.returns-then-not-all_within
returns-then-not-all_within c =
    sym (ap (λ (k : Bool). k && all_within furthest c.args.bounds.max) (test_failed c.all_within.ensures c.if-not-all_within.true))

-- the upper one decides
pub returns : goal.returns
returns c =
    c.all_within-2.ensures
    ∙ sym (ap (λ (k : Bool). k && all_within furthest c.args.bounds.max) (test_passed c.all_within.ensures c.if-not-all_within.false))
