-- `exact_hits::walk::box_opens` meets its contract. Assumes nothing.
use mathlib.Core.Path.{sym, ap, ◌∙◌}
use mathlib.Core.Bool.{Bool, ◌&&◌}
use Rattle.lists.proofs.JoinedTests.{test_passed, test_failed}
use Rattle.exact_hits.specs.LineWalk.{line_meets, box_opens}
use Rattle.exact_hits.proofs.walk.box_opens.Goals as goal

-- apart from the box that the walk goes by
pub returns-then-not-touches : goal.returns-then-not-touches
unfolding box_opens
returns-then-not-touches c =
    λ l sees. sym (ap (λ (b : Bool). b && line_meets l c.args.bounds) (test_failed c.touches.ensures c.if-not-touches.true))

-- the line decides
pub returns : goal.returns
unfolding box_opens
returns c =
    λ l sees.
    c.line_meets.ensures l sees
    ∙ sym (ap (λ (b : Bool). b && line_meets l c.args.bounds) (test_passed c.touches.ensures c.if-not-touches.false))
