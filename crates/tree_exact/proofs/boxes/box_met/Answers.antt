-- `tree_exact::boxes::box_met` meets its contract. Assumes nothing.
use mathlib.Core.Path.{sym, ◌∙◌}
use mir.Syntax.{w64}
use mir.ValLaws.{to_z-of_z}
use Rattle.lists.proofs.JoinedTests.{test_passed, test_failed}
use Rattle.tree_exact.proofs.BoxSteps.{apart_met, short_met, long_met}
use Rattle.tree_exact.proofs.boxes.box_met.Goals as goal

-- apart from the segment's box
pub returns-then-not-touches : goal.returns-then-not-touches
returns-then-not-touches c =
    λ l limit sees box past. apart_met l limit c.args.bounds _ box
    (test_failed c.touches.ensures c.if-not-touches.true) c.is_read.ensures

pub is_short-requires : goal.is_short-requires
is_short-requires c = c.requires

-- a short segment
pub returns-then-is_short : goal.returns-then-is_short
returns-then-is_short c =
    λ l limit sees box past. short_met l limit c.args.bounds _ box
    (test_passed c.touches.ensures c.if-not-touches.false) (sym (c.is_short.ensures l sees) ∙ c.if-is_short.true)

pub line_met-requires : goal.line_met-requires
line_met-requires c = c.requires

-- the line decides
pub returns : goal.returns
returns c =
    λ l limit sees box past. long_met l limit c.args.bounds _ box
    (test_passed c.touches.ensures c.if-not-touches.false) (sym (c.is_short.ensures l sees) ∙ c.if-is_short.false)
    (c.line_met.ensures l limit sees (to_z-of_z w64 c.args.past c.ranges.past ∙ past))
