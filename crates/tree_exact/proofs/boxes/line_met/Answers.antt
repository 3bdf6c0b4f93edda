-- `tree_exact::boxes::line_met` meets its contract. Assumes nothing.
use lib.Dec.{lit≤}
use mir.Syntax.{w64}
use mir.ValLaws.{to_z-of_z}
use mathlib.Core.Path.{◌∙◌}
use Rattle.wide_integers.proofs.Reading.{plain, widen, sized_bits}
use Rattle.lists.proofs.JoinedTests.{test_passed, test_failed}
use Rattle.tree_exact.proofs.BoxSteps.{unread_met, read_met}
use Rattle.tree_exact.proofs.boxes.line_met.Goals as goal

-- out of range
pub returns-then-not-is_read : goal.returns-then-not-is_read
returns-then-not-is_read c =
    λ l limit sees e. unread_met c.args.line l sees limit c.args.bounds (test_failed c.is_read.ensures c.if-not-is_read.true)

pub room_of-seen-requires : goal.room_of-seen-requires
room_of-seen-requires c = (c.requires, test_passed c.is_read.ensures c.if-not-is_read.false)

pub passes-requires : goal.passes-requires
passes-requires c =
    let t = c.requires.heading_sized in
    (c.room_of-seen.ensures.1, record { heading = t.heading; ahead = sized_bits t.ahead (lit≤ tt) })

-- the room decides
pub returns : goal.returns
returns c =
    let v = c.args.line in
    λ l limit sees past. read_met v l sees limit c.args.bounds (test_passed c.is_read.ensures c.if-not-is_read.false)
    c.passes.ensures (plain (widen c.requires.near (lit≤ tt))) (to_z-of_z w64 c.args.past c.ranges.past ∙ past)
    (plain (widen c.requires.heading_sized.ahead (lit≤ tt))) c.room_of-seen.ensures.0
