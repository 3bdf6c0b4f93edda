-- `exact_triangle::cast::corners_read` meets its contract. Assumes nothing.
use Rattle.lists.proofs.JoinedTests.{test_passed, test_failed}
use Rattle.std.proofs.Common.{Bool}
use Rattle.geometry.specs.Box.{corner}
use Rattle.exact_triangle.specs.Grid.{all_within, furthest}
use Rattle.exact_triangle.specs.Reach.{corners_read}
use Rattle.exact_triangle.proofs.Laws.{first_off, second_off, third_tells}
use Rattle.exact_triangle.proofs.cast.corners_read.Goals as goal

pub returns-then-not-all_within : goal.returns-then-not-all_within
unfolding corners_read
returns-then-not-all_within c =
    let one : Bool =
    all_within furthest (corner c.args.corners 0) in
    let two : Bool =
    all_within furthest (corner c.args.corners 1) in
    let three : Bool =
    all_within furthest (corner c.args.corners 2) in
    first_off one two three (test_failed c.all_within.ensures c.if-not-all_within.true)

pub returns-then-not-all_within-2 : goal.returns-then-not-all_within-2
unfolding corners_read
returns-then-not-all_within-2 c =
    let one : Bool =
    all_within furthest (corner c.args.corners 0) in
    let two : Bool =
    all_within furthest (corner c.args.corners 1) in
    let three : Bool =
    all_within furthest (corner c.args.corners 2) in
    second_off one two three
    (test_passed c.all_within.ensures c.if-not-all_within.false) (test_failed c.all_within-2.ensures c.if-not-all_within-2.true)

pub returns : goal.returns
unfolding corners_read
returns c =
    let one : Bool =
    all_within furthest (corner c.args.corners 0) in
    let two : Bool =
    all_within furthest (corner c.args.corners 1) in
    let three : Bool =
    all_within furthest (corner c.args.corners 2) in
    third_tells one two three
    (test_passed c.all_within.ensures c.if-not-all_within.false) (test_passed c.all_within-2.ensures c.if-not-all_within-2.false)
    c.all_within-3.ensures
