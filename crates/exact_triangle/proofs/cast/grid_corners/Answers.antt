-- `exact_triangle::cast::grid_corners` meets its contract. Assumes nothing.
use Rattle.std.proofs.Common.{◌≡◌, true}
use Rattle.lists.proofs.JoinedTests.{test_passed, test_failed}
use Rattle.exact_triangle.specs.Reach.{corners_read}
use Rattle.exact_triangle.proofs.Laws.{first_read, second_read, third_read}
use Rattle.exact_triangle.proofs.cast.grid_corners.Goals as goal

-- a corner is out of range
pub returns-then-not-corners_read : goal.returns-then-not-corners_read
returns-then-not-corners_read c = test_failed c.corners_read.ensures c.if-not-corners_read.true

pub grid_point-a-requires : goal.grid_point-a-requires
grid_point-a-requires c =
    let passed : corners_read c.args.corners ≡ true =
    test_passed c.corners_read.ensures c.if-not-corners_read.false in
    first_read c.args.corners passed

pub grid_point-b-requires : goal.grid_point-b-requires
grid_point-b-requires c =
    let passed : corners_read c.args.corners ≡ true =
    test_passed c.corners_read.ensures c.if-not-corners_read.false in
    second_read c.args.corners passed

pub grid_point-c-requires : goal.grid_point-c-requires
grid_point-c-requires c =
    let passed : corners_read c.args.corners ≡ true =
    test_passed c.corners_read.ensures c.if-not-corners_read.false in
    third_read c.args.corners passed

pub returns : goal.returns
returns c =
    let passed : corners_read c.args.corners ≡ true =
    test_passed c.corners_read.ensures c.if-not-corners_read.false in
    record {
      read = passed;
      first = c.grid_point-a.ensures.0;
      second = c.grid_point-b.ensures.0;
      third = c.grid_point-c.ensures.0;
      near = (c.grid_point-a.ensures.1, (c.grid_point-b.ensures.1, c.grid_point-c.ensures.1));
    }
