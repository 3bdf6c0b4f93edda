-- `exact_triangle::view::admitted` meets its contract. Assumes nothing.
use Rattle.lists.proofs.JoinedTests.{test_passed, test_failed, first_fails, second_fails, third_fails}
use Rattle.std.proofs.Common.{Bool}
use Rattle.exact_triangle.specs.Grid.{within, all_within, furthest, two, longest, grid_admitted}
use Rattle.exact_triangle.proofs.Laws.{four_tells}
use Rattle.exact_triangle.proofs.view.admitted.Goals as goal

pub returns-then-not-all_within : goal.returns-then-not-all_within
unfolding grid_admitted
returns-then-not-all_within c =
    let first : Bool =
    all_within furthest c.args.ray.origin in
    let second : Bool =
    all_within two c.args.ray.direction in
    let third : Bool =
    within longest c.args.ray.near in
    let fourth : Bool =
    within longest c.args.ray.max_distance in
    first_fails first second third fourth
    (test_failed c.all_within.ensures c.if-not-all_within.true)

pub returns-then-not-all_within-2 : goal.returns-then-not-all_within-2
unfolding grid_admitted
returns-then-not-all_within-2 c =
    let first : Bool =
    all_within furthest c.args.ray.origin in
    let second : Bool =
    all_within two c.args.ray.direction in
    let third : Bool =
    within longest c.args.ray.near in
    let fourth : Bool =
    within longest c.args.ray.max_distance in
    second_fails first second third fourth
    (test_passed c.all_within.ensures c.if-not-all_within.false) (test_failed c.all_within-2.ensures c.if-not-all_within-2.true)

pub returns-then-not-within : goal.returns-then-not-within
unfolding grid_admitted
returns-then-not-within c =
    let first : Bool =
    all_within furthest c.args.ray.origin in
    let second : Bool =
    all_within two c.args.ray.direction in
    let third : Bool =
    within longest c.args.ray.near in
    let fourth : Bool =
    within longest c.args.ray.max_distance in
    third_fails first second third fourth
    (test_passed c.all_within.ensures c.if-not-all_within.false) (test_passed c.all_within-2.ensures c.if-not-all_within-2.false)
    (test_failed c.within.ensures c.if-not-within.true)

pub returns : goal.returns
unfolding grid_admitted
returns c =
    let first : Bool =
    all_within furthest c.args.ray.origin in
    let second : Bool =
    all_within two c.args.ray.direction in
    let third : Bool =
    within longest c.args.ray.near in
    let fourth : Bool =
    within longest c.args.ray.max_distance in
    four_tells first second third fourth
    (test_passed c.all_within.ensures c.if-not-all_within.false) (test_passed c.all_within-2.ensures c.if-not-all_within-2.false)
    (test_passed c.within.ensures c.if-not-within.false) c.within-2.ensures
