-- `merge::testing::shapes_fit` meets its contract. Assumes nothing.
use mathlib.Core.Path.{◌∙◌}
use mathlib.Core.Bool.{◌&&◌}
use Prim.Native.Nat.{◌+◌, ◌%◌}
use lib.Dec.{eqb, leb}
use Rattle.merge.specs.Merge.{shapes_fit}
use Rattle.merge.proofs.TestLaws.{fourth_told}
use Rattle.lists.proofs.JoinedTests.{test_passed, test_failed, first_fails, second_fails, third_fails}
use Rattle.merge.proofs.testing.shapes_fit.Goals as goal

pub returns-then-not-divided : goal.returns-then-not-divided
unfolding shapes_fit
returns-then-not-divided c =
    first_fails (eqb (c.args.v % 3) 0 && eqb (c.args.t % 3) 0)
    (eqb (c.args.w % 3) 0 && eqb (c.args.u % 3) 0)
    (leb (c.args.v + c.args.w) 196608)
    (leb (c.args.t + c.args.u) 196608)
    (test_failed c.divided.ensures c.if-not-divided.true)

pub returns-then-not-divided-2 : goal.returns-then-not-divided-2
unfolding shapes_fit
returns-then-not-divided-2 c =
    second_fails (eqb (c.args.v % 3) 0 && eqb (c.args.t % 3) 0)
    (eqb (c.args.w % 3) 0 && eqb (c.args.u % 3) 0)
    (leb (c.args.v + c.args.w) 196608)
    (leb (c.args.t + c.args.u) 196608)
    (test_passed c.divided.ensures c.if-not-divided.false) (test_failed c.divided-2.ensures c.if-not-divided-2.true)

pub returns-then-not-total_admitted : goal.returns-then-not-total_admitted
unfolding shapes_fit
returns-then-not-total_admitted c =
    third_fails (eqb (c.args.v % 3) 0 && eqb
    (c.args.t % 3) 0)
    (eqb (c.args.w % 3) 0 && eqb
    (c.args.u % 3) 0)
    (leb (c.args.v + c.args.w) 196608)
    (leb (c.args.t + c.args.u) 196608)
    (test_passed c.divided.ensures c.if-not-divided.false)
    (test_passed c.divided-2.ensures c.if-not-divided-2.false)
    (test_failed c.total_admitted.ensures c.if-not-total_admitted.true)

pub returns : goal.returns
unfolding shapes_fit
returns c =
    c.total_admitted-2.ensures
    ∙ fourth_told (eqb (c.args.v % 3) 0 && eqb
    (c.args.t % 3) 0)
    (eqb (c.args.w % 3) 0 && eqb
    (c.args.u % 3) 0)
    (leb (c.args.v + c.args.w) 196608) (leb
    (c.args.t + c.args.u) 196608) (test_passed c.divided.ensures c.if-not-divided.false)
    (test_passed c.divided-2.ensures c.if-not-divided-2.false)
    (test_passed c.total_admitted.ensures c.if-not-total_admitted.false)
