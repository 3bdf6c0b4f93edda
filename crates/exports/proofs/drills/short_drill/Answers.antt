-- `exports::drills::short_drill` meets its contract. Assumes nothing.
use borrow.Author.Tests.{not-true, not-false}
use Rattle.lists.proofs.JoinedTests.{test_passed, test_failed}
use Rattle.exports.proofs.DrillCalls.{short_ray, short_radius, short_off, short_wide, short_bad, short_room}
use Rattle.exports.proofs.drills.short_drill.Goals as goal

-- 1 of the ray
pub returns-then-not-validate : goal.returns-then-not-validate
returns-then-not-validate c = short_ray _ c.args.radius c.args.shape (test_failed c.validate.ensures c.if-not-validate.true)

-- and of the radius
pub returns-then-not-radius_admitted : goal.returns-then-not-radius_admitted
returns-then-not-radius_admitted c =
    short_radius _ _ c.args.shape (test_passed c.validate.ensures c.if-not-validate.false)
    (test_failed c.radius_admitted.ensures c.if-not-radius_admitted.true)

-- 12 of the ray
pub returns-then-not-admitted : goal.returns-then-not-admitted
returns-then-not-admitted c =
    short_off _ _ c.args.shape (test_passed c.validate.ensures c.if-not-validate.false)
    (test_passed c.radius_admitted.ensures c.if-not-radius_admitted.false) (test_failed c.admitted.ensures c.if-not-admitted.true)

-- and of the radius
pub returns-then-not-radius_read : goal.returns-then-not-radius_read
returns-then-not-radius_read c =
    short_wide _ _ c.args.shape (test_passed c.validate.ensures c.if-not-validate.false)
    (test_passed c.radius_admitted.ensures c.if-not-radius_admitted.false) (test_passed c.admitted.ensures c.if-not-admitted.false)
    (test_failed c.radius_read.ensures c.if-not-radius_read.true)

-- 2
pub returns-then-not-shape : goal.returns-then-not-shape
returns-then-not-shape c =
    short_bad _ _ c.args.shape (test_passed c.validate.ensures c.if-not-validate.false)
    (test_passed c.radius_admitted.ensures c.if-not-radius_admitted.false) (test_passed c.admitted.ensures c.if-not-admitted.false)
    (test_passed c.radius_read.ensures c.if-not-radius_read.false) c.if-not-shape.true

-- 3
pub returns : goal.returns
returns c =
    short_room _ _ c.args.shape (test_passed c.validate.ensures c.if-not-validate.false)
    (test_passed c.radius_admitted.ensures c.if-not-radius_admitted.false) (test_passed c.admitted.ensures c.if-not-admitted.false)
    (test_passed c.radius_read.ensures c.if-not-radius_read.false) c.if-not-shape.false
