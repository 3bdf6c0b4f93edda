-- `exports::exact::short_exact` meets its contract. Assumes nothing.
use borrow.Author.Tests.{not-true, not-false}
use Rattle.lists.proofs.JoinedTests.{test_passed, test_failed}
use Rattle.exports.proofs.ExactCalls.{short_invalid, short_off, short_bad, short_room}
use Rattle.exports.proofs.exact.short_exact.Goals as goal

-- 1
pub returns-then-not-validate : goal.returns-then-not-validate
returns-then-not-validate c = short_invalid _ c.args.shape (test_failed c.validate.ensures c.if-not-validate.true)

-- 12
pub returns-then-not-admitted : goal.returns-then-not-admitted
returns-then-not-admitted c =
    short_off _ c.args.shape (test_passed c.validate.ensures c.if-not-validate.false)
    (test_failed c.admitted.ensures c.if-not-admitted.true)

-- 2
pub returns-then-not-shape : goal.returns-then-not-shape
returns-then-not-shape c =
    short_bad _ c.args.shape (test_passed c.validate.ensures c.if-not-validate.false)
    (test_passed c.admitted.ensures c.if-not-admitted.false)
    c.if-not-shape.true

-- 3
pub returns : goal.returns
returns c =
    short_room _ c.args.shape (test_passed c.validate.ensures c.if-not-validate.false)
    (test_passed c.admitted.ensures c.if-not-admitted.false)
    c.if-not-shape.false
