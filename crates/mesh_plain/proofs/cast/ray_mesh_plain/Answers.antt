-- `mesh_plain::cast::ray_mesh_plain` meets its contract. Assumes nothing.
use Rattle.mesh_plain.proofs.Agreement.{answer_agrees}
use Rattle.mesh_plain.proofs.Casting.{plain_invalid, plain_bad, plain_passed}
use Rattle.lists.proofs.JoinedTests.{test_passed, test_failed}
use Rattle.mesh_plain.proofs.cast.ray_mesh_plain.Goals as goal

-- 1
pub returns-then-not-validate : goal.returns-then-not-validate
returns-then-not-validate c =
    let r = answer_agrees _ _ _ (plain_invalid _ _ (test_failed c.validate.ensures c.if-not-validate.true)) in
    record { result_value = r.0; agrees_with_trees = r.1 }

-- 2
pub returns-then-not-lengths_admitted : goal.returns-then-not-lengths_admitted
returns-then-not-lengths_admitted c =
    let r = answer_agrees _ _ _
    (plain_bad _ _ (test_passed c.validate.ensures c.if-not-validate.false)
    (test_failed c.lengths_admitted.ensures c.if-not-lengths_admitted.true)) in
    record { result_value = r.0; agrees_with_trees = r.1 }

pub plain_cast-requires : goal.plain_cast-requires
plain_cast-requires c = (
  test_passed c.validate.ensures c.if-not-validate.false,
  test_passed c.lengths_admitted.ensures c.if-not-lengths_admitted.false,
)

pub returns : goal.returns
returns c =
    let r = answer_agrees _ _ _
    (plain_passed _ _ (test_passed c.validate.ensures c.if-not-validate.false)
    (test_passed c.lengths_admitted.ensures c.if-not-lengths_admitted.false) _ c.plain_cast.ensures) in
    record { result_value = r.0; agrees_with_trees = r.1 }
