-- `mesh_exact::cast::ray_mesh_exact_plain` meets its contract. Assumes nothing.
use mathlib.Core.Path.{subst}
use Rattle.exact_triangle.specs.View.{Viewed, Shown}
use Rattle.mesh_exact.proofs.Certainty.{answer_certain}
use Rattle.mesh_exact.proofs.Casting.{exact_invalid, exact_out, exact_bad, exact_passed}
use Rattle.lists.proofs.JoinedTests.{test_passed, test_failed}
use Rattle.mesh_exact.proofs.cast.ray_mesh_exact_plain.Goals as goal

-- 1
pub returns-then-not-validate : goal.returns-then-not-validate
returns-then-not-validate c =
    let p = answer_certain _ _ _ (exact_invalid _ _ (test_failed c.validate.ensures c.if-not-validate.true)) in
    record { result_value = p.0; certain_mesh = p.1 }

-- 12
pub returns-in_default : goal.returns-in_default
returns-in_default c =
    let p = answer_certain _ _ _
    (exact_out _ _ (test_passed c.validate.ensures c.if-not-validate.false)
    (subst (Viewed c.args.ray) c.in_default.is c.view_of-viewed.ensures)) in
    record { result_value = p.0; certain_mesh = p.1 }

-- 2
pub returns-then-not-lengths_admitted : goal.returns-then-not-lengths_admitted
returns-then-not-lengths_admitted c =
    let shown : Shown c.args.ray c.in-Some.line =
    subst (Viewed c.args.ray) c.in-Some.is c.view_of-viewed.ensures in
    let p = answer_certain _ _ _
    (exact_bad _ _ (test_passed c.validate.ensures c.if-not-validate.false) shown.admitted
    (test_failed c.lengths_admitted.ensures c.if-not-lengths_admitted.true)) in
    record { result_value = p.0; certain_mesh = p.1 }

pub exact_cast-requires : goal.exact_cast-requires
exact_cast-requires c =
    let shown : Shown c.args.ray c.in-Some.line =
    subst (Viewed c.args.ray) c.in-Some.is c.view_of-viewed.ensures in (
      record { valid = test_passed c.validate.ensures c.if-not-validate.false; shown = shown },
      test_passed c.lengths_admitted.ensures c.if-not-lengths_admitted.false,
    )

-- past all refusals of the ray and the lengths
pub returns : goal.returns
returns c =
    let shown : Shown c.args.ray c.in-Some.line =
    subst (Viewed c.args.ray) c.in-Some.is c.view_of-viewed.ensures in
    let p = answer_certain _ _ _
    (exact_passed _ _ (test_passed c.validate.ensures c.if-not-validate.false) shown.admitted
    (test_passed c.lengths_admitted.ensures c.if-not-lengths_admitted.false) _ c.exact_cast.ensures) in
    record { result_value = p.0; certain_mesh = p.1 }
