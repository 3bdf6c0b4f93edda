-- `mesh_drill::plain::drill_plain` meets its contract. Assumes nothing.
use Rattle.lists.proofs.JoinedTests.{test_passed, test_failed}
use Rattle.mesh_drill.specs.Drilling.{DrillAdmitted}
use Rattle.mesh_drill.proofs.Answers.{ray_invalid, radius_invalid, ray_out, radius_out, lengths_bad, drill_passed, answer_certain}
use Rattle.mesh_drill.proofs.plain.drill_plain.Goals as goal

-- 1
pub returns-then-not-validate : goal.returns-then-not-validate
returns-then-not-validate c =
    let p = answer_certain _ _ _ _ (ray_invalid _ _ _ (test_failed c.validate.ensures c.if-not-validate.true)) in
    record { result_value = p.0; certain_ray_drill = p.1 }

pub returns-then-not-radius_admitted : goal.returns-then-not-radius_admitted
returns-then-not-radius_admitted c =
    let p = answer_certain _ _ _ _
    (radius_invalid _ _ _ (test_passed c.validate.ensures c.if-not-validate.false)
    (test_failed c.radius_admitted.ensures c.if-not-radius_admitted.true)) in
    record { result_value = p.0; certain_ray_drill = p.1 }

-- 12
pub returns-then-not-admitted : goal.returns-then-not-admitted
returns-then-not-admitted c =
    let p = answer_certain _ _ _ _
    (ray_out _ _ _ (test_passed c.validate.ensures c.if-not-validate.false)
    (test_passed c.radius_admitted.ensures c.if-not-radius_admitted.false)
    (test_failed c.admitted.ensures c.if-not-admitted.true)) in
    record { result_value = p.0; certain_ray_drill = p.1 }

pub returns-then-not-radius_read : goal.returns-then-not-radius_read
returns-then-not-radius_read c =
    let p = answer_certain _ _ _ _
    (radius_out _ _ _ (test_passed c.validate.ensures c.if-not-validate.false)
    (test_passed c.radius_admitted.ensures c.if-not-radius_admitted.false)
    (test_passed c.admitted.ensures c.if-not-admitted.false) (test_failed c.radius_read.ensures c.if-not-radius_read.true)) in
    record { result_value = p.0; certain_ray_drill = p.1 }

-- 2
pub returns-then-not-lengths_admitted : goal.returns-then-not-lengths_admitted
returns-then-not-lengths_admitted c =
    let passed : DrillAdmitted c.args.ray c.args.radius =
    record {
      ray = test_passed c.validate.ensures c.if-not-validate.false;
      size = test_passed c.radius_admitted.ensures c.if-not-radius_admitted.false;
      read = test_passed c.admitted.ensures c.if-not-admitted.false;
      widest = test_passed c.radius_read.ensures c.if-not-radius_read.false;
    } in
    let p = answer_certain _ _ _ _ (lengths_bad _ _ _ passed (test_failed c.lengths_admitted.ensures c.if-not-lengths_admitted.true)) in
    record { result_value = p.0; certain_ray_drill = p.1 }

pub over_mesh-requires : goal.over_mesh-requires
over_mesh-requires c =
    let passed : DrillAdmitted c.args.ray c.args.radius =
    record {
      ray = test_passed c.validate.ensures c.if-not-validate.false;
      size = test_passed c.radius_admitted.ensures c.if-not-radius_admitted.false;
      read = test_passed c.admitted.ensures c.if-not-admitted.false;
      widest = test_passed c.radius_read.ensures c.if-not-radius_read.false;
    } in
    (passed, test_passed c.lengths_admitted.ensures c.if-not-lengths_admitted.false)

-- past them
pub returns : goal.returns
returns c =
    let passed : DrillAdmitted c.args.ray c.args.radius =
    record {
      ray = test_passed c.validate.ensures c.if-not-validate.false;
      size = test_passed c.radius_admitted.ensures c.if-not-radius_admitted.false;
      read = test_passed c.admitted.ensures c.if-not-admitted.false;
      widest = test_passed c.radius_read.ensures c.if-not-radius_read.false;
    } in
    let p = answer_certain _ _ _ _
    (drill_passed _ _ _ passed (test_passed c.lengths_admitted.ensures c.if-not-lengths_admitted.false) _ c.over_mesh.ensures) in
    record { result_value = p.0; certain_ray_drill = p.1 }
