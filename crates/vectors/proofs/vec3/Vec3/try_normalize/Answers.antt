-- A dot that tells the length tells that there is one.
use Rattle.std.proofs.Common.{◌∙◌}
use Rattle.lists.proofs.JoinedTests.{test_passed, test_failed}
use Rattle.vectors.proofs.NormalLaws.{not_finite_scaled, small_scaled, told_unit}
use Rattle.vectors.proofs.vec3.Vec3.try_normalize.Goals as goal

-- the dot is not finite
pub returns-then-not-is_finite : goal.returns-then-not-is_finite
returns-then-not-is_finite c =
    c.normalize_scaled.ensures
    ∙ not_finite_scaled c.args.self c.dot-dot.result c.dot-dot.ensures (test_failed c.is_finite.ensures c.if-not-is_finite.true)

-- it is below 2^-1022
pub returns-then-dot : goal.returns-then-dot
returns-then-dot c =
    c.normalize_scaled-then-dot.ensures ∙ small_scaled c.args.self c.dot-dot.result c.dot-dot.ensures c.if-dot.true

-- it tells
pub returns : goal.returns
returns c =
    told_unit c.args.self c.dot-dot.result c.over_length.result c.dot-dot.ensures
    (test_passed c.is_finite.ensures c.if-not-is_finite.false) c.if-dot.false c.over_length.ensures
