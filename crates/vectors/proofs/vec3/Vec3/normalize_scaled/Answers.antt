-- A vector that can't be normalised has none, and another is scaled first.
use Rattle.lists.proofs.JoinedTests.{test_passed, test_failed}
use Rattle.vectors.proofs.NormalLaws.{degenerate_told, scaling_told}
use Rattle.vectors.proofs.vec3.Vec3.normalize_scaled.Goals as goal

pub returns-then-not-is_normalizable : goal.returns-then-not-is_normalizable
returns-then-not-is_normalizable c =
    degenerate_told c.args.self (test_failed c.is_normalizable.ensures c.if-not-is_normalizable.true)

pub scaled_to_one-scaled-requires : goal.scaled_to_one-scaled-requires
scaled_to_one-scaled-requires c = test_passed c.is_normalizable.ensures c.if-not-is_normalizable.false

pub returns : goal.returns
returns c =
    scaling_told c.args.self c.scaled_to_one-scaled.result c.over_length.result
    (test_passed c.is_normalizable.ensures c.if-not-is_normalizable.false) c.scaled_to_one-scaled.ensures c.over_length.ensures
