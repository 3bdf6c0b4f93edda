-- `exports::plain::probe_ray_mesh_plain` meets its contract. Assumes nothing.
use mathlib.Core.Bool.{true}
use mathlib.Core.Path.{◌≡◌}
use Rattle.geometry.specs.Segment.{ray_admitted}
use Rattle.exports.proofs.PlainCalls.{returned_for, returned_invalid, returned_bad}
use Rattle.exports.proofs.PlainCalls.{returned_short_hit, returned_short_index, returned_passed}
use Rattle.lists.proofs.JoinedTests.{test_passed, test_failed}
use Rattle.exports.proofs.plain.probe_ray_mesh_plain.Goals as goal

-- 1
pub returns-then-not-validate : goal.returns-then-not-validate
returns-then-not-validate c =
    let told =
    returned_for _ _ c.ray_from-ray.ensures _ _ _ _
    (returned_invalid _ _ _ _ (test_failed c.validate.ensures c.if-not-validate.true)) in
    rw c.into.ensures record { index_after = told.0; returned_by_trees = told.1 }

-- 2
pub returns-then-not-lengths_admitted : goal.returns-then-not-lengths_admitted
returns-then-not-lengths_admitted c =
    let ray-passes : ray_admitted c.ray_from-ray.result ≡ true = test_passed c.validate.ensures c.if-not-validate.false in
    let told =
    returned_for _ _ c.ray_from-ray.ensures _ _ _ _
    (returned_bad _ _ _ _ ray-passes (test_failed c.lengths_admitted.ensures c.if-not-lengths_admitted.true)) in
    rw c.into-then-not-lengths_admitted.ensures record { index_after = told.0; returned_by_trees = told.1 }

-- 3, the hit
pub returns-then-hit-lt4 : goal.returns-then-hit-lt4
returns-then-hit-lt4 c =
    let ray-passes : ray_admitted c.ray_from-ray.result ≡ true = test_passed c.validate.ensures c.if-not-validate.false in
    let shape = test_passed c.lengths_admitted.ensures c.if-not-lengths_admitted.false in
    let told =
    returned_for _ _ c.ray_from-ray.ensures _ _ _ _ (returned_short_hit _ _ _ _ ray-passes shape c.if-hit-lt4.true) in
    rw c.into-then-hit-lt4.ensures record { index_after = told.0; returned_by_trees = told.1 }

-- 3, the index
pub returns-then-index-lt1 : goal.returns-then-index-lt1
returns-then-index-lt1 c =
    let ray-passes : ray_admitted c.ray_from-ray.result ≡ true = test_passed c.validate.ensures c.if-not-validate.false in
    let shape = test_passed c.lengths_admitted.ensures c.if-not-lengths_admitted.false in
    let told =
    returned_for _ _ c.ray_from-ray.ensures _ _ _ _ (returned_short_index _ _ _ _ ray-passes shape c.if-hit-lt4.false
    c.if-index-lt1.true) in
    rw c.into-then-index-lt1.ensures record { index_after = told.0; returned_by_trees = told.1 }

pub plain_cast-found-requires : goal.plain_cast-found-requires
plain_cast-found-requires c =
    let ray-passes : ray_admitted c.ray_from-ray.result ≡ true = test_passed c.validate.ensures c.if-not-validate.false in
    (ray-passes, test_passed c.lengths_admitted.ensures c.if-not-lengths_admitted.false)

-- the cast's answer, told
pub returns : goal.returns
returns c =
    let ray-passes : ray_admitted c.ray_from-ray.result ≡ true = test_passed c.validate.ensures c.if-not-validate.false in
    let shape = test_passed c.lengths_admitted.ensures c.if-not-lengths_admitted.false in
    let told =
    returned_for _ _ c.ray_from-ray.ensures _ _ _ _
    (returned_passed _ _ _ _ ray-passes shape c.if-hit-lt4.false c.if-index-lt1.false _ _ c.put_indexed.ensures
    c.plain_cast-found.ensures) in
    record { index_after = told.0; returned_by_trees = told.1 }
