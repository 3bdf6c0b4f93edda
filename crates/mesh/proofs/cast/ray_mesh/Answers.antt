-- `mesh::cast::ray_mesh` meets its contract, demand 3 included. Assumes nothing.
use Rattle.std.proofs.Common.{refl}
use Rattle.lists.proofs.JoinedTests.{test_passed, test_failed}
use Rattle.tree_query.proofs.Queries.{fits_room}
use Rattle.mesh.proofs.Casting.{triangles_few, nodes_few, mesh_invalid, mesh_bad, mesh_short, mesh_posed, mesh_passed, tests_passed}
use Rattle.mesh.proofs.Contract.{with_demand}
use Rattle.mesh.proofs.cast.ray_mesh.Goals as goal

-- refusal 1
pub returns-then-not-validate : goal.returns-then-not-validate
returns-then-not-validate c =
    with_demand _ _ _ _ _ _ _ _
    (mesh_invalid _ _ _ _ _ _ (test_failed c.validate.ensures c.if-not-validate.true))
    (λ _. (refl, refl))

-- refusal 2
pub returns-then-not-shape_admitted : goal.returns-then-not-shape_admitted
returns-then-not-shape_admitted c =
    let valid = test_passed c.validate.ensures c.if-not-validate.false in
    with_demand _ _ _ _ _ _ _ _
    (mesh_bad _ _ _ _ _ _ valid (test_failed c.shape_admitted.ensures c.if-not-shape_admitted.true))
    (λ _. (refl, refl))

pub walk_fits-requires : goal.walk_fits-requires
walk_fits-requires c = triangles_few _ _ _ _ (test_passed c.shape_admitted.ensures c.if-not-shape_admitted.false)

-- refusal 3
pub returns-then-not-walk_fits : goal.returns-then-not-walk_fits
returns-then-not-walk_fits c =
    let valid = test_passed c.validate.ensures c.if-not-validate.false in
    let shaped = test_passed c.shape_admitted.ensures c.if-not-shape_admitted.false in
    with_demand _ _ _ _ _ _ _ _
    (mesh_short _ _ _ _ _ _ valid shaped (test_failed c.walk_fits.ensures c.if-not-walk_fits.true))
    (λ _. (refl, refl))

-- refusal 4
pub returns-then-pose-vertices : goal.returns-then-pose-vertices
returns-then-pose-vertices c =
    let valid = test_passed c.validate.ensures c.if-not-validate.false in
    let shaped = test_passed c.shape_admitted.ensures c.if-not-shape_admitted.false in
    let fits = test_passed c.walk_fits.ensures c.if-not-walk_fits.false in
    with_demand _ _ _ _ _ _ _ _
    (mesh_posed _ _ _ _ _ _ valid shaped fits c.if-pose-vertices.true)
    (λ _. (refl, refl))

pub mesh_cast-requires : goal.mesh_cast-requires
mesh_cast-requires c =
    let shaped = test_passed c.shape_admitted.ensures c.if-not-shape_admitted.false in
    let fits = test_passed c.walk_fits.ensures c.if-not-walk_fits.false in
    (test_passed c.validate.ensures c.if-not-validate.false, fits_room _ _ _ _ (nodes_few _ _ _ _ shaped) fits)

-- past them all
pub returns : goal.returns
returns c =
    let valid = test_passed c.validate.ensures c.if-not-validate.false in
    let shaped = test_passed c.shape_admitted.ensures c.if-not-shape_admitted.false in
    let fits = test_passed c.walk_fits.ensures c.if-not-walk_fits.false in
    with_demand _ _ _ _ _ _ _ _
    (mesh_passed _ _ _ _ _ _ valid shaped fits c.if-pose-vertices.false _ _ c.mesh_cast.ensures)
    (λ failed. absurd (tests_passed _ _ _ _ _ _ valid shaped fits c.if-pose-vertices.false failed))
