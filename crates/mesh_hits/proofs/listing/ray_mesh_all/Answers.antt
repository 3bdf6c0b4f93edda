-- `mesh_hits::listing::ray_mesh_all` meets its contract, the promises included. Assumes nothing.
use Rattle.std.proofs.Common.{refl}
use Rattle.lists.proofs.JoinedTests.{test_passed, test_failed}
use Rattle.tree_query.proofs.Queries.{fits_room}
use Rattle.mesh.proofs.Casting.{triangles_few, nodes_few, tests_passed}
use Rattle.mesh_hits.proofs.Listings.{all_invalid, all_bad, all_short, all_posed, all_passed}
use Rattle.mesh_hits.proofs.Promises.{with_promises}
use Rattle.mesh_hits.proofs.listing.ray_mesh_all.Goals as goal

-- refusal 1
pub returns-then-not-validate : goal.returns-then-not-validate
returns-then-not-validate c =
    with_promises _ _ _ _ _ _ _ _ _
    (all_invalid _ _ _ _ _ _ _ (test_failed c.validate.ensures c.if-not-validate.true))
    (λ _. (refl, refl))

-- refusal 2
pub returns-then-not-shape_admitted : goal.returns-then-not-shape_admitted
returns-then-not-shape_admitted c =
    let valid = test_passed c.validate.ensures c.if-not-validate.false in
    with_promises _ _ _ _ _ _ _ _ _
    (all_bad _ _ _ _ _ _ _ valid (test_failed c.shape_admitted.ensures c.if-not-shape_admitted.true))
    (λ _. (refl, refl))

pub walk_fits-requires : goal.walk_fits-requires
walk_fits-requires c = triangles_few _ _ _ _ (test_passed c.shape_admitted.ensures c.if-not-shape_admitted.false)

-- refusal 3
pub returns-then-not-walk_fits : goal.returns-then-not-walk_fits
returns-then-not-walk_fits c =
    let valid = test_passed c.validate.ensures c.if-not-validate.false in
    let shaped = test_passed c.shape_admitted.ensures c.if-not-shape_admitted.false in
    with_promises _ _ _ _ _ _ _ _ _
    (all_short _ _ _ _ _ _ _ valid shaped (test_failed c.walk_fits.ensures c.if-not-walk_fits.true))
    (λ _. (refl, refl))

-- refusal 4
pub returns-then-pose-vertices : goal.returns-then-pose-vertices
returns-then-pose-vertices c =
    let valid = test_passed c.validate.ensures c.if-not-validate.false in
    let shaped = test_passed c.shape_admitted.ensures c.if-not-shape_admitted.false in
    let fits = test_passed c.walk_fits.ensures c.if-not-walk_fits.false in
    with_promises _ _ _ _ _ _ _ _ _
    (all_posed _ _ _ _ _ _ _ valid shaped fits c.if-pose-vertices.true)
    (λ _. (refl, refl))

pub mesh_listing-requires : goal.mesh_listing-requires
mesh_listing-requires c =
    let shaped = test_passed c.shape_admitted.ensures c.if-not-shape_admitted.false in
    let fits = test_passed c.walk_fits.ensures c.if-not-walk_fits.false in
    (test_passed c.validate.ensures c.if-not-validate.false, fits_room _ _ _ _ (nodes_few _ _ _ _ shaped) fits)

-- past them all
pub returns : goal.returns
returns c =
    let valid = test_passed c.validate.ensures c.if-not-validate.false in
    let shaped = test_passed c.shape_admitted.ensures c.if-not-shape_admitted.false in
    let fits = test_passed c.walk_fits.ensures c.if-not-walk_fits.false in
    with_promises _ _ _ _ _ _ _ _ _
    (all_passed _ _ _ _ _ _ _ valid shaped fits c.if-pose-vertices.false _ c.mesh_listing.ensures)
    (λ failed. absurd (tests_passed _ _ _ _ _ _ valid shaped fits c.if-pose-vertices.false failed))
