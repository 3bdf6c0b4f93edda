-- `many_casts::at_mesh::ray_mesh_many` meets its contract. Assumes nothing.
use mathlib.Core.Path.{refl}
use native.Mathlib.Omega.{arith}
use Rattle.lists.proofs.JoinedTests.{test_passed, test_failed}
use Rattle.tree_query.specs.Query.{walk_fits}
use Rattle.mesh.specs.MeshCast.{shape_admitted, room_for}
use Rattle.mesh.proofs.Casting.{triangles_few}
use Rattle.many_casts.specs.Many.{places_fit}
use Rattle.many_casts.proofs.Answers.{fits_inside}
use Rattle.many_casts.proofs.Calls.{many_odd, many_bad, many_short, many_narrow, many_posed, many_done}
use Rattle.many_casts.proofs.at_mesh.ray_mesh_many.Goals as goal

-- the rays are not eight numbers each
pub returns-then-rays-ne0 : goal.returns-then-rays-ne0
returns-then-rays-ne0 c =
    rw c.into.ensures (
    many_odd _ _ _ _ _ _ _ _ (refl, refl) c.if-rays-ne0.true)

-- refusal 2 of the mesh
pub returns-then-not-shape_admitted : goal.returns-then-not-shape_admitted
unfolding shape_admitted
returns-then-not-shape_admitted c =
    rw c.into-then-not-shape_admitted.ensures (
    many_bad _ _ _ _ _ _ _ _ (refl, refl) c.if-rays-ne0.false (test_failed c.shape_admitted.ensures c.if-not-shape_admitted.true))

pub walk_fits-requires : goal.walk_fits-requires
walk_fits-requires c = triangles_few _ _ _ _ (test_passed c.shape_admitted.ensures c.if-not-shape_admitted.false)

-- refusal 3 of the tree's areas and the work areas
pub returns-then-not-walk_fits : goal.returns-then-not-walk_fits
unfolding shape_admitted room_for walk_fits
returns-then-not-walk_fits c =
    rw c.into-then-not-walk_fits.ensures (
    many_short _ _ _ _ _ _ _ _ (refl, refl) c.if-rays-ne0.false (test_passed c.shape_admitted.ensures c.if-not-shape_admitted.false)
    (test_failed c.walk_fits.ensures c.if-not-walk_fits.true))

-- and of the result slices
pub returns-then-not-places_fit : goal.returns-then-not-places_fit
unfolding shape_admitted room_for walk_fits places_fit
returns-then-not-places_fit c =
    rw c.into-then-not-places_fit.ensures (
    many_narrow _ _ _ _ _ _ _ _ (refl, refl) c.if-rays-ne0.false (test_passed c.shape_admitted.ensures c.if-not-shape_admitted.false)
    (test_passed c.walk_fits.ensures c.if-not-walk_fits.false) (test_failed c.places_fit.ensures c.if-not-places_fit.true))

-- refusal 4
pub returns-then-pose-vertices : goal.returns-then-pose-vertices
unfolding shape_admitted room_for walk_fits places_fit
returns-then-pose-vertices c =
    rw c.into-then-pose-vertices.ensures (
    many_posed _ _ _ _ _ _ _ _ (refl, refl) c.if-rays-ne0.false (test_passed c.shape_admitted.ensures c.if-not-shape_admitted.false)
    (test_passed c.walk_fits.ensures c.if-not-walk_fits.false) (test_passed c.places_fit.ensures c.if-not-places_fit.false)
    c.if-pose-vertices.true)

pub cast_each-requires : goal.cast_each-requires
cast_each-requires c = (
  (omega arith, fits_inside _ _ _ _ (test_passed c.places_fit.ensures c.if-not-places_fit.false)),
  record {
    shaped = test_passed c.shape_admitted.ensures c.if-not-shape_admitted.false;
    lent = test_passed c.walk_fits.ensures c.if-not-walk_fits.false;
    posed = c.if-pose-vertices.false;
  },
)

-- past them all
pub returns : goal.returns
unfolding shape_admitted room_for walk_fits places_fit
returns c =
    many_done _ _ _ _ _ _ _ _ c.if-rays-ne0.false (test_passed c.shape_admitted.ensures c.if-not-shape_admitted.false)
    (test_passed c.walk_fits.ensures c.if-not-walk_fits.false) (test_passed c.places_fit.ensures c.if-not-places_fit.false)
    c.if-pose-vertices.false _ c.cast_each.ensures
