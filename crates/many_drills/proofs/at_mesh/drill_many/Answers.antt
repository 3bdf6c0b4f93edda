-- `many_drills::at_mesh::drill_many` meets its contract. Assumes nothing.
use mathlib.Core.Path.{refl}
use native.Mathlib.Omega.{arith}
use Rattle.lists.proofs.JoinedTests.{test_passed, test_failed}
use Rattle.mesh.specs.MeshCast.{shape_admitted}
use Rattle.mesh.proofs.Casting.{triangles_few}
use Rattle.many_drills.specs.Many.{places_fit}
use Rattle.many_drills.proofs.Answers.{fits_inside}
use Rattle.many_drills.proofs.Calls.{many_odd, many_bad, many_short, many_narrow, many_done}
use Rattle.many_drills.proofs.at_mesh.drill_many.Goals as goal

-- the drills are not nine numbers each
pub returns-then-drills-ne0 : goal.returns-then-drills-ne0
returns-then-drills-ne0 c =
    rw c.into.ensures (
    many_odd _ _ _ _ _ _ _ (refl, refl) c.if-drills-ne0.true)

-- refusal 2 of the mesh
pub returns-then-not-shape_admitted : goal.returns-then-not-shape_admitted
unfolding shape_admitted
returns-then-not-shape_admitted c =
    rw c.into-then-not-shape_admitted.ensures (
    many_bad _ _ _ _ _ _ _ (refl, refl) c.if-drills-ne0.false (test_failed c.shape_admitted.ensures c.if-not-shape_admitted.true))

pub walk_fits-requires : goal.walk_fits-requires
walk_fits-requires c = triangles_few _ _ _ _ (test_passed c.shape_admitted.ensures c.if-not-shape_admitted.false)

-- refusal 3 of the tree's areas and the work areas
pub returns-then-not-walk_fits : goal.returns-then-not-walk_fits
unfolding shape_admitted
returns-then-not-walk_fits c =
    rw c.into-then-not-walk_fits.ensures (
    many_short _ _ _ _ _ _ _ (refl, refl) c.if-drills-ne0.false (test_passed c.shape_admitted.ensures c.if-not-shape_admitted.false)
    (test_failed c.walk_fits.ensures c.if-not-walk_fits.true))

-- and of the result slices
pub returns-then-not-places_fit : goal.returns-then-not-places_fit
unfolding shape_admitted places_fit
returns-then-not-places_fit c =
    rw c.into-then-not-places_fit.ensures (
    many_narrow _ _ _ _ _ _ _ (refl, refl) c.if-drills-ne0.false (test_passed c.shape_admitted.ensures c.if-not-shape_admitted.false)
    (test_passed c.walk_fits.ensures c.if-not-walk_fits.false) (test_failed c.places_fit.ensures c.if-not-places_fit.true))

pub drill_each-requires : goal.drill_each-requires
drill_each-requires c = (omega arith, fits_inside _ _ _ (test_passed c.places_fit.ensures c.if-not-places_fit.false))

-- past them all
pub returns : goal.returns
unfolding shape_admitted places_fit
returns c =
    many_done _ _ _ _ _ _ _ c.if-drills-ne0.false (test_passed c.shape_admitted.ensures c.if-not-shape_admitted.false)
    (test_passed c.walk_fits.ensures c.if-not-walk_fits.false) (test_passed c.places_fit.ensures c.if-not-places_fit.false)
    _ c.drill_each.ensures
