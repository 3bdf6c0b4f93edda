-- `exports::listings::probe_ray_mesh_all` meets its contract, the listing's promises included. Assumes nothing.
use mathlib.Core.Path.{refl, ◌∙◌}
use native.Mathlib.Omega.{arith}
use borrow.Author.Tests.{le-leb}
use Rattle.mesh.specs.MeshCast.{shape_admitted}
use Rattle.mesh_hits.specs.Promise.{KeepsPromises}
use Rattle.exports.specs.AllHits.{without_place}
use Rattle.exports.proofs.Codes.{refusals_below_codes}
use Rattle.exports.proofs.FoundHits.{short_returned, all_returned_lem, returned_promises, listed_as}
use Rattle.exports.proofs.Kept.{second_failed}
use Rattle.exports.proofs.listings.probe_ray_mesh_all.Goals as goal

-- no place for the count
pub returns-then-found-lt1 : goal.returns-then-found-lt1
unfolding shape_admitted without_place
returns-then-found-lt1 c = (
  short_returned _ _ _ _ _ c.if-found-lt1.true c.short_cast.ensures ∙ listed_as _ _ _ _ _ _ _ _,
  ((λ _. (refl, refl)), λ there. absurd (omega (arith, there, c.if-found-lt1.true))),
)

-- the listing, told
pub returns : goal.returns
returns c =
    let returned = c.ray_mesh_all-listed.ensures in (
      all_returned_lem _ _ _ _ c.if-found-lt1.false _ returned.0 _ c.put_count.ensures.found ∙ listed_as _ _ _ _ _ _ _ _,
      (
        (λ failed. returned.1.0 (second_failed _ _ (le-leb _ _ c.if-found-lt1.false) failed)),
        λ there.
            returned_promises _ (refusals_below_codes.listing _ _ _ _ _ _ _) _ there _ returned.0 _ c.put_count.ensures.found
            (KeepsPromises _ _ _ _ _ _ _) returned.1.1,
      ),
    )
