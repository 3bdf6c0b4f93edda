-- The listings' calls, the rounded and the exact one: the number that each answers and what it writes. Definitions only. Assumes nothing.
use Rattle.std.specs.Prelude.{ℕ, Bool, cond, List, leb, eqb, Float, length}
use Rattle.geometry.specs.Segment.{ray_admitted}
use Rattle.geometry.specs.declared.ray.Ray.{Ray}
use Rattle.casts.specs.Answer.{invalid_input, bad_shape, no_room}
use Rattle.tree.specs.Layout.{Tree, word_at}
use Rattle.tree.specs.Mesh.{Mesh}
use Rattle.tree_query.specs.Query as Query
use Rattle.mesh.specs.MeshCast.{shape_admitted}
use Rattle.mesh_hits.specs.HitArea.{HitArea, Outcome}
use Rattle.mesh_hits.specs.Listing.{ray_mesh_all}
use Rattle.exact_hits.specs.ExactListing.{ray_mesh_exact_all}
use Rattle.results.specs.Results.{done_code, Counted, returned_found}
use Rattle.exports.specs.ExactResults.{short_exact}

-- the number and the slice of the count, and the hit area
pub record ListingReturned : Type 0 where
  pub returned : Counted
  pub area : HitArea

-- without the place of the count: "1 is tested before 2, 2 before 3"
unfoldable pub without_place : Ray → Bool → ℕ
without_place r shaped = cond (ray_admitted r) (cond shaped no_room bad_shape) invalid_input

-- a listing's outcome, where the count has a place, else the number that is answered without one
unfoldable pub listing_returned : Outcome → ℕ → HitArea → List ℕ → ListingReturned
listing_returned o short area place =
    cond (leb 1 (length place))
    record { returned = returned_found o.answer place; area = o.area }
    record { returned = record { number = short; count = place }; area = area }

-- "index, distance and normal of every hit .. and their count"
unfoldable pub all_returned : Ray → Mesh → List Float → Tree → ℕ → ℕ → HitArea → List ℕ → ListingReturned
all_returned r m pose t list stack area place =
    cond (leb 1 (length place))
    record {
      returned = returned_found (ray_mesh_all r m pose t list stack area).answer place;
      area = (ray_mesh_all r m pose t list stack area).area;
    }
    record { returned = record { number = without_place r (shape_admitted m pose t); count = place }; area = area }

-- .. of every exact hit; without a place 12 of the ray comes after 1
abbrev pub exact_all_returned : Ray → Mesh → List Float → Tree → ℕ → ℕ → HitArea → List ℕ → ListingReturned
exact_all_returned r m pose t list stack area =
    listing_returned (ray_mesh_exact_all r m pose t list stack area) (short_exact r (shape_admitted m pose t)) area

-- what the number and the count's slice say together
unfoldable pub found_returned : ℕ → List ℕ → Query.Listing
found_returned number place = cond (eqb number done_code) (Query.count (word_at place 0)) (Query.refused number)
