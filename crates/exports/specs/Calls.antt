-- What the calls that are lent a tree promise: each tells its definition's answer, its work areas are unchanged until the tests, and
-- the places of the results, let the call pass, and what a caller reads back keeps the promises of Reading. Definitions only. Assumes
-- nothing.
use Rattle.std.specs.Prelude.{ℕ, ◌≤◌, ◌≡◌, false, ◌&&◌, List, leb, Float, length}
use Rattle.geometry.specs.declared.aabb.Aabb.{Aabb}
use Rattle.geometry.specs.declared.ray.Ray.{Ray}
use Rattle.tree.specs.Layout.{Tree, Areas}
use Rattle.tree.specs.Mesh.{Mesh, triangle_count}
use Rattle.tree_build.specs.Build.{tests_pass as buildTestsPass}
use Rattle.tree_query.specs.Query.{tests_pass as queryTestsPass}
use Rattle.tree_check.specs.Verdict.{check_of, marks_after}
use Rattle.mesh.specs.MeshCast.{tests_pass}
use Rattle.mesh.specs.Demand3.{PassesCheck}
use Rattle.mesh_hits.specs.HitArea.{HitArea, places_in}
use Rattle.mesh_hits.specs.Promise.{KeepsPromises}
use Rattle.tree_exact.specs.ExactMesh.{tests_pass as exactTestsPass}
use Rattle.exact_hits.specs.ExactListing.{tests_pass as listingTestsPass}
use Rattle.exact_hits.specs.Promise.{KeepsPromises as KeepsExactPromises}
use Rattle.results.specs.Results.{ReturnedIndexed, BuildReturned, QueryReturned, results_fit}
use Rattle.results.specs.Results.{answered_mesh, build_returned, query_returned, returned_verdict}
use Rattle.exports.specs.Reading.{DemandRead, YesRead, BuiltRead, QueryRead}
use Rattle.exports.specs.AllHits.{ListingReturned, all_returned, exact_all_returned, found_returned}
use Rattle.exports.specs.ExactResults.{tree_returned, ExactRead}

-- the mesh cast; an area with a stroke is the area afterwards
abbrev pub MeshCall : Ray → Mesh → List Float → Tree → List ℕ → List ℕ → List ℕ → List ℕ → List Float → List ℕ → ReturnedIndexed → Type 0
MeshCall r m pose t list list' stack stack' hit index returned =
    (returned ≡ answered_mesh r m pose t (length list) (length stack) hit index)
    × (((results_fit hit index && tests_pass r m pose t (length list) (length stack)) ≡ false → (list' ≡ list) × (stack' ≡ stack))
    × DemandRead r m pose t (length list) (length stack) hit index returned)

abbrev pub BuildCall : Mesh → Areas → List ℕ → List ℕ → List ℕ → BuildReturned → Type 0
BuildCall m a work work' nodes returned =
    (returned ≡ build_returned m a (length work) nodes)
    × (((leb 1 (length nodes) && buildTestsPass m a (length work)) ≡ false → work' ≡ work) × BuiltRead m returned)

-- a build's number, node count and areas, put together
abbrev pub built_returned : ℕ → List ℕ → Areas → BuildReturned
built_returned number count after = record { returned = record { number = number; count = count }; after = after }

-- the query; for a mesh of so many triangles and a tree that passes the check its list is complete
abbrev pub QueryCall : Aabb → ℕ → Tree → List ℕ → List ℕ → List ℕ → List ℕ → QueryReturned → Type 0
QueryCall box n t list stack stack' found returned =
    (returned ≡ query_returned box n t list (length stack) found)
    × (((leb 1 (length found) && queryTestsPass box n t (length list) (length stack)) ≡ false → stack' ≡ stack)
    × ((m : Mesh) → triangle_count m ≡ n → PassesCheck m t → QueryRead box m t (length list) (length stack) found returned))

abbrev pub CheckCall : Mesh → Tree → List ℕ → List ℕ → ℕ → Type 0
CheckCall m t marks marks' number =
    (number ≡ returned_verdict (check_of m t (length marks)))
    × ((marks' ≡ marks_after (check_of m t (length marks)) marks marks') × YesRead m t number)

-- every hit; past the place of the count it is what a user finds too
abbrev pub ListingCall : Ray → Mesh → List Float → Tree → List ℕ → List ℕ → List ℕ → List ℕ → HitArea → List ℕ → ListingReturned → Type 0
ListingCall r m pose t list list' stack stack' area found returned =
    (returned ≡ all_returned r m pose t (length list) (length stack) area found)
    × (((leb 1 (length found) && tests_pass r m pose t (length list) (length stack)) ≡ false → (list' ≡ list) × (stack' ≡ stack))
    × (1 ≤ length found
    → KeepsPromises r m pose t (length list) (length stack) (places_in area)
    (record { answer = found_returned returned.returned.number returned.returned.count; area = returned.area })))

-- the listing of exact hits
abbrev pub ExactListingCall :
    Ray → Mesh → List Float → Tree → List ℕ → List ℕ → List ℕ → List ℕ → HitArea → List ℕ → ListingReturned → Type 0
ExactListingCall r m pose t list list' stack stack' area found returned =
    (returned ≡ exact_all_returned r m pose t (length list) (length stack) area found)
    × (((leb 1 (length found) && listingTestsPass r m pose t (length list) (length stack)) ≡ false → (list' ≡ list) × (stack' ≡ stack))
    × (1 ≤ length found
    → KeepsExactPromises r m pose t (length list) (length stack) (places_in area)
    (record { answer = found_returned returned.returned.number returned.returned.count; area = returned.area })))

-- a listing's number, count and hit area, put together
abbrev pub listed_returned : ℕ → List ℕ → HitArea → ListingReturned
listed_returned number count area = record { returned = record { number = number; count = count }; area = area }

-- the exact cast; a hit is a true one, and at the mesh's own vertices with a tree that passes the check it promises what the one without a
-- tree does
abbrev pub ExactCall : Ray → Mesh → List Float → Tree → List ℕ → List ℕ → List Float → List ℕ → ReturnedIndexed → Type 0
ExactCall r m pose t stack stack' hit index returned =
    (returned ≡ tree_returned r m pose t (length stack) hit index)
    × (((results_fit hit index && exactTestsPass r m pose t (length stack)) ≡ false → stack' ≡ stack)
    × ExactRead r m pose t (length stack) hit index returned)
