-- What a user finds in a listing. Definitions only. Assumes nothing.
use Rattle.std.specs.Prelude.{ℕ, suc, ◌+◌, ◌*◌, ◌<◌, ◌≤◌, ◌≡◌, true, false, List, Float, length, take}
use Rattle.vectors.specs.declared.vec3.Vec3.{Vec3}
use Rattle.geometry.specs.Segment.{segment_box}
use Rattle.geometry.specs.declared.ray.Ray.{Ray}
use Rattle.casts.specs.Answer.{Answer, no_room}
use Rattle.nearest_hit.specs.Nearest.{Indexed, hit_at, no_hit, stopped}
use Rattle.lists.specs.Lists.{count}
use Rattle.tree.specs.Layout.{Tree, word_at, number_at, vector_at}
use Rattle.tree.specs.Mesh.{Mesh, thirds, triangle_answer, candidates}
use Rattle.tree_walk.specs.Walk.{Walking, walking, broken, walk_of}
use Rattle.tree_query.specs.Query.{Listing, count as count_of, refused}
use Rattle.mesh.specs.MeshCast.{tests_pass, ray_mesh}
use Rattle.mesh.specs.Demand3.{IsHit, Admitted, answer_of}
use Rattle.depth_sort.specs.Order.{keyed_ahead}
use Rattle.mesh_hits.specs.HitArea.{HitArea, Outcome, hits_of, places_in}
use Rattle.mesh_hits.specs.Listing.{ray_mesh_all}

-- a hit at a place of the area
pub record StandsAt (area : HitArea) (place : ℕ) (normal : Vec3) (distance : Float) (index : ℕ) : Type 0 where
  pub index_is : word_at area.indices place ≡ index
  pub distance_is : number_at area.numbers (4 * place) ≡ distance
  pub normal_is : vector_at area.numbers (4 * place + 1) ≡ normal

-- ---- a tree that passes the check
module _ (r : Ray) (m : Mesh) (k : ℕ) (area : HitArea) where
  -- "For a tree that passes the check, a user must find each hit once": each triangle that is hit stands in the listing
  -- exactly once, and no other does
  pub record ListsHits : Type 0 where
    pub once : (i : ℕ) (normal : Vec3) (distance : Float) → IsHit r m i normal distance → count i (take k area.indices) ≡ 1
    pub only : (j : ℕ) → j < k
        → IsHit r m (word_at area.indices j) (vector_at area.numbers (4 * j + 1)) (number_at area.numbers (4 * j))

-- ---- any tree
-- one of the k listed
pub record IsListed (k : ℕ) (area : HitArea) (normal : Vec3) (distance : Float) (index : ℕ) : Type 0 where
  pub place : ℕ
  pub within : place < k
  pub stands : StandsAt area place normal distance index

pub record FitsCast (cast : Indexed) (k : ℕ) (area : HitArea) : Type 0 where
  -- "an empty listing exactly where that cast answers none": only there; `empty_if` below is that it is one there
  pub empty_only_if : k ≡ 0 → cast ≡ no_hit
  -- "the mesh cast's among them"
  pub among : (normal : Vec3) (distance : Float) (i : ℕ) → cast ≡ hit_at normal distance i → IsListed k area normal distance i

-- "Its order becomes ascending distance, then ascending triangle index."
pub record Ascends (k : ℕ) (area : HitArea) : Type 0 where
  pub ordered : (j : ℕ) → suc j < k
      → keyed_ahead (number_at area.numbers (4 * j)) (number_at area.numbers (4 * suc j))
      (word_at area.indices j) (word_at area.indices (suc j)) ≡ true

-- the first place, as the mesh cast answers it
abbrev pub first_of : HitArea → Indexed
first_of area = hit_at (vector_at area.numbers 1) (number_at area.numbers 0) (word_at area.indices 0)

-- ---- how many hits there are
-- "once per place in the query's list"
unfoldable pub hits_of_walk : (ℕ → Answer) → Walking → ℕ
hits_of_walk answer (walking stack triangles) = length (hits_of answer triangles)
hits_of_walk answer broken = 0

-- of the triangles that the tree lists for the segment's box, how many are hit
abbrev pub hit_count : Ray → Mesh → List Float → Tree → ℕ
hit_count r m pose t = hits_of_walk (triangle_answer r pose m.triangles) (walk_of t (thirds (length m.triangles)) (segment_box r))

-- the triangles of the mesh that are hit
abbrev pub hit_triangles : Ray → Mesh → List ℕ
hit_triangles r m = hits_of (answer_of r m) (candidates m (segment_box r))

-- there is a hit, and the answer is the count of the hits, or "3 exactly when there are more hits than places"
pub record CountsHits (hits places : ℕ) (answer : Listing) : Type 0 where
  pub some : 1 ≤ hits
  pub counted : hits ≤ places → answer ≡ count_of hits
  pub too_many : places < hits → answer ≡ refused no_room

-- ---- the promises, of a call's outcome in an area of so many places
module _ (r : Ray) (m : Mesh) (pose : List Float) (t : Tree) (list stack places : ℕ) (o : Outcome) where
  pub record KeepsPromises : Type 0 where
    -- at the mesh's own vertices, for a tree that passes the check
    pub each_hit_once : (k : ℕ) → o.answer ≡ count_of k → pose ≡ m.vertices → Admitted r m t list stack
        → ListsHits r m k o.area
    pub all_counted : pose ≡ m.vertices → Admitted r m t list stack → hit_count r m pose t ≡ length (hit_triangles r m)
    -- whatever the tree and the vertices to cast at
    pub fits_cast : (k : ℕ) → o.answer ≡ count_of k → FitsCast (ray_mesh r m pose t list stack) k o.area
    pub in_order : (k : ℕ) → o.answer ≡ count_of k → Ascends k o.area
    -- "The first entry is therefore the mesh cast's own hit."
    pub first : (k : ℕ) → o.answer ≡ count_of k → 0 < k → ray_mesh r m pose t list stack ≡ first_of o.area
    -- "an empty listing .. where that cast answers none": a count of 0, and no refusal
    pub empty_if : ray_mesh r m pose t list stack ≡ no_hit → o.answer ≡ count_of 0
    -- where the mesh cast refuses, so does the listing, with its number
    pub refuses : (number : ℕ) → ray_mesh r m pose t list stack ≡ stopped number → o.answer ≡ refused number
    -- where the mesh cast is a hit: a count of at least 1, or 3 and there are more hits than places
    pub counts : (normal : Vec3) (distance : Float) (i : ℕ) → ray_mesh r m pose t list stack ≡ hit_at normal distance i
        → CountsHits (hit_count r m pose t) places o.answer

abbrev pub Promised : Type 0
Promised =
    (r : Ray) (m : Mesh) (pose : List Float) (t : Tree) (list stack : ℕ) (area : HitArea)
    → KeepsPromises r m pose t list stack (places_in area) (ray_mesh_all r m pose t list stack area)

-- What the call promises: its outcome; the list and the stack, which until the tests let the call pass are unchanged; and the promises. An
-- area with a stroke is the area afterwards.
abbrev pub Lists : Ray → Mesh → List Float → Tree → List ℕ → List ℕ → List ℕ → List ℕ → HitArea → Outcome → Type 0
Lists r m pose t list list' stack stack' area o =
    (o ≡ ray_mesh_all r m pose t (length list) (length stack) area)
    × ((tests_pass r m pose t (length list) (length stack) ≡ false → (list' ≡ list) × (stack' ≡ stack))
    × KeepsPromises r m pose t (length list) (length stack) (places_in area) o)
