-- What a user finds in a listing of exact hits. Definitions only. Assumes nothing.
use Rattle.std.specs.Prelude.{ℕ, ◌+◌, ◌*◌, ◌<◌, ◌≡◌, true, false, List, ℤ, Float, length, take}
use Rattle.lists.specs.Lists.{count}
use Rattle.vectors.specs.declared.vec3.Vec3.{Vec3}
use Rattle.geometry.specs.declared.ray.Ray.{Ray}
use Rattle.nearest_hit.specs.Nearest.{hit_at, no_hit, stopped}
use Rattle.tree.specs.Layout.{Tree, word_at, number_at, vector_at}
use Rattle.tree.specs.Mesh.{Mesh, mesh}
use Rattle.tree_query.specs.Query.{count as count_of, refused}
use Rattle.mesh.specs.MeshCast.{room_for}
use Rattle.mesh.specs.Demand3.{PassesCheck}
use Rattle.mesh_hits.specs.HitArea.{HitArea, Outcome, places_in}
use Rattle.mesh_hits.specs.Promise.{Ascends, FitsCast, CountsHits, first_of}
use Rattle.exact_triangle.specs.Grid.{grid_line}
use Rattle.mesh_exact.specs.Certain.{Met, TrueHit}
use Rattle.tree_exact.specs.Numbers.{NoNaN}
use Rattle.tree_exact.specs.ExactMesh.{ray_mesh_exact}
use Rattle.exact_hits.specs.ExactListing.{met_triangles, tests_pass, ray_mesh_exact_all}

-- at the mesh's own vertices, through a tree that passes the check, for a mesh without a NaN, with areas long enough
pub record Sound (m : Mesh) (pose : List Float) (t : Tree) (list stack : ℕ) : Type 0 where
  pub own : pose ≡ m.vertices
  pub tree : PassesCheck m t
  pub numbers : NoNaN m
  pub areas : room_for m t list stack ≡ true

-- each row is a true hit of its triangle
pub record TrueRows (r : Ray) (m : Mesh) (k : ℕ) (area : HitArea) : Type 0 where
  pub row : (j : ℕ) → j < k
      → TrueHit r m (vector_at area.numbers (4 * j + 1)) (number_at area.numbers (4 * j)) (word_at area.indices j)

-- each triangle that is met stands in one row
pub record ListsMet (r : Ray) (m : Mesh) (k : ℕ) (area : HitArea) : Type 0 where
  pub once : (i D : ℕ) (d : ℤ) → Met (grid_line r) m i D d → count i (take k area.indices) ≡ 1

-- ---- the promises, of a call's outcome in an area of so many places
module _ (r : Ray) (m : Mesh) (pose : List Float) (t : Tree) (list stack places : ℕ) (o : Outcome) where
  pub record KeepsPromises : Type 0 where
    -- whatever the tree and the vertices to cast at
    pub true_rows : (k : ℕ) → o.answer ≡ count_of k → TrueRows r (mesh pose m.triangles) k o.area
    pub in_order : (k : ℕ) → o.answer ≡ count_of k → Ascends k o.area
    -- where the conditions hold: with the rows being true, exactly the triangles that are met, each once
    pub each_met_once : (k : ℕ) → o.answer ≡ count_of k → Sound m pose t list stack → ListsMet r m k o.area
    -- 'none' exactly where there is no row, and the exact cast's hit among the rows
    pub fits_cast : (k : ℕ) → o.answer ≡ count_of k → Sound m pose t list stack → FitsCast (ray_mesh_exact r m pose t stack) k o.area
    pub empty_if : Sound m pose t list stack → ray_mesh_exact r m pose t stack ≡ no_hit → o.answer ≡ count_of 0
    pub first : (k : ℕ) → o.answer ≡ count_of k → Sound m pose t list stack → 0 < k → ray_mesh_exact r m pose t stack ≡ first_of o.area
    -- the exact cast's refusals
    pub refuses : (number : ℕ) → Sound m pose t list stack → ray_mesh_exact r m pose t stack ≡ stopped number → o.answer ≡ refused number
    -- where the exact cast is a hit: how many triangles are met, or 3 exactly where they are more than the places
    pub counts : (normal : Vec3) (distance : Float) (i : ℕ) → Sound m pose t list stack
        → ray_mesh_exact r m pose t stack ≡ hit_at normal distance i → CountsHits (length (met_triangles r m)) places o.answer

-- What the call promises: its outcome; the list and the stack, which until the tests let the call pass are unchanged; and the promises. An
-- area with a stroke is the area afterwards.
abbrev pub ListsExact : Ray → Mesh → List Float → Tree → List ℕ → List ℕ → List ℕ → List ℕ → HitArea → Outcome → Type 0
ListsExact r m pose t list list' stack stack' area o =
    (o ≡ ray_mesh_exact_all r m pose t (length list) (length stack) area)
    × ((tests_pass r m pose t (length list) (length stack) ≡ false → (list' ≡ list) × (stack' ≡ stack))
    × KeepsPromises r m pose t (length list) (length stack) (places_in area) o)
