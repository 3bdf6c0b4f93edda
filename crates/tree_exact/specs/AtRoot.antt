-- Inner contracts only: a ray that is answered at the root's box, and the walk of a ray that is not. Definitions only. Assumes nothing.
use Rattle.nearest_hit.specs.declared.summary.NearestSoFar.{NearestSoFar}
use Rattle.std.specs.Prelude.{ℕ, ◌≡◌, List, Float, Option}
use Rattle.geometry.specs.declared.aabb.Aabb.{Aabb}
use Rattle.geometry.specs.declared.ray.Ray.{Ray}
use Rattle.nearest_hit.specs.Nearest.{no_hit}
use Rattle.tree.specs.Layout.{Tree}
use Rattle.exact_triangle.specs.Grid.{grid_line}
use Rattle.exact_triangle.specs.Box.{certain_box}
use Rattle.tree_exact.specs.ExactMesh.{exact_through}
use Rattle.tree_exact.specs.Walking.{Reads, WalkedBy}

-- no hit of a ray whose segment has that box, at any mesh through any tree with these boxes
pub record MissesRoot (reach : Aabb) (nodes : ℕ) (boxes : List Float) : Type 0 where
  pub missed : (r : Ray) → reach ≡ certain_box (grid_line r) → (pose : List Float) (triangles : List ℕ) (t : Tree)
      → t.node_count ≡ nodes → t.node_boxes ≡ boxes → no_hit ≡ exact_through r pose triangles t

-- the walk of one ray
pub record WalksAlong (r : Ray) (pose : List Float) (triangles : List ℕ) (nodes : ℕ) (boxes : List Float) (words order : List ℕ)
    (result : Option NearestSoFar) : Type 0 where
  pub holds : (t : Tree) → Reads t nodes boxes words order → WalkedBy r pose triangles t result
