-- Inner contracts only: whose answer is the answer of all triangles, without its normal. Definitions only. Assumes nothing.
use Rattle.std.specs.Prelude.{ℕ, ◌<◌, ◌≡◌, true, Float}
use Rattle.geometry.specs.Segment.{ray_admitted}
use Rattle.geometry.specs.declared.aabb.Aabb.{Aabb}
use Rattle.geometry.specs.declared.ray.Ray.{Ray}
use Rattle.casts.specs.Reach.{reach_of, At}
use Rattle.nearest_hit.specs.Summary.{answer_at, Outcome, NearestHit}
use Rattle.tree.specs.Mesh.{Mesh, triangle_count}
use Rattle.exact_triangle.specs.Grid.{grid_line}
use Rattle.exact_triangle.specs.Box.{certain_box}
use Rattle.exact_triangle.specs.declared.view.View.{View}
use Rattle.exact_triangle.specs.View.{Shown}
use Rattle.mesh_exact.specs.GridCast.{exact_answer, over_triangles}

-- the code's line is that of an admitted ray
pub record Casts (r : Ray) (line : View) : Type 0 where
  pub valid : ray_admitted r ≡ true
  pub shown : Shown r line

-- .. and the box is its segment's
pub record Bounded (r : Ray) (line : View) (bounds : Aabb) : Type 0 where
  pub casts : Casts r line
  pub box : bounds ≡ certain_box (grid_line r)

pub record Won (r : Ray) (m : Mesh) (winner : Outcome) : Type 0 where
  -- its answer is the answer of all
  pub answers : answer_at (exact_answer r m.vertices m.triangles) winner ≡ over_triangles r m
  -- one that is hit is a triangle of the mesh, reached at that distance
  pub reached : (index : ℕ) (distance : Float) → winner ≡ NearestHit index distance
      → (index < triangle_count m) × (reach_of (exact_answer r m.vertices m.triangles index) ≡ At distance)
