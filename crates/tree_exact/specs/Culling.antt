-- Inner contracts only: a triangle that is culled, since its box is apart from the segment's. Definitions only. Assumes nothing.
use Rattle.std.specs.Prelude.{◌≡◌, true, false, List, ℕ, Float}
use Rattle.vectors.specs.declared.vec3.Vec3.{Vec3}
use Rattle.geometry.specs.Box.{corners_box, touches}
use Rattle.geometry.specs.declared.aabb.Aabb.{Aabb}
use Rattle.geometry.specs.declared.ray.Ray.{Ray}
use Rattle.casts.specs.Reach.{reach_of, Miss}
use Rattle.exact_triangle.specs.Reach.{corners_read}
use Rattle.exact_triangle.specs.declared.view.View.{View}
use Rattle.mesh_exact.specs.GridCast.{exact_answer}
use Rattle.mesh_exact.specs.Noted.{Bounded}

-- in range, and apart from a box
pub record LiesApart (vs : List Vec3) (box : Aabb) : Type 0 where
  pub read : corners_read vs ≡ true
  pub apart : touches (corners_box vs) box ≡ false

-- missed by every ray whose segment has that box
pub record Culled (box : Aabb) (pose : List Float) (triangles : List ℕ) (index : ℕ) : Type 0 where
  pub missed : (r : Ray) (line : View) → Bounded r line box → Miss ≡ reach_of (exact_answer r pose triangles index)
