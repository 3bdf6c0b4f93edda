-- The box of a range of triangles, and the longest axis of its centres' extent. Definitions only. Assumes nothing.
use Rattle.std.specs.Prelude.{ℕ, ◌&&◌, cond, List, Float}
use Rattle.std.specs.Float.Ieee.{le}
use Rattle.lists.specs.Lists.{folded_all}
use Rattle.vectors.specs.Vector.{sub_of, min_of, max_of}
use Rattle.geometry.specs.Box.{union_of, centre}
use Rattle.vectors.specs.declared.vec3.Vec3.{Vec3}
use Rattle.geometry.specs.declared.aabb.Aabb.{Aabb}
use Rattle.tree.specs.Layout.{box_at}

-- "ties x, y, z"
unfoldable pub longest_axis : Vec3 → ℕ
longest_axis v = cond (le v.y v.x && le v.z v.x) 0 (cond (le v.z v.y) 1 2)

-- over the area of the triangles' boxes
module _ (boxes : List Float) where
  -- the box of a range, in its order
  unfoldable pub hull_of : List ℕ → Aabb
  hull_of ts = folded_all union_of (box_at boxes) ts

  unfoldable pub centre_of : ℕ → Vec3
  centre_of t = centre (box_at boxes t)

  -- "the centres' extent"
  unfoldable pub extent_of : List ℕ → Vec3
  extent_of ts = sub_of (folded_all max_of centre_of ts) (folded_all min_of centre_of ts)
