-- Meshes whose corners are numbers. Definitions only. Assumes nothing.
use Rattle.std.specs.Prelude.{ℕ, ◌<◌, ◌≡◌, Bool, false, not, ◌&&◌, length}
use Rattle.std.specs.Float.Ieee.{is_nan}
use Rattle.lists.specs.Lists.{range, every}
use Rattle.vectors.specs.declared.vec3.Vec3.{Vec3}
use Rattle.tree.specs.Mesh.{Mesh, thirds, triangle_count, corner_at, corners_inside}

pub record Numbered (v : Vec3) : Type 0 where
  pub x : is_nan v.x ≡ false
  pub y : is_nan v.y ≡ false
  pub z : is_nan v.z ≡ false

-- no corner of a triangle is a NaN
abbrev pub NoNaN : Mesh → Type 0
NoNaN m = (x corner : ℕ) → x < triangle_count m → corner < 3 → Numbered (corner_at m.vertices m.triangles x corner)

-- ---- as it is tested
abbrev pub numbers_in : Vec3 → Bool
numbers_in v = not (is_nan v.x) && (not (is_nan v.y) && not (is_nan v.z))

-- three numbers at each corner; an index past the vertices is a no
unfoldable pub corners_numbered : Mesh → ℕ → Bool
corners_numbered m x =
    corners_inside (thirds (length m.vertices)) m.triangles x
    && (numbers_in (corner_at m.vertices m.triangles x 0)
    && (numbers_in (corner_at m.vertices m.triangles x 1) && numbers_in (corner_at m.vertices m.triangles x 2)))

unfoldable pub has_numbers : Mesh → Bool
has_numbers m = every (corners_numbered m) (range 0 (triangle_count m))
