-- Inner contracts only: what the tests of the boxes tell: finite vertices, boxes that hold, and a box that touches, by comparisons with its
-- corners and by the sides on which its vertices lie. Definitions only. Assumes nothing.
use Rattle.std.specs.Prelude.{ℕ, ◌+◌, ◌*◌, ◌<◌, ◌≤◌, ◌≡◌, Bool, true, false, ◌&&◌, ◌||◌, not, List, Float, length}
use Rattle.std.specs.Float.Ieee.{le}
use Rattle.geometry.specs.Box.{valid_box}
use Rattle.vectors.specs.Vector.{finite_vec}
use Rattle.vectors.specs.declared.vec3.Vec3.{Vec3}
use Rattle.geometry.specs.declared.aabb.Aabb.{Aabb}
use Rattle.tree.specs.Layout.{vector_at, word_at}
use Rattle.tree.specs.Mesh.{Mesh, thirds, corners_inside, triangle_box}

pub record AllFinite (xs : List Float) : Type 0 where
  pub each : (i : ℕ) → i < thirds (length xs) → finite_vec (vector_at xs (3 * i)) ≡ true

-- a triangle whose indices are below the vertex count has a valid box
pub record BoxesHold (m : Mesh) : Type 0 where
  pub each : (i : ℕ) → i < thirds (length m.triangles) → corners_inside (thirds (length m.vertices)) m.triangles i ≡ true
      → valid_box (triangle_box m.vertices m.triangles i) ≡ true

-- one of three numbers is at most a limit, or at least
abbrev pub one_at_most : Float → Float → Float → Float → Bool
one_at_most a b c limit = (le a limit || le b limit) || le c limit

abbrev pub one_at_least : Float → Float → Float → Float → Bool
one_at_least a b c limit = (le limit a || le limit b) || le limit c

-- the interval of three numbers touches another
abbrev pub side_touches : Float → Float → Float → Float → Float → Bool
side_touches a b c from to = one_at_most a b c to && one_at_least a b c from

-- ---- the sides on which a vertex lies
abbrev pub bit : Bool → ℕ
bit true = 1
bit false = 0

-- 1 not at least the interval's begin, 2 not at most its end
abbrev pub side_code : Float → Float → Float → ℕ
side_code x from to = bit (not (le x to)) * 2 + bit (not (le from x))

-- two binary digits an axis
unfoldable pub code_of : Aabb → Vec3 → ℕ
code_of box v =
    (side_code v.z box.min.z box.max.z * 4 + side_code v.y box.min.y box.max.y) * 4
    + side_code v.x box.min.x box.max.x

-- each vertex has its code in its place
pub record Coded (box : Aabb) (xs : List Float) (codes : List ℕ) : Type 0 where
  pub within : thirds (length xs) ≤ length codes
  pub each : (i : ℕ) → i < thirds (length xs) → word_at codes i ≡ code_of box (vector_at xs (3 * i))
