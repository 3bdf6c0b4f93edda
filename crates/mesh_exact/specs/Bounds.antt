-- Inner contracts only: a segment's box that is wider by a width, and what the test of the vertices says. Definitions only. Assumes
-- nothing.
use Rattle.std.specs.Prelude.{ℕ, ◌*◌, ◌<◌, ◌≡◌, true, List, ℤ, ◌+ℤ◌, ◌-ℤ◌, Float, length}
use Rattle.vectors.specs.declared.vec3.Vec3.{Vec3}
use Rattle.geometry.specs.declared.aabb.Aabb.{Aabb}
use Rattle.tree.specs.Layout.{vector_at}
use Rattle.tree.specs.Mesh.{thirds}
use Rattle.exact_depth.specs.declared.projection.Point.{Point}
use Rattle.exact_triangle.specs.Grid.{all_within, furthest}
use Rattle.exact_triangle.specs.Box.{in_millimetres, floor_at, lesser, greater}

-- a side on each axis
abbrev pub corner_by : (ℤ → ℤ → ℕ → ℕ → Float) → Point → Point → ℕ → ℕ → Vec3
corner_by side o d near far = record {
  x = side o.x d.x near far;
  y = side o.y d.y near far;
  z = side o.z d.z near far;
}

-- the lower of a segment's two ends on one axis, lower by a width; the higher, higher by it
abbrev pub low_by : ℤ → ℤ → ℤ → ℕ → ℕ → Float
low_by width o d near far = in_millimetres (lesser (floor_at o d near) (floor_at o d far) -ℤ width)

abbrev pub high_by : ℤ → ℤ → ℤ → ℕ → ℕ → Float
high_by width o d near far = in_millimetres (greater (floor_at o d near) (floor_at o d far) +ℤ width)

-- the segment's box, wider by it on each side
abbrev pub box_by : ℤ → Point → Point → ℕ → ℕ → Aabb
box_by width o d near far = record {
  min = corner_by (low_by width) o d near far;
  max = corner_by (high_by width) o d near far;
}

-- each vertex is within 8,192 mm
pub record AllWithin (xs : List Float) : Type 0 where
  pub each : (i : ℕ) → i < thirds (length xs) → all_within furthest (vector_at xs (3 * i)) ≡ true
