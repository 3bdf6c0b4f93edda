-- What the drill's answer about a mesh says of the part as drawn. Definitions only. Assumes nothing.
use Rattle.std.specs.Prelude.{◌≡◌, ℕ, ◌<◌, ◌≢◌, Float}
use Rattle.vectors.specs.declared.vec3.Vec3.{Vec3}
use Rattle.geometry.specs.declared.ray.Ray.{Ray}
use Rattle.tree.specs.Mesh.{Mesh, corner_at, triangle_count}
use Rattle.mesh_drill.specs.MeshDrill.{DrillAnswer, Clear, Touches, Stopped}
use Rattle.mesh_drill.specs.AsDrawn.{Drawing, ClearAsDrawn, TouchedAsDrawn}

-- a corner as drawn
abbrev pub corner_of : Mesh → ℕ → ℕ → Vec3
corner_of m i k = corner_at m.vertices m.triangles i k

pub record PartAsDrawn (r : Ray) (radius : Float) (m : Mesh) (answer : DrillAnswer) : Type 0 where
  -- each triangle of a mesh that is not refused has a drawing
  pub has_drawing : ((number : ℕ) → answer ≢ Stopped number) → (i : ℕ) → i < triangle_count m
      → Drawing r radius (corner_of m i 0) (corner_of m i 1) (corner_of m i 2)
  -- no triangle of the part comes closer to the axis than the radius - 4 units, from near + 4 units to the maximum - 4 units
  pub clear : answer ≡ Clear → (i : ℕ) → i < triangle_count m → ClearAsDrawn r radius (corner_of m i 0) (corner_of m i 1) (corner_of m i 2)
  -- this one comes within the radius + 4 units of it, from near - 4 units to the maximum + 4 units
  pub touches : (i : ℕ) → answer ≡ Touches i → TouchedAsDrawn r radius (corner_of m i 0) (corner_of m i 1) (corner_of m i 2)
