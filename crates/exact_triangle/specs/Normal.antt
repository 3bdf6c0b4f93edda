-- The cross of a triangle's edges, in units of the grid. Definitions only. Assumes nothing.
use Rattle.std.specs.Prelude.{Option, ℤ, ◌+ℤ◌, ◌-ℤ◌, ◌*ℤ◌}
use Rattle.wide_integers.specs.Determinant.{determinant}
use Rattle.std.specs.Float.{binary64}
use Rattle.std.specs.Float.Ieee.{of_int}
use Rattle.vectors.specs.declared.vec3.Vec3.{Vec3}
use Rattle.vectors.specs.Vector.{try_normalize}
use Rattle.exact_depth.specs.declared.projection.Point.{Point}

-- the edges are those from the first corner
abbrev pub cross_of : Point → Point → Point → Point
cross_of a b c = record {
  x = determinant (b.y -ℤ a.y) (b.z -ℤ a.z) (c.y -ℤ a.y) (c.z -ℤ a.z);
  y = determinant (b.z -ℤ a.z) (b.x -ℤ a.x) (c.z -ℤ a.z) (c.x -ℤ a.x);
  z = determinant (b.x -ℤ a.x) (b.y -ℤ a.y) (c.x -ℤ a.x) (c.y -ℤ a.y);
}

abbrev pub dot_of : Point → Point → ℤ
dot_of n p = n.x *ℤ p.x +ℤ n.y *ℤ p.y +ℤ n.z *ℤ p.z

-- each number rounded once
abbrev pub floats_of : Point → Vec3
floats_of n = record { x = of_int binary64 n.x; y = of_int binary64 n.y; z = of_int binary64 n.z }

-- the unit normal of a cross
abbrev pub normal_of : Point → Option Vec3
normal_of n = try_normalize (floats_of n)
