-- Points and vectors over the whole numbers. Definitions only. Assumes nothing.
use Rattle.std.specs.Prelude.{ℤ, ◌+ℤ◌, ◌-ℤ◌, ◌*ℤ◌}

pub record Point : Type 0 where
  pub x : ℤ
  pub y : ℤ
  pub z : ℤ

abbrev pub sub_p : Point → Point → Point
sub_p p q = record { x = p.x -ℤ q.x; y = p.y -ℤ q.y; z = p.z -ℤ q.z }

abbrev pub cross_p : Point → Point → Point
cross_p p q = record {
  x = p.y *ℤ q.z -ℤ p.z *ℤ q.y;
  y = p.z *ℤ q.x -ℤ p.x *ℤ q.z;
  z = p.x *ℤ q.y -ℤ p.y *ℤ q.x;
}

abbrev pub dot_p : Point → Point → ℤ
dot_p p q = p.x *ℤ q.x +ℤ p.y *ℤ q.y +ℤ p.z *ℤ q.z
