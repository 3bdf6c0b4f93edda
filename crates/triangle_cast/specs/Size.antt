-- Inner contracts only: the size of a vector as the code computes it, from 1 on, by comparisons with each component and its negative.
-- Definitions only. Assumes
-- nothing.
use Rattle.std.specs.Prelude.{Float}
use Rattle.std.specs.Float.Ieee.{neg}
use Rattle.arithmetic.specs.Extremes.{maximum_of}
use Rattle.vectors.specs.Numbers.{oneᶠ}
use Rattle.vectors.specs.declared.vec3.Vec3.{Vec3}

abbrev pub or_size : Float → Float → Float
or_size m x = maximum_of (maximum_of m x) (neg x)

abbrev pub size_from_one : Vec3 → Float
size_from_one v = or_size (or_size (or_size oneᶠ v.x) v.y) v.z
