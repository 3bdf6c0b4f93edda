-- What the casts share: the range of a distance and the side that a normal faces. Definitions only. Assumes nothing.
use Rattle.std.specs.Prelude.{Bool, ◌||◌, cond, Float}
use Rattle.std.specs.Float.Ieee.{lt}
use Rattle.vectors.specs.Numbers.{zeroᶠ}
use Rattle.vectors.specs.Vector.{neg_of}
use Rattle.vectors.specs.declared.vec3.Vec3.{Vec3}
use Rattle.geometry.specs.declared.ray.Ray.{Ray}

-- "Every cast treats a distance below near as it treated one below 0"; "above the maximum" is out of range too, and NaN is neither
unfoldable pub off_segment : Ray → Float → Bool
off_segment r distance = lt distance r.near || lt r.max_distance distance

-- "The normal faces the ray": `along` is its dot with the direction
unfoldable pub facing : Vec3 → Float → Vec3
facing normal along = cond (lt zeroᶠ along) (neg_of normal) normal
