-- The slab interval of Kay and Kajiya: the distances at which a ray lies in a box, cut by one axis after the other. Definitions only.
-- Assumes nothing.
use Rattle.std.specs.Prelude.{cond, Float, Option, Some, None}
use Rattle.std.specs.Float.Ieee.{le, lt}
use Rattle.arithmetic.specs.Basic.{absolute}
use Rattle.arithmetic.specs.Extremes.{minimum_of, maximum_of}
use Rattle.vectors.specs.Numbers.{◌-ᶠ◌, ◌/ᶠ◌, zeroᶠ, min_positive}
use Rattle.geometry.specs.declared.aabb.Aabb.{Aabb}
use Rattle.geometry.specs.declared.ray.Ray.{Ray}
use Rattle.grid_steps.specs.declared.interval.Interval.{Interval as Span}

-- the distances of the ray that lie in the box, or none
pub data Interval : Type 0 where
  Within : Float → Float → Interval
  Miss : Interval

-- what the code's answer says
abbrev pub says_interval : Option Span → Interval
says_interval (Some i) = Within i.entry i.exit
says_interval None = Miss

-- an interval whose entry lies past its exit is empty
unfoldable pub kept : Float → Float → Interval
kept entry exit = cond (lt exit entry) Miss (Within entry exit)

-- the two distances of an axis' faces: the nearer one raises the entry, the farther one lowers the exit
unfoldable pub cut : Float → Float → Float → Float → Interval
cut entry exit first second = kept (maximum_of entry (minimum_of first second)) (minimum_of exit (maximum_of first second))

-- One axis. A direction component whose absolute value is at most 2^-1022 is parallel: the ray must then start between the faces.
unfoldable pub slab_from : Float → Float → Float → Float → Float → Float → Interval
slab_from entry exit origin direction low high =
    cond (le (absolute direction) min_positive)
    (cond (lt origin low) Miss (cond (lt high origin) Miss (Within entry exit)))
    (cut entry exit ((low -ᶠ origin) /ᶠ direction) ((high -ᶠ origin) /ᶠ direction))

unfoldable pub slab : Interval → Float → Float → Float → Float → Interval
slab (Within entry exit) origin direction low high = slab_from entry exit origin direction low high
slab Miss origin direction low high = Miss

-- the interval where the walk starts: it must not end before the ray's origin, nor start past its maximum. 0 does here what near would:
-- the interval began at near, which is not below 0, and no cut lowers its entry
unfoldable pub started : Interval → Float → Interval
started (Within entry exit) furthest =
    cond (lt exit zeroᶠ) Miss (cond (lt furthest entry) Miss (Within (maximum_of entry zeroᶠ) exit))
started Miss furthest = Miss

-- from near to the maximum, cut by x, y, z
unfoldable pub ray_aabb_interval : Ray → Aabb → Interval
ray_aabb_interval r b =
    started
    (slab
    (slab
    (slab (Within r.near r.max_distance) r.origin.x r.direction.x b.min.x b.max.x)
    r.origin.y r.direction.y b.min.y b.max.y)
    r.origin.z r.direction.z b.min.z b.max.z)
    r.max_distance
