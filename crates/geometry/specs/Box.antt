-- Boxes: each rule is one on a side, the interval of one axis, and holds of a box where it holds on every axis. Definitions only. Assumes
-- nothing.
use Rattle.std.specs.Prelude.{ℕ, Bool, ◌&&◌, List, Float, get_or}
use Rattle.std.specs.Float.{nan}
use Rattle.std.specs.Float.Ieee.{le, eq}
use Rattle.arithmetic.specs.Basic.{is_finite}
use Rattle.vectors.specs.Numbers.{halfᶠ}
use Rattle.vectors.specs.Vector.{add_of, scale_of, min_of, max_of}
use Rattle.vectors.specs.declared.vec3.Vec3.{Vec3}
use Rattle.geometry.specs.declared.aabb.Aabb.{Aabb}

-- a rule of one side that holds on every axis
abbrev pub every_side : (Float → Float → Bool) → Aabb → Bool
every_side p b = p b.min.x b.max.x && (p b.min.y b.max.y && p b.min.z b.max.z)

-- the same for a rule between the sides of two boxes
abbrev pub every_sides : (Float → Float → Float → Float → Bool) → Aabb → Aabb → Bool
every_sides p b c =
    p b.min.x b.max.x c.min.x c.max.x
    && (p b.min.y b.max.y c.min.y c.max.y && p b.min.z b.max.z c.min.z c.max.z)

-- "A box needs finite corners, minimum at most maximum"
unfoldable pub valid_side : Float → Float → Bool
valid_side low high = is_finite low && (is_finite high && le low high)

unfoldable pub valid_box : Aabb → Bool
valid_box = every_side valid_side

-- "Boxes touch on closed intervals, tested by "at most" alone, so a NaN side never touches"
unfoldable pub touch_side : Float → Float → Float → Float → Bool
touch_side low high low' high' = le low high' && le low' high

unfoldable pub touches : Aabb → Aabb → Bool
touches = every_sides touch_side

-- a box that encloses another
unfoldable pub within_side : Float → Float → Float → Float → Bool
within_side low high low' high' = le low low' && le high' high

unfoldable pub encloses : Aabb → Aabb → Bool
encloses = every_sides within_side

-- boxes that are equal under IEEE 754, side by side
unfoldable pub same_side : Float → Float → Float → Float → Bool
same_side low high low' high' = eq low low' && eq high high'

unfoldable pub same_box : Aabb → Aabb → Bool
same_box = every_sides same_side

-- the box around two, the first one's sides first
unfoldable pub union_of : Aabb → Aabb → Aabb
union_of b c = record { min = min_of b.min c.min; max = max_of b.max c.max }

-- "A box centre is min·0.5 + max·0.5"
unfoldable pub centre : Aabb → Vec3
centre b = add_of (scale_of b.min halfᶠ) (scale_of b.max halfᶠ)

-- the box of three corners: "the minimum and maximum .. of its three vertices"
abbrev pub box_of : Vec3 → Vec3 → Vec3 → Aabb
box_of v w u = record { min = min_of (min_of v w) u; max = max_of (max_of v w) u }

-- a corner of an array of three
abbrev pub corner : List Vec3 → ℕ → Vec3
corner vs k = get_or vs k record { x = nan; y = nan; z = nan }

unfoldable pub corners_box : List Vec3 → Aabb
corners_box vs = box_of (corner vs 0) (corner vs 1) (corner vs 2)
