-- Where a line on the grid can meet what lies in a box: a span of numbers for across, up and depth. Definitions only. Assumes nothing.
use Rattle.std.specs.Prelude.{ℕ, ◌*◌, Bool, ◌&&◌, ℤ, pos, ◌-ℤ◌, ◌*ℤ◌, Float}
use Rattle.std.specs.Int.Signed.{lt_z, le_z}
use Rattle.geometry.specs.declared.aabb.Aabb.{Aabb}
use Rattle.exact_depth.specs.declared.projection.Projected.{Projected}
use Rattle.exact_depth.specs.declared.projection.Point.{Point}
use Rattle.exact_triangle.specs.Line.{Line}
use Rattle.exact_triangle.specs.Shear.{Main, alongX, alongY, alongZ, main_of, ahead, heading, gain}
use Rattle.exact_triangle.specs.Grid.{units, nearest_to}
use Rattle.exact_triangle.specs.Box.{lesser, greater}
use Rattle.wide_integers.specs.Sizes.{Sized}
-- the numbers from low to high
use Rattle.tree_exact.specs.declared.room.Span.{Span}
-- one span for across, up and depth
use Rattle.tree_exact.specs.declared.room.Room.{Room}

-- d times each
abbrev pub multiple : ℤ → Span → Span
multiple d s = record { low = lesser (s.low *ℤ d) (s.high *ℤ d); high = greater (s.low *ℤ d) (s.high *ℤ d) }

-- each less each of another
abbrev pub difference : Span → Span → Span
difference s r = record { low = s.low -ℤ r.high; high = s.high -ℤ r.low }

-- as the shear faces a point
abbrev pub facing_room : Main → Span → Span → Span → Room
facing_room alongX x y z = record { across = y; up = z; depth = x }
facing_room alongY x y z = record { across = z; up = x; depth = y }
facing_room alongZ x y z = record { across = x; up = y; depth = z }

-- as it shears a point, by 2^30 with the direction's sign
abbrev pub sheared_room_by : Projected → ℤ → Room → Room
sheared_room_by d k r = record {
  across = difference (multiple d.depth r.across) (multiple d.across r.depth);
  up = difference (multiple d.depth r.up) (multiple d.up r.depth);
  depth = multiple k r.depth;
}

abbrev pub sheared_room : Projected → Room → Room
sheared_room d = sheared_room_by d (ahead d.depth)

-- a box's side on the grid, from the origin's coordinate
abbrev pub side_on : ℤ → Float → Float → Span
side_on o low high = record { low = nearest_to units low -ℤ o; high = nearest_to units high -ℤ o }

-- a box from the origin, as the line faces it
abbrev pub box_room : Main → Point → Aabb → Room
box_room m o b =
    facing_room m (side_on o.x b.min.x b.max.x) (side_on o.y b.min.y b.max.y) (side_on o.z b.min.z b.max.z)

-- a box as the line sees it
unfoldable pub room_of : Line → Aabb → Room
room_of l b = sheared_room (heading l) (box_room (main_of l.direction) l.origin b)

abbrev pub holds_zero : Span → Bool
holds_zero s = le_z s.low (pos 0) && le_z (pos 0) s.high

-- a number from near on, and one before past
abbrev pub reaches : ℤ → ℤ → Span → Bool
reaches near past s = le_z near s.high && lt_z s.low past

-- the line passes through it at such a depth
abbrev pub passes : ℤ → ℤ → Room → Bool
passes near past r = holds_zero r.across && (holds_zero r.up && reaches near past r.depth)

-- the line can pass through it at a depth that is near at least and, in units, below a limit
unfoldable pub room_met : Line → ℕ → Room → Bool
room_met l limit r = passes (pos (l.near * gain l)) (pos (limit * gain l)) r

-- ---- inner contracts only: how large the code's numbers may be, so that none passes 2^63
-- what is from -2^28 to 2^28, seen from there
pub record SideSized (s : Span) : Type 0 where
  pub low : Sized 536870912 s.low
  pub high : Sized 536870912 s.high

-- its multiples
pub record MultipleSized (s : Span) : Type 0 where
  pub low : Sized 1152921504606846976 s.low
  pub high : Sized 1152921504606846976 s.high

-- the differences of those
pub record DifferenceSized (s : Span) : Type 0 where
  pub low : Sized 2305843009213693952 s.low
  pub high : Sized 2305843009213693952 s.high

pub record RoomSized (r : Room) : Type 0 where
  pub across : SideSized r.across
  pub up : SideSized r.up
  pub depth : SideSized r.depth
