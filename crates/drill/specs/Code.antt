-- What the code's drill, corners and directions stand for, and how large they are. Definitions only. Assumes nothing.
use Rattle.std.specs.Prelude.{ℕ, ◌*◌, ◌^◌, ◌≡◌, Bool, true, false, cond, ◌&&◌, ◌||◌, ℤ, pos, neg_ℤ, ◌+ℤ◌, ◌-ℤ◌, ◌*ℤ◌}
use Rattle.std.specs.Int.Signed.{lt_z, le_z}
use Rattle.wide_integers.specs.Sizes.{Sized}
use Rattle.wide_integers.specs.Value.{value}
use Rattle.exact_depth.specs.declared.projection.Point.{Point}
use Rattle.exact_triangle.specs.Line.{parts, Line}
use Rattle.exact_triangle.specs.Sizes.{SizedAt, Near, DirectionSized}
use Rattle.drill.specs.Drill.{dot, square}
use Rattle.drill.specs.Decision.{cross, minus, FromAxis, corner_in, side_in, cap_in, level, plane_in}
use Rattle.drill.specs.declared.corner.Drill.{Drill}
use Rattle.drill.specs.declared.corner.Corner.{Corner}
use Rattle.drill.specs.declared.forms.Vector.{Vector}
use Rattle.drill.specs.declared.inside.Steps.{Steps}
use Rattle.drill.specs.declared.touch.Candidate.{Candidate}
use Rattle.drill.specs.declared.touch.Pierce.{Pierce}
use Rattle.drill.specs.declared.touch.Frame.{Frame}
use Rattle.drill.specs.declared.sides.Weights.{Weights}

-- the drill of the radius ρ about l, in plain numbers
pub record About (l : Line) (ρ : ℕ) (o d : Point) (n f r : ℤ) : Type 0 where
  pub origin : o ≡ l.origin
  pub direction : d ≡ l.direction
  pub near : n ≡ pos l.near
  pub far : f ≡ pos l.far
  pub radius : r ≡ pos ρ

-- a number whose square is R at least
pub record SideOf (R L : ℤ) : Type 0 where
  pub least : le_z (pos 0) L ≡ true
  pub enough : le_z R (L *ℤ L) ≡ true

-- the code's drill is that of the radius ρ about l
pub record Drills (k : Drill) (l : Line) (ρ : ℕ) : Type 0 where
  pub origin : k.origin ≡ l.origin
  pub direction : k.direction ≡ l.direction
  pub length : value k.length ≡ square l.direction
  pub near : value k.near ≡ pos l.near *ℤ square l.direction
  pub far : value k.far ≡ pos l.far *ℤ square l.direction
  pub start : k.start ≡ pos l.near
  pub end : k.end ≡ pos l.far
  pub reach : value k.reach ≡ pos (ρ * ρ) *ℤ square l.direction
  pub area : k.area ≡ pos (ρ * ρ)
  pub side : SideOf (pos (ρ * ρ) *ℤ square l.direction) k.side

-- its numbers are small
pub record DrillSized (k : Drill) : Type 0 where
  pub origin : Near k.origin
  pub direction : DirectionSized k.direction
  pub length : Sized (2 ^ 64) (value k.length)
  pub near : Sized (3 * 2 ^ 92) (value k.near)
  pub far : Sized (3 * 2 ^ 92) (value k.far)
  pub start : Sized (2 ^ 30) k.start
  pub end : Sized (2 ^ 30) k.end
  pub area : Sized (2 ^ 44) k.area
  pub side : Sized (2 ^ 54) k.side

-- a corner from the axis, by the code
abbrev pub from_axis_of : Corner → FromAxis
from_axis_of p = record { at = p.at; moment = p.moment; height = p.height; low = value p.low; high = value p.high }

pub record CornerSized (p : Corner) : Type 0 where
  pub at : SizedAt (2 ^ 29) p.at
  pub moment : SizedAt (2 ^ 61) p.moment
  pub height : Sized (3 * 2 ^ 60) p.height
  pub low : Sized (2 ^ 94) (value p.low)
  pub high : Sized (2 ^ 94) (value p.high)

-- a drill and three corners whose numbers are small
abbrev pub CandidateSized : Candidate → Type 0
CandidateSized t = DrillSized t.drill × (CornerSized t.a × (CornerSized t.b × CornerSized t.c))

-- the weights of a side's point that is nearest to the axis' line
pub record FootOf (v w : Point) (r : Weights) : Type 0 where
  pub first : value r.first ≡ dot w (minus w v)
  pub second : value r.second ≡ neg_ℤ (dot v (minus w v))
  pub first_size : Sized (2 ^ 125) (value r.first)
  pub second_size : Sized (2 ^ 125) (value r.second)

-- a vector of three words each
abbrev pub vector_of : Vector → Point
vector_of g = record { x = value g.x; y = value g.y; z = value g.z }

pub record WaySized (g : Vector) : Type 0 where
  pub x : Sized (2 ^ 94) (value g.x)
  pub y : Sized (2 ^ 94) (value g.y)
  pub z : Sized (2 ^ 94) (value g.z)

-- three numbers of three words each
abbrev pub steps_of : Steps → Point
steps_of s = record { x = value s.a; y = value s.b; z = value s.c }

pub record StepsSized (s : Steps) : Type 0 where
  pub a : Sized (2 ^ 125) (value s.a)
  pub b : Sized (2 ^ 125) (value s.b)
  pub c : Sized (2 ^ 125) (value s.c)

-- how far the corners are along g
pub record StepsOf (a b c g : Point) (s : Steps) : Type 0 where
  pub is : steps_of s ≡ record { x = dot a g; y = dot b g; z = dot c g }
  pub sized : StepsSized s

pub record Reversed (s r : Steps) : Type 0 where
  pub is : steps_of r ≡ record { x = neg_ℤ (value s.a); y = neg_ℤ (value s.b); z = neg_ℤ (value s.c) }
  pub sized : StepsSized r

-- the weights of the point at 0 along both are not below 0
unfoldable pub between : Point → Point → Bool
between s f =
    le_z (pos 0) (s.y *ℤ f.z -ℤ s.z *ℤ f.y)
    && (le_z (pos 0) (s.z *ℤ f.x -ℤ s.x *ℤ f.z) && le_z (pos 0) (s.x *ℤ f.y -ℤ s.y *ℤ f.x))

-- where the axis' line crosses the triangle's plane: the weights of that point, and how far it is above near and below far
pub record PierceOf (a b c d : Point) (near far : ℤ) (r : Pierce) : Type 0 where
  pub i : value r.i ≡ dot (cross b c) d
  pub j : value r.j ≡ dot (cross c a) d
  pub k : value r.k ≡ dot (cross a b) d
  pub whole : value r.whole ≡ dot (cross b c) d +ℤ dot (cross c a) d +ℤ dot (cross a b) d
  pub low : value r.low ≡ pos parts *ℤ dot (cross a b) c -ℤ near *ℤ (dot (cross b c) d +ℤ dot (cross c a) d +ℤ dot (cross a b) d)
  pub high : value r.high ≡ far *ℤ (dot (cross b c) d +ℤ dot (cross c a) d +ℤ dot (cross a b) d) -ℤ pos parts *ℤ dot (cross a b) c

pub record PierceSized (r : Pierce) : Type 0 where
  pub i : Sized (3 * 2 ^ 92) (value r.i)
  pub j : Sized (3 * 2 ^ 92) (value r.j)
  pub k : Sized (3 * 2 ^ 92) (value r.k)
  pub low : Sized (2 ^ 126) (value r.low)
  pub high : Sized (2 ^ 126) (value r.high)

-- ---- the parts of the decision
abbrev pub limit_of : Line → ℕ → ℤ
limit_of l ρ = pos (ρ * ρ) *ℤ square l.direction

unfoldable pub outline_of : Line → ℕ → FromAxis → FromAxis → FromAxis → Bool
outline_of l ρ a b c =
    corner_in (limit_of l ρ) a || (corner_in (limit_of l ρ) b || (corner_in (limit_of l ρ) c
    || (side_in ρ l.direction (limit_of l ρ) a b || (side_in ρ l.direction (limit_of l ρ) b c
    || side_in ρ l.direction (limit_of l ρ) c a))))

abbrev pub whole_of : Line → FromAxis → FromAxis → FromAxis → ℤ
whole_of l a b c =
    dot (cross b.at c.at) l.direction +ℤ dot (cross c.at a.at) l.direction +ℤ dot (cross a.at b.at) l.direction

abbrev pub low_of : Line → FromAxis → FromAxis → FromAxis → ℤ
low_of l a b c = pos parts *ℤ dot (cross a.at b.at) c.at -ℤ pos l.near *ℤ whole_of l a b c

abbrev pub high_of : Line → FromAxis → FromAxis → FromAxis → ℤ
high_of l a b c = pos l.far *ℤ whole_of l a b c -ℤ pos parts *ℤ dot (cross a.at b.at) c.at

-- the plane's point nearest to a cap's centre, in the cap's plane
unfoldable pub near_of : Line → ℕ → FromAxis → FromAxis → FromAxis → Bool
near_of l ρ a b c =
    cap_in ρ l.direction (level a.height b.height c.height a.at b.at c.at) (low_of l a b c) a.at b.at c.at
    a.low b.low c.low

unfoldable pub far_of : Line → ℕ → FromAxis → FromAxis → FromAxis → Bool
far_of l ρ a b c =
    cap_in ρ l.direction (level (neg_ℤ a.height) (neg_ℤ b.height) (neg_ℤ c.height) a.at b.at c.at) (high_of l a b c)
    a.at b.at c.at a.high b.high c.high

unfoldable pub plane_of : Line → ℕ → FromAxis → FromAxis → FromAxis → Bool
plane_of l ρ a b c =
    plane_in (near_of l ρ a b c) (far_of l ρ a b c) (dot (cross b.at c.at) l.direction) (dot (cross c.at a.at) l.direction)
    (dot (cross a.at b.at) l.direction) (low_of l a b c) (high_of l a b c)

abbrev pub level_of : FromAxis → FromAxis → FromAxis → Point
level_of a b c = level a.height b.height c.height a.at b.at c.at

pub record FrameOf (a b c : FromAxis) (r : Frame) : Type 0 where
  pub whole : value r.whole ≡ square (level_of a b c)
  pub steps : StepsOf a.at b.at c.at (level_of a b c) r.steps

-- ---- what is clear at once: all corners past a cap, or all on one side of the axis and further from it than L
abbrev pub all_above : ℤ → ℤ → ℤ → ℤ → Bool
all_above m x y z = lt_z m x && (lt_z m y && lt_z m z)

abbrev pub all_below : ℤ → ℤ → ℤ → ℤ → Bool
all_below m x y z = lt_z x m && (lt_z y m && lt_z z m)

unfoldable pub one_side_of : ℤ → ℤ → ℤ → ℤ → Bool
one_side_of L x y z = all_above L x y z || all_below (neg_ℤ L) x y z

unfoldable pub beyond : ℤ → FromAxis → FromAxis → FromAxis → Bool
beyond L a b c =
    all_below (pos 0) a.low b.low c.low || (all_below (pos 0) a.high b.high c.high
    || (one_side_of L a.moment.x b.moment.x c.moment.x || (one_side_of L a.moment.y b.moment.y c.moment.y
    || one_side_of L a.moment.z b.moment.z c.moment.z)))

-- ---- what is outside at once of a crossing: x is further from 0 than m
unfoldable pub outside : ℤ → ℤ → Bool
outside m x = cond (lt_z m x) (lt_z (neg_ℤ m) x) (cond (lt_z x m) (lt_z x (neg_ℤ m)) false)

pub record AcrossSized (p : Vector) : Type 0 where
  pub x : Sized (2 ^ 158) (value p.x)
  pub y : Sized (2 ^ 158) (value p.y)
  pub z : Sized (2 ^ 158) (value p.z)
