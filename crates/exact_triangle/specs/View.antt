-- What the code's line stands for. Definitions only. Assumes nothing.
use Rattle.exact_depth.specs.declared.projection.Fraction.{Fraction}
use Rattle.std.specs.Prelude.{◌≡◌, ◌*◌, true, false, ℤ, pos, ◌-ℤ◌, ◌*ℤ◌, unsigned_abs, Float, Option, Some, None}
use Rattle.exact_depth.specs.declared.projection.Point.{Point}
use Rattle.geometry.specs.declared.ray.Ray.{Ray}
use Rattle.exact_depth.specs.declared.projection.Projected.{Projected}
use Rattle.exact_depth.specs.FirstPoint.{first_point}
use Rattle.wide_integers.specs.Sizes.{Sized}
use Rattle.exact_triangle.specs.Line.{Line}
use Rattle.exact_triangle.specs.Box.{in_millimetres}
use Rattle.exact_triangle.specs.Grid.{units, nearest_to, grid_admitted, grid_line}
use Rattle.exact_triangle.specs.Shear.{Main, alongX, alongY, alongZ, main_of}
use Rattle.exact_triangle.specs.Shear.{ahead as ahead_of, heading as headingOf, gain as gainOf, projected_of}
use Rattle.exact_triangle.specs.declared.view.Axis.{Axis}
use Rattle.exact_triangle.specs.declared.view.Axis.TheVariants.{X, Y, Z}
use Rattle.exact_triangle.specs.declared.view.View.{View}
use Rattle.exact_triangle.specs.Sizes.{Near, DirectionSized, HeadingSized}

abbrev pub main_as : Axis → Main
main_as X = alongX
main_as Y = alongY
main_as Z = alongZ

-- a point sheared, by 2^30 with the direction's sign
abbrev pub sheared_by : Projected → ℤ → Projected → Projected
sheared_by d k p = record {
  across = p.across *ℤ d.depth -ℤ p.depth *ℤ d.across;
  up = p.up *ℤ d.depth -ℤ p.depth *ℤ d.up;
  depth = k *ℤ p.depth;
}

-- a line by its ends
abbrev pub line_from : Point → Point → Float → Float → Line
line_from o d near far = record {
  origin = o;
  direction = d;
  near = unsigned_abs (nearest_to units near);
  far = unsigned_abs (nearest_to units far);
}

-- the code's line is l
pub record Sees (v : View) (l : Line) : Type 0 where
  pub axis : main_as v.axis ≡ main_of l.direction
  pub origin : v.origin ≡ l.origin
  pub direction : v.direction ≡ l.direction
  pub heading : v.heading ≡ headingOf l
  pub ahead : v.ahead ≡ ahead_of (headingOf l).depth
  pub gain : v.gain ≡ pos (gainOf l)
  pub near : v.near ≡ pos (l.near * gainOf l)
  pub far : v.far ≡ pos (l.far * gainOf l)
  pub start : v.start ≡ in_millimetres (pos l.near)
  pub finish : v.finish ≡ in_millimetres (pos l.far)

-- what the line's own first depth in a triangle is
abbrev pub first_depth : Line → Point → Point → Point → Option Fraction
first_depth l a b c =
    first_point (projected_of l a) (projected_of l b) (projected_of l c) (pos (l.near * gainOf l)) (pos (l.far * gainOf l))

-- its numbers are small
pub record ViewSized (v : View) : Type 0 where
  pub origin : Near v.origin
  pub direction : DirectionSized v.direction
  pub heading_sized : HeadingSized v.heading v.ahead
  pub gain : Sized 2147483648 v.gain
  pub near : Sized 2305843009213693952 v.near
  pub far : Sized 2305843009213693952 v.far

pub record Shown (r : Ray) (v : View) : Type 0 where
  pub admitted : grid_admitted r ≡ true
  pub sees : Sees v (grid_line r)
  pub view_sized : ViewSized v

-- a ray's line, where it is read on the grid
abbrev pub Viewed : Ray → Option View → Type 0
Viewed r (Some v) = Shown r v
Viewed r None = grid_admitted r ≡ false
