-- The distance along a ray at which a triangle is reached, on the grid. Definitions only. Assumes nothing.
use Rattle.exact_depth.specs.declared.projection.Fraction.{Fraction}
use Rattle.std.specs.Prelude.{◌≡◌, Bool, true, false, cond, ◌&&◌, List, pos, ◌*ℤ◌, Option, Some, None}
use Rattle.vectors.specs.declared.vec3.Vec3.{Vec3}
use Rattle.geometry.specs.declared.ray.Ray.{Ray}
use Rattle.geometry.specs.Box.{corner}
use Rattle.casts.specs.Answer.{out_of_range}
use Rattle.casts.specs.Reach.{Reach, At, Miss, Refused}
use Rattle.exact_depth.specs.declared.projection.Point.{Point}
use Rattle.wide_integers.specs.Division.{fraction_of}
use Rattle.exact_triangle.specs.Line.{Line}
use Rattle.exact_triangle.specs.Grid.{units, all_within, furthest, grid_admitted, grid_point, grid_line}
use Rattle.exact_triangle.specs.Shear.{depth_of}
use Rattle.exact_triangle.specs.declared.cast.GridCorners.{GridCorners}
use Rattle.exact_triangle.specs.Sizes.{Near}

-- every corner is within 8,192 mm
unfoldable pub corners_read : List Vec3 → Bool
corners_read vs = all_within furthest (corner vs 0) && (all_within furthest (corner vs 1) && all_within furthest (corner vs 2))

-- .. and these are they on the grid
pub record CornersOnGrid (vs : List Vec3) (a b c : Point) : Type 0 where
  pub read : corners_read vs ≡ true
  pub first : a ≡ grid_point (corner vs 0)
  pub second : b ≡ grid_point (corner vs 1)
  pub third : c ≡ grid_point (corner vs 2)
  pub near : Near a × (Near b × Near c)

abbrev pub ReadOnGrid : List Vec3 → Option GridCorners → Type 0
ReadOnGrid vs (Some p) = CornersOnGrid vs p.a p.b p.c
ReadOnGrid vs None = corners_read vs ≡ false

-- a depth in units of the grid, as the float nearest to it in millimetres
abbrev pub reach_at : Option Fraction → Reach
reach_at (Some f) = At (fraction_of f.t (f.w *ℤ pos units))
reach_at None = Miss

unfoldable pub corners_reach : Line → List Vec3 → Reach
corners_reach l vs =
    cond (corners_read vs) (reach_at (depth_of l (grid_point (corner vs 0)) (grid_point (corner vs 1)) (grid_point (corner vs 2))))
    (Refused out_of_range)

unfoldable pub grid_reach : Ray → List Vec3 → Reach
grid_reach r vs = cond (grid_admitted r) (corners_reach (grid_line r) vs) (Refused out_of_range)
