-- A segment on the grid. Definitions only. Assumes nothing.
use Rattle.std.specs.Prelude.{ℕ, ◌+◌, ◌<◌, unsigned_abs}
use Rattle.exact_depth.specs.declared.projection.Point.{Point}

-- 2^30: a direction's component is a whole number of 2^-30
abbrev pub parts : ℕ
parts = 1073741824

-- The points origin + s direction / 2^30 with s from near to far, in units of the grid.
pub record Line : Type 0 where
  pub origin : Point
  pub direction : Point
  pub near : ℕ
  pub far : ℕ

-- a direction that is not 0
pub record Moves (d : Point) : Type 0 where
  pub some : 0 < unsigned_abs d.x + unsigned_abs d.y + unsigned_abs d.z
