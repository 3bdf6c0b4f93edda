-- Inner contracts only: what the code's numbers of a drill stand for. Definitions only. Assumes nothing.
use Rattle.std.specs.Prelude.{ℕ, ◌≤◌}
use Rattle.wide_integers.specs.Sizes.{Sized}
use Rattle.exact_triangle.specs.Line.{Line, Moves}
use Rattle.exact_triangle.specs.Sizes.{Near, DirectionSized}
use Rattle.drill.specs.Code.{About}
use Rattle.mesh_drill.specs.declared.cylinder.Cylinder.{Cylinder}

-- the code's drill is that of the radius ρ about l
abbrev pub IsCylinder : Cylinder → Line → ℕ → Type 0
IsCylinder b l ρ = About l ρ b.origin b.direction b.near b.far b.radius

-- a line that goes on and does not end before it begins
pub record Runs (l : Line) : Type 0 where
  pub moves : Moves l.direction
  pub ends : l.near ≤ l.far

-- its numbers are small
pub record CylinderSized (b : Cylinder) : Type 0 where
  pub origin : Near b.origin
  pub direction : DirectionSized b.direction
  pub near : Sized 1073741824 b.near
  pub far : Sized 1073741824 b.far
  pub radius : Sized 4194304 b.radius
