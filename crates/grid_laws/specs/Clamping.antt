-- What M-103 promises of a coordinate that is clamped to the box, on any one axis. Definitions only. Assumes nothing.
use Rattle.std.specs.Prelude.{ℕ, true, false, ◌≡◌, T, Float}
use Rattle.std.specs.Float.{binary64}
use Rattle.std.specs.Float.Ieee.{fits, lt, le}
use Rattle.arithmetic.specs.Basic.{is_finite}
use Rattle.vectors.specs.Numbers.{◌-ᶠ◌, ◌/ᶠ◌}
use Rattle.vectors.specs.declared.vec3.Vec3.{Vec3}
use Rattle.geometry.specs.Spacing.{spacing_admitted}
use Rattle.distance_grid.specs.Grid.{SideStands, last_node}
use Rattle.distance_grid.specs.Places.{clamped, locate_axis}
use Rattle.distance_grid.specs.declared.grid.Grid.{Grid}
use Rattle.distance_grid.specs.Places.{NoPlace}

-- an axis of a grid that is admitted and whose box is valid; each f64 fits
pub record AxisStands (origin spacing : Float) (side : ℕ) : Type 0 where
  pub origin_finite : is_finite origin ≡ true
  pub origin_fits : T (fits binary64 origin)
  pub spacing_admitted : spacing_admitted spacing ≡ true
  pub spacing_fits : T (fits binary64 spacing)
  pub side_stands : SideStands side
  pub last_finite : is_finite (last_node origin spacing side) ≡ true

-- the same of the grid's three axes, and that a vector's components are f64s
pub record AxesStand (g : Grid) : Type 0 where
  pub on_x : AxisStands g.origin.x g.spacing.x g.sides.x
  pub on_y : AxisStands g.origin.y g.spacing.y g.sides.y
  pub on_z : AxisStands g.origin.z g.spacing.z g.sides.z

pub record VectorFits (v : Vec3) : Type 0 where
  pub fits_x : T (fits binary64 v.x)
  pub fits_y : T (fits binary64 v.y)
  pub fits_z : T (fits binary64 v.z)

-- a sample admits a coordinate from the origin to the last node whose place is finite
pub record Admitted (origin spacing last q : Float) : Type 0 where
  pub from : le origin q ≡ true
  pub to : le q last ≡ true
  pub located : is_finite ((q -ᶠ origin) /ᶠ spacing) ≡ true

-- d is admitted, and no admitted coordinate lies between the point and d: the nearest
pub record Nearest (origin spacing last point d : Float) : Type 0 where
  pub admitted : Admitted origin spacing last d
  pub before : lt point origin ≡ true → (q : Float) → T (fits binary64 q) → Admitted origin spacing last q
      → (le point d ≡ true) × (le d q ≡ true)
  pub behind : lt last point ≡ true → (q : Float) → T (fits binary64 q) → Admitted origin spacing last q
      → (le q d ≡ true) × (le d point ≡ true)

pub record ClampedRight (origin spacing : Float) (side : ℕ) (point : Float) : Type 0 where
  -- a coordinate inside is not moved
  pub inside : lt point origin ≡ false → lt (last_node origin spacing side) point ≡ false → clamped point origin spacing side ≡ point
  -- one outside is moved to the nearest that is admitted
  pub below : lt point origin ≡ true → Nearest origin spacing (last_node origin spacing side) point (clamped point origin spacing side)
  pub above : lt (last_node origin spacing side) point ≡ true
      → Nearest origin spacing (last_node origin spacing side) point (clamped point origin spacing side)
  -- and so never refused with 6 in place of 5
  pub located : (lt point origin ≡ false → lt (last_node origin spacing side) point ≡ false → ⊥)
      → locate_axis (clamped point origin spacing side) origin spacing side ≡ NoPlace → ⊥

-- a coordinate from the origin to the last node whose own place is not finite: as before M-103 it is refused with 6
pub record RefusedInside (origin spacing : Float) (side : ℕ) (point : Float) : Type 0 where
  pub not_before : lt point origin ≡ false
  pub not_behind : lt (last_node origin spacing side) point ≡ false
  pub refused : locate_axis point origin spacing side ≡ NoPlace
