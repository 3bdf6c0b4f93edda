-- The cell at a point of the grid, and where in it the point lies. Definitions only. Assumes nothing.
use Rattle.std.specs.Prelude.{ℕ, ◌+◌, ◌-◌, ◌≡◌, Bool, true, false, ◌&&◌, cond, ltb, Float, Option, Some, None}
use Rattle.std.specs.Float.Ieee.{lt, le}
use Rattle.arithmetic.specs.Basic.{is_finite, clamp_to}
use Rattle.arithmetic.specs.Below.{just_below}
use Rattle.arithmetic.specs.Rounding.{floor_of, whole_of}
use Rattle.vectors.specs.Numbers.{◌-ᶠ◌, ◌/ᶠ◌, zeroᶠ, oneᶠ}
use Rattle.vectors.specs.Vector.{finite_vec}
use Rattle.vectors.specs.declared.vec3.Vec3.{Vec3}
use Rattle.casts.specs.Answer.{overflow}
use Rattle.distance_grid.specs.Grid.{whole, last_node}
use Rattle.distance_grid.specs.declared.grid.Grid.{Grid}
use Rattle.distance_grid.specs.declared.places.Place.{Place as CodePlace}
use Rattle.distance_grid.specs.declared.places.Located.{Located as CodeLocated}

-- ---- what is found

-- a cell of one axis and where in it a point lies, or that the coordinate is not finite
pub data Place : Type 0 where
  PlaceAt : ℕ → Float → Place
  NoPlace : Place

-- a cell of the grid and where in it a point lies on each axis, or a refusal's number
pub data Located : Type 0 where
  LocatedAt : ℕ → Float → ℕ → Float → ℕ → Float → Located
  NotLocated : ℕ → Located

-- what the code's answers say: it finds no place only where a number is not finite
abbrev pub says_place : Option CodePlace → Place
says_place (Some p) = PlaceAt p.cell p.fraction
says_place None = NoPlace

abbrev pub says_located : Option CodeLocated → Located
says_located (Some l) = LocatedAt l.x.cell l.x.fraction l.y.cell l.y.fraction l.z.cell l.z.fraction
says_located None = NotLocated overflow

-- ---- drawn onto the box

-- The greatest coordinate that is admitted: the last node, or the float just below it where the last node's way from the origin overflows.
unfoldable pub top_of : Float → Float → Float → Float
top_of origin spacing last = cond (is_finite ((last -ᶠ origin) /ᶠ spacing)) last (just_below last)

-- "A coordinate that a sample or the hit's gradient would refuse with 5 is drawn onto the box or .. moved to the nearest it admits":
-- one axis, whose nodes run from the origin to the last one; a coordinate between them stays.
unfoldable pub clamped_to : Float → Float → Float → Float → Float
clamped_to point origin spacing last = cond (lt point origin) origin (cond (lt last point) (top_of origin spacing last) point)

unfoldable pub clamped : Float → Float → Float → ℕ → Float
clamped point origin spacing side = clamped_to point origin spacing (last_node origin spacing side)

-- neither before the origin nor behind the last node: such a coordinate stays, and a point of three of them
unfoldable pub stays : Float → Float → Float → Bool
stays point origin last = cond (lt point origin) false (cond (lt last point) false true)

unfoldable pub in_box : Grid → Vec3 → Bool
in_box g p =
    stays p.x g.origin.x (last_node g.origin.x g.spacing.x g.sides.x)
    && (stays p.y g.origin.y (last_node g.origin.y g.spacing.y g.sides.y)
    && stays p.z g.origin.z (last_node g.origin.z g.spacing.z g.sides.z))

unfoldable pub clamped_point : Grid → Vec3 → Vec3
clamped_point g p = record {
  x = clamped p.x g.origin.x g.spacing.x g.sides.x;
  y = clamped p.y g.origin.y g.spacing.y g.sides.y;
  z = clamped p.z g.origin.z g.spacing.z g.sides.z;
}

-- ---- the place

-- a number, or the last one
unfoldable pub up_to : ℕ → ℕ → ℕ
up_to last n = cond (ltb n last) n last

-- the cell that holds a coordinate
unfoldable pub floor_cell : Float → ℕ
floor_cell coordinate = whole_of (floor_of coordinate)

-- the cell of a coordinate, and the rest that is left in it
unfoldable pub cell_below : Float → ℕ → ℕ
cell_below coordinate side = up_to (side - 2) (floor_cell coordinate)

unfoldable pub place_of : Float → ℕ → Place
place_of coordinate side = PlaceAt (cell_below coordinate side) (clamp_to (coordinate -ᶠ whole (cell_below coordinate side)) zeroᶠ oneᶠ)

unfoldable pub place_at : Float → ℕ → Place
place_at raw side = cond (is_finite raw) (place_of (clamp_to raw zeroᶠ (whole (side - 1))) side) NoPlace

-- a cell of the grid, guessed, that holds a coordinate
unfoldable pub guess_holds : Float → ℕ → ℕ → Bool
guess_holds coordinate near side =
    ltb near 256 && (ltb (near + 1) side && (le (whole near) coordinate && lt coordinate (whole (near + 1))))

-- one axis
unfoldable pub locate_axis : Float → Float → Float → ℕ → Place
locate_axis point origin spacing side = place_at ((point -ᶠ origin) /ᶠ spacing) side

abbrev pub with_place : Place → (ℕ → Float → Located) → Located
with_place (PlaceAt cell fraction) next = next cell fraction
with_place NoPlace next = NotLocated overflow

unfoldable pub locate_inside : Grid → Vec3 → Located
locate_inside g p =
    with_place (locate_axis p.x g.origin.x g.spacing.x g.sides.x)
    (λ (x : ℕ) (tx : Float).
    with_place (locate_axis p.y g.origin.y g.spacing.y g.sides.y)
    (λ (y : ℕ) (ty : Float).
    with_place (locate_axis p.z g.origin.z g.spacing.z g.sides.z)
    (λ (z : ℕ) (tz : Float). LocatedAt x tx y ty z tz)))

-- "a point that is not finite is still 6": before any coordinate is drawn
unfoldable pub locate : Grid → Vec3 → Located
locate g p = cond (finite_vec p) (locate_inside g (clamped_point g p)) (NotLocated overflow)

-- what holds of the place in a cell: from 0 to 1 on each axis
unfoldable pub is_fraction : Float → Bool
is_fraction t = le zeroᶠ t && le t oneᶠ

pub record Fractions (at : Vec3) : Type 0 where
  pub on_x : is_fraction at.x ≡ true
  pub on_y : is_fraction at.y ≡ true
  pub on_z : is_fraction at.z ≡ true
