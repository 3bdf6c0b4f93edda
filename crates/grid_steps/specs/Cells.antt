-- The cell at a point of the ray, and the distance at which the ray leaves it. Definitions only. Assumes nothing.
use Rattle.std.specs.Prelude.{ℕ, ◌+◌, ◌-◌, Bool, cond, ◌&&◌, from_bits, Float, Option, Some, None}
use Rattle.std.specs.Float.{binary64}
use Rattle.std.specs.Float.Ieee.{lt, le, eq}
use Rattle.arithmetic.specs.Basic.{is_finite, absolute}
use Rattle.arithmetic.specs.Extremes.{minimum_of, maximum_of}
use Rattle.arithmetic.specs.Rounding.{round_of, whole_of}
use Rattle.vectors.specs.Numbers.{◌+ᶠ◌, ◌-ᶠ◌, ◌*ᶠ◌, ◌/ᶠ◌, zeroᶠ, oneᶠ, epsilon}
use Rattle.vectors.specs.declared.vec3.Vec3.{Vec3}
use Rattle.distance_grid.specs.Grid.{whole}
use Rattle.distance_grid.specs.Places.{up_to, floor_cell}
use Rattle.distance_grid.specs.declared.grid.Grid.{Grid}
use Rattle.distance_grid.specs.declared.places.Cell.{Cell}

-- the cell at a point, by its lowest node on each axis, or that the coordinate of an axis is not finite
pub data Cells : Type 0 where
  CellsAt : ℕ → ℕ → ℕ → Cells
  NoCells : Cells

-- what the code's answer says
abbrev pub says_cells : Option Cell → Cells
says_cells (Some c) = CellsAt c.x c.y c.z
says_cells None = NoCells

abbrev sixteen : Float
sixteen = from_bits binary64 0x4030_0000_0000_0000

-- 16·EPS of a number's size, which counts as at least 1
unfoldable pub slack : Float → Float
slack x = epsilon *ᶠ maximum_of (absolute x) oneᶠ *ᶠ sixteen

-- ---- the cell
-- Whether a ray that goes down stands at a node above the first one. It is then in the cell below.
unfoldable pub leaves_node : Float → Float → Bool
leaves_node coordinate direction =
    lt direction zeroᶠ
    && (le (absolute (coordinate -ᶠ round_of coordinate)) (slack coordinate) && lt zeroᶠ (round_of coordinate))

unfoldable pub whole_cell : Float → Float → ℕ
whole_cell coordinate direction = cond (leaves_node coordinate direction) (whole_of (round_of coordinate) - 1) (floor_cell coordinate)

unfoldable pub cell_at : Float → Float → ℕ → Option ℕ
cell_at coordinate direction side = cond (is_finite coordinate) (Some (up_to (side - 2) (whole_cell coordinate direction))) None

-- one axis
unfoldable pub cell_on_axis : Float → Float → Float → Float → ℕ → Option ℕ
cell_on_axis point direction origin spacing side = cell_at ((point -ᶠ origin) /ᶠ spacing) direction side

abbrev pub with_cell : Option ℕ → (ℕ → Cells) → Cells
with_cell (Some n) next = next n
with_cell None next = NoCells

unfoldable pub ray_cell_indices : Grid → Vec3 → Vec3 → Cells
ray_cell_indices g p d =
    with_cell (cell_on_axis p.x d.x g.origin.x g.spacing.x g.sides.x)
    (λ (x : ℕ).
    with_cell (cell_on_axis p.y d.y g.origin.y g.spacing.y g.sides.y)
    (λ (y : ℕ).
    with_cell (cell_on_axis p.z d.z g.origin.z g.spacing.z g.sides.z) (λ (z : ℕ). CellsAt x y z)))

-- ---- where the ray leaves it

-- the node of a cell that the ray goes to
unfoldable pub node_ahead : ℕ → Float → ℕ
node_ahead cell direction = cond (lt zeroᶠ direction) (cell + 1) cell

-- a point of the ray on one axis, and the axis' nodes
pub record Axis : Type 0 where
  pub point : Float
  pub direction : Float
  pub origin : Float
  pub spacing : Float

unfoldable pub boundary_distance : Axis → ℕ → Float
boundary_distance a cell = (a.origin +ᶠ a.spacing *ᶠ whole (node_ahead cell a.direction) -ᶠ a.point) /ᶠ a.direction

-- the least so far, or the distance from `current` on, where that is not within the slack of none
unfoldable pub boundary_by : Float → Float → Float → Float → Option Float
boundary_by least current point distance =
    cond (is_finite distance) (cond (lt (slack point) distance) (Some (minimum_of least (current +ᶠ distance))) (Some least))
    None

-- one axis; a direction of zero has no boundary on it
unfoldable pub axis_boundary : Option Float → Float → Axis → ℕ → Option Float
axis_boundary (Some least) current a cell =
    cond (eq a.direction zeroᶠ) (Some least) (boundary_by least current a.point (boundary_distance a cell))
axis_boundary None current a cell = None

unfoldable pub next_cell_boundary : Grid → Float → Vec3 → Vec3 → ℕ → ℕ → ℕ → Float → Option Float
next_cell_boundary g current p d x y z exit =
    axis_boundary
    (axis_boundary
    (axis_boundary (Some exit) current
    record { point = p.x; direction = d.x; origin = g.origin.x; spacing = g.spacing.x } x)
    current
    record { point = p.y; direction = d.y; origin = g.origin.y; spacing = g.spacing.y } y)
    current
    record { point = p.z; direction = d.z; origin = g.origin.z; spacing = g.spacing.z } z
