-- The distance grid: which are admitted, and its box. Definitions only. Assumes nothing.
use Rattle.std.specs.Prelude.{ℕ, ◌-◌, ◌*◌, ◌≤◌, Bool, ◌&&◌, List, ◌≡◌, leb, eqb, pos, Float, length}
use Rattle.std.specs.Float.{binary64}
use Rattle.std.specs.Float.Ieee.{of_int}
use Rattle.vectors.specs.Numbers.{◌+ᶠ◌, ◌*ᶠ◌}
use Rattle.vectors.specs.Vector.{finite_vec, min_of, max_of}
use Rattle.vectors.specs.declared.vec3.Vec3.{Vec3}
use Rattle.geometry.specs.declared.aabb.Aabb.{Aabb}
use Rattle.geometry.specs.Spacing.{spacing_admitted}
use Rattle.distance_grid.specs.declared.grid.Sides.{Sides}
use Rattle.distance_grid.specs.declared.grid.Grid.{Grid}

-- ---- admitted

-- "distance grid sides 2 to 256"
unfoldable pub side_admitted : ℕ → Bool
side_admitted n = leb 2 n && leb n 256

-- how many nodes there are
abbrev pub nodes : Sides → ℕ
nodes s = s.z * s.y * s.x

-- "Grid length equals the product of its sides"
unfoldable pub sides_admitted : Sides → ℕ → Bool
sides_admitted s count = side_admitted s.x && (side_admitted s.y && (side_admitted s.z && eqb count (nodes s)))

-- "a grid origin is finite"
unfoldable pub grid_admitted : Grid → ℕ → Bool
grid_admitted g count =
    sides_admitted g.sides count
    && (spacing_admitted g.spacing.x
    && (spacing_admitted g.spacing.y && (spacing_admitted g.spacing.z && finite_vec g.origin)))

-- what the sides' admission says, for the functions behind it
pub record SideStands (n : ℕ) : Type 0 where
  pub least : 2 ≤ n
  pub most : n ≤ 256

pub record SidesStand (s : Sides) : Type 0 where
  pub on_x : SideStands s.x
  pub on_y : SideStands s.y
  pub on_z : SideStands s.z

pub record Stands (g : Grid) (values : List Float) : Type 0 where
  pub sides_stand : SidesStand g.sides
  pub count : length values ≡ nodes g.sides

-- ---- the box

-- a whole number as a float
abbrev pub whole : ℕ → Float
whole n = of_int binary64 (pos n)

-- the last node of an axis: the product, then the sum
unfoldable pub last_node : Float → Float → ℕ → Float
last_node origin spacing side = origin +ᶠ (spacing *ᶠ whole (side - 1))

unfoldable pub last_corner : Grid → Vec3
last_corner g = record {
  x = last_node g.origin.x g.spacing.x g.sides.x;
  y = last_node g.origin.y g.spacing.y g.sides.y;
  z = last_node g.origin.z g.spacing.z g.sides.z;
}

-- "the box runs from the origin to the last node"
unfoldable pub grid_box : Grid → Aabb
grid_box g = record { min = min_of g.origin (last_corner g); max = max_of g.origin (last_corner g) }
