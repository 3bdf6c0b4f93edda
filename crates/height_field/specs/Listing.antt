-- The height listing: the triangles of visited cells that a cast looks at, or the listing's refusal. Definitions only. Assumes nothing.
use Rattle.std.specs.Prelude.{ℕ, ◌+◌, ◌*◌, Bool, ◌&&◌, cond, List, [], ◌∷◌, ◌++◌, Float}
use Rattle.lists.specs.Lists.{keep}
use Rattle.vectors.specs.Vector.{finite_vec}
use Rattle.geometry.specs.Box.{valid_box, touches, corners_box}
use Rattle.vectors.specs.declared.vec3.Vec3.{Vec3}
use Rattle.geometry.specs.declared.aabb.Aabb.{Aabb}
use Rattle.casts.specs.Answer.{out_of_bounds, overflow}
use Rattle.height_field.specs.declared.field.Field.{Field}
use Rattle.height_field.specs.Grid.{vertex_at, cell_row, cell_column, feature_corners}
use Rattle.height_field.specs.Cells.{visited_cells}

-- features in order, or a refusal's number
pub data Listing : Type 0 where
  listed : List ℕ → Listing
  unlisted : ℕ → Listing

-- one listing after another: "all listing refusals come before any triangle's", the first of them first
unfoldable pub both : Listing → Listing → Listing
both (unlisted number) rest = unlisted number
both (listed features) (unlisted number) = unlisted number
both (listed features) (listed others) = listed (features ++ others)

unfoldable pub list_all : (ℕ → Listing) → List ℕ → Listing
list_all list [] = listed []
list_all list (cell ∷ cells) = both (list cell) (list_all list cells)

-- the four vertices of a cell
unfoldable pub all_finite : Vec3 → Vec3 → Vec3 → Vec3 → Bool
all_finite v00 v10 v01 v11 = finite_vec v00 && (finite_vec v10 && (finite_vec v01 && finite_vec v11))

unfoldable pub cell_finite : Field → List Float → ℕ → ℕ → Bool
cell_finite f heights row column =
    all_finite (vertex_at f heights row column) (vertex_at f heights row (column + 1)) (vertex_at f heights (row + 1) column)
    (vertex_at f heights (row + 1) (column + 1))

-- a triangle's box, valid or not
unfoldable pub feature_box : Field → List Float → ℕ → Aabb
feature_box f heights feature = corners_box (feature_corners f heights feature)

-- a vertex that is not finite is 6, an invalid box 5; else "triangle 0 then 1" where the box touches
unfoldable pub list_cell : Field → List Float → Aabb → ℕ → Listing
list_cell f heights box cell =
    cond (cell_finite f heights (cell_row f cell) (cell_column f cell))
    (cond (valid_box (feature_box f heights (cell * 2)))
    (cond (valid_box (feature_box f heights (cell * 2 + 1)))
    (listed (keep (λ (feature : ℕ). touches (feature_box f heights feature) box) ((cell * 2) ∷ (cell * 2 + 1) ∷ [])))
    (unlisted out_of_bounds))
    (unlisted out_of_bounds))
    (unlisted overflow)

-- the listing of the cells that a box visits
unfoldable pub grid_listing : Field → List Float → Aabb → Listing
grid_listing f heights box = list_all (list_cell f heights box) (visited_cells f box)
