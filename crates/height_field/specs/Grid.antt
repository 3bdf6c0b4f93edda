-- Height grids: which are admitted, and their vertices, cells and triangles. Definitions only. Assumes nothing.
use Rattle.std.specs.Prelude.{ℕ, ◌+◌, ◌-◌, ◌*◌, ◌/◌, ◌%◌, ◌≤◌, ◌≡◌, Bool, ◌&&◌, cond, List, [], ◌∷◌, leb, eqb, pos, length, get_or, Float}
use Rattle.std.specs.Float.{nan, binary64}
use Rattle.std.specs.Float.Ieee.{of_int}
use Rattle.vectors.specs.Numbers.{◌*ᶠ◌}
use Rattle.vectors.specs.declared.vec3.Vec3.{Vec3}
use Rattle.geometry.specs.Spacing.{spacing_admitted}
use Rattle.height_field.specs.declared.field.Field.{Field}

-- ---- admitted

-- "height rows and columns 2 to 1,024"
unfoldable pub side_admitted : ℕ → Bool
side_admitted count = leb 2 count && leb count 1024

-- and "Grid length equals the product of its sides."
unfoldable pub field_admitted : Field → List Float → Bool
field_admitted f heights =
    side_admitted f.rows
    && (side_admitted f.columns
    && (spacing_admitted f.spacing_x
    && (spacing_admitted f.spacing_y && eqb (length heights) (f.rows * f.columns))))

-- what an admitted grid's sides and length keep to
pub record Sized (f : Field) (heights : List Float) : Type 0 where
  pub some_rows : 2 ≤ f.rows
  pub few_rows : f.rows ≤ 1024
  pub some_columns : 2 ≤ f.columns
  pub few_columns : f.columns ≤ 1024
  pub whole : length heights ≡ f.rows * f.columns

-- ---- vertices

-- a whole number as a float
unfoldable pub float_of : ℕ → Float
float_of n = of_int binary64 (pos n)

-- x runs along the columns and y along the rows, and the heights stand in row order
unfoldable pub vertex_at : Field → List Float → ℕ → ℕ → Vec3
vertex_at f heights row column = record {
  x = float_of column *ᶠ f.spacing_x;
  y = float_of row *ᶠ f.spacing_y;
  z = get_or heights (row * f.columns + column) nan;
}

-- ---- cells and triangles

-- "Cells run by row, then column": a cell's number, and its row and column
unfoldable pub cell_at : Field → ℕ → ℕ → ℕ
cell_at f row column = row * (f.columns - 1) + column

unfoldable pub cell_row : Field → ℕ → ℕ
cell_row f cell = cell / (f.columns - 1)

unfoldable pub cell_column : Field → ℕ → ℕ
cell_column f cell = cell % (f.columns - 1)

-- the corners of a cell's "triangle 0 then 1"
unfoldable pub corners_at : Field → List Float → ℕ → ℕ → ℕ → List Vec3
corners_at f heights row column triangle =
    cond (eqb triangle 0)
    (vertex_at f heights row column ∷ vertex_at f heights row (column + 1) ∷ vertex_at f heights (row + 1) (column + 1) ∷ [])
    (vertex_at f heights row column ∷ vertex_at f heights (row + 1) (column + 1) ∷ vertex_at f heights (row + 1) column ∷ [])

-- the corners by the Rust's feature number, cell·2 + triangle
unfoldable pub feature_corners : Field → List Float → ℕ → List Vec3
feature_corners f heights feature = corners_at f heights (cell_row f (feature / 2)) (cell_column f (feature / 2)) (feature % 2)
