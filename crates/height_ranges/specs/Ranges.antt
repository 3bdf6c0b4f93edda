-- A low and a high for each node: which nodes count, which ranges are in order, and the one grid that decides. Definitions only.
-- Assumes nothing.
use Rattle.std.specs.Prelude.{ℕ, ◌+◌, ◌*◌, Bool, ◌&&◌, List, [], ◌∷◌, ◌++◌, eqb, Float, length, get_or}
use Rattle.std.specs.Float.{nan}
use Rattle.arithmetic.specs.Basic.{clamp_to}
use Rattle.geometry.specs.Box.{valid_side}
use Rattle.height_field.specs.declared.field.Field.{Field}
use Rattle.height_field.specs.Grid.{field_admitted, cell_row, cell_column}

-- a low and a high for each node: both as long as the grid
unfoldable pub ranges_admitted : Field → List Float → List Float → Bool
ranges_admitted f lows highs = field_admitted f lows && eqb (length highs) (f.rows * f.columns)

-- ---- nodes

-- a node's number: its place in a slice of heights
unfoldable pub node_at : Field → ℕ → ℕ → ℕ
node_at f row column = row * f.columns + column

-- the four nodes of a cell
abbrev pub nodes_at : Field → ℕ → ℕ → List ℕ
nodes_at f row column = node_at f row column ∷ node_at f row (column + 1) ∷ node_at f (row + 1) column ∷ node_at f (row + 1) (column + 1)
    ∷ []

unfoldable pub cell_nodes : Field → ℕ → List ℕ
cell_nodes f cell = nodes_at f (cell_row f cell) (cell_column f cell)

-- the nodes of some cells, each as often as it is a cell's
unfoldable pub nodes_of : Field → List ℕ → List ℕ
nodes_of f [] = []
nodes_of f (cell ∷ cells) = cell_nodes f cell ++ nodes_of f cells

-- ---- ranges

-- not "out of order or not finite": both ends are finite, and the low is at most the high, as a valid box's side
unfoldable pub node_in_order : List Float → List Float → ℕ → Bool
node_in_order lows highs node = valid_side (get_or lows node nan) (get_or highs node nan)

-- ---- the grid that decides

-- the number of each range that is nearest to z
unfoldable pub nearest_heights : Float → List Float → List Float → List Float
nearest_heights z [] highs = []
nearest_heights z (low ∷ lows) [] = []
nearest_heights z (low ∷ lows) (high ∷ highs) = clamp_to z low high ∷ nearest_heights z lows highs
