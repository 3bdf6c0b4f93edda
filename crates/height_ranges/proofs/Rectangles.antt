-- The nodes of a rectangle of cells are a rectangle of nodes, one row and one column larger. Assumes nothing.
use Prim.Native.Nat.{ℕ, zero, suc, ◌+◌, ◌-◌, ◌≤◌, ◌<◌}
use mathlib.Core.Path.{◌≡◌, refl, sym, ap, ◌∙◌, subst}
use mathlib.Core.Logic.{◌⊎◌, inl, inr, ⊎_elim}
use mathlib.Core.Bool.{Bool, true, false}
use mathlib.Core.List.Memᴰ
use mathlib.Core.List.{List, [], ◌∷◌, map}
use native.Mathlib.Omega.{arith}
use lib.Dec.{ltb}
use borrow.Author.Tests.{ltb-true, ltb-false}
use Rattle.lists.proofs.JoinedTests.{alike}
use Rattle.height_field.specs.declared.field.Field.{Field}
use Rattle.height_field.specs.Grid.{cell_at, cell_column}
use Rattle.height_field.specs.Cells.{run, grid_cells}
use Rattle.height_field.proofs.Sizes.{row_of_cell, column_of_cell}
use Rattle.height_ranges.specs.Ranges.{node_at, nodes_at, cell_nodes, nodes_of}
use Rattle.lists.specs.Lists.{every}
use Rattle.height_ranges.specs.Pass.{grid_nodes}
use Rattle.height_ranges.specs.Promise.{Among}
use Rattle.height_ranges.proofs.Members.{every_at, every_of, nodes_of_cell}
use Rattle.height_ranges.proofs.VisitedCells.{run_bounds, mapped, cell_of}
use Rattle.height_ranges.proofs.Turns.{up_to}

-- ---- what stands in runs and grids

in_run : (first count n : ℕ) → first ≤ n → n < first + count → Among n (run first count)
unfolding run
in_run first zero n h k = absurd (omega arith)
in_run first (suc count) n h k = go (ltb first n) (ltb-true first n) (ltb-false first n) (in_run (first + 1) count n)
  where
    go : (b : Bool) → (b ≡ true → first < n) → (b ≡ false → n ≤ first) → (first + 1 ≤ n → n < first + 1 + count
        → Among n (run (first + 1) count)) → Among n (first ∷ run (first + 1) count)
    go true p q later = let l = p refl in Memᴰ.tail (later (omega arith) (omega arith))
    go false p q later = let l = q refl in let e : n ≡ first = omega arith in Memᴰ.head e

pub in_up_to : (first last n : ℕ) → first ≤ n → n ≤ last → Among n (up_to first last)
in_up_to first last n h k = in_run first (last + 1 - first) n h (omega arith)

in_map : (g : ℕ → ℕ) (l : List ℕ) (n : ℕ) → Among n l → Among (g n) (map g l)
in_map g [] n m = absurd (Memᴰ.not-nil m)
in_map g (x ∷ xs) n m = ⊎_elim (λ e. Memᴰ.head (ap g e)) (λ t. Memᴰ.tail (in_map g xs n t)) (Memᴰ.cases_cons m)

in_cells : (f : Field) (rows columns : List ℕ) (row column : ℕ) → Among row rows → Among column columns
    → Among (cell_at f row column) (grid_cells f rows columns)
unfolding grid_cells
in_cells f [] columns row column m k = absurd (Memᴰ.not-nil m)
in_cells f (x ∷ rows) columns row column m k =
    ⊎_elim (λ e. Memᴰ.append_left (grid_cells f rows columns)
    (subst (λ (r : ℕ). Among (cell_at f row column) (map (cell_at f r) columns)) e (in_map (cell_at f row) columns column k)))
    (λ t. Memᴰ.append_right (map (cell_at f x) columns) (in_cells f rows columns row column t k)) (Memᴰ.cases_cons m)

in_nodes : (f : Field) (rows columns : List ℕ) (row column : ℕ) → Among row rows → Among column columns
    → Among (node_at f row column) (grid_nodes f rows columns)
unfolding grid_nodes
in_nodes f [] columns row column m k = absurd (Memᴰ.not-nil m)
in_nodes f (x ∷ rows) columns row column m k =
    ⊎_elim (λ e. Memᴰ.append_left (grid_nodes f rows columns)
    (subst (λ (r : ℕ). Among (node_at f row column) (map (node_at f r) columns)) e (in_map (node_at f row) columns column k)))
    (λ t. Memᴰ.append_right (map (node_at f x) columns) (in_nodes f rows columns row column t k)) (Memᴰ.cases_cons m)

record NodeOf (f : Field) (rows columns : List ℕ) (node : ℕ) : Type 0 where
  row : ℕ
  column : ℕ
  in_rows : Among row rows
  in_columns : Among column columns
  number : node ≡ node_at f row column

node_of : (f : Field) (rows columns : List ℕ) (node : ℕ) → Among node (grid_nodes f rows columns) → NodeOf f rows columns node
unfolding grid_nodes
node_of f [] columns node m = absurd (Memᴰ.not-nil m)
node_of f (row ∷ rows) columns node m =
    ⊎_elim
    (λ t. let r = mapped (node_at f row) columns node t in record
    { row = row; column = r.0; in_rows = Memᴰ.head refl; in_columns = r.1.0; number = r.1.1 })
    (λ t. let r = node_of f rows columns node t in record
    { row = r.row; column = r.column; in_rows = Memᴰ.tail r.in_rows; in_columns = r.in_columns; number = r.number })
    (Memᴰ.append_cases (map (node_at f row) columns) m)

-- the cell of which a node is one
record CellWith (f : Field) (cells : List ℕ) (node : ℕ) : Type 0 where
  cell : ℕ
  among : Among cell cells
  corner : Among node (cell_nodes f cell)

cell_with : (f : Field) (cells : List ℕ) (node : ℕ) → Among node (nodes_of f cells) → CellWith f cells node
unfolding nodes_of
cell_with f [] node m = absurd (Memᴰ.not-nil m)
cell_with f (c ∷ cells) node m =
    ⊎_elim (λ t. record { cell = c; among = Memᴰ.head refl; corner = t })
    (λ t. let r = cell_with f cells node t in record { cell = r.cell; among = Memᴰ.tail r.among; corner = r.corner })
    (Memᴰ.append_cases (cell_nodes f c) m)

-- ---- a cell by its row and column

nodes_of_place : (f : Field) (row column : ℕ) → column + 1 < f.columns → cell_nodes f (cell_at f row column) ≡ nodes_at f row column
unfolding cell_nodes
nodes_of_place f row column h =
    ap (λ (r : ℕ). nodes_at f r (cell_column f (cell_at f row column))) (row_of_cell f row column h)
    ∙ ap (λ (c : ℕ). nodes_at f row c) (column_of_cell f row column h)

-- one of a number and the next
record Beside (m n : ℕ) : Type 0 where
  is : (n ≡ m) ⊎ (n ≡ m + 1)

corner_of_lem : (f : Field) (row column r c : ℕ) → Beside row r → Beside column c → Among (node_at f r c) (nodes_at f row column)
corner_of_lem f row column r c p q =
    ⊎_elim
    (λ d. ⊎_elim (λ e. Memᴰ.head (at d e)) (λ e. Memᴰ.tail (Memᴰ.head (at d e))) q.is)
    (λ d. ⊎_elim (λ e. Memᴰ.tail (Memᴰ.tail (Memᴰ.head (at d e))))
    (λ e. Memᴰ.tail (Memᴰ.tail (Memᴰ.tail (Memᴰ.head (at d e))))) q.is)
    p.is
  where
    at : {r' c' : ℕ} → r ≡ r' → c ≡ c' → node_at f r c ≡ node_at f r' c'
    at {r'} {c'} d e = ap (λ (x : ℕ). node_at f x c) d ∙ ap (node_at f r') e

record CornerOf (f : Field) (row column node : ℕ) : Type 0 where
  r : ℕ
  c : ℕ
  beside_row : Beside row r
  beside_column : Beside column c
  number : node ≡ node_at f r c

of_corner : (f : Field) (row column node : ℕ) → Among node (nodes_at f row column) → CornerOf f row column node
of_corner f row column node m =
    ⊎_elim (λ e. record {
      r = row;
      c = column;
      beside_row = record { is = inl refl };
      beside_column = record { is = inl refl };
      number = e;
    })
    (λ t. ⊎_elim (λ e. record {
      r = row;
      c = column + 1;
      beside_row = record { is = inl refl };
      beside_column = record
          { is = inr refl };
      number = e;
    })
    (λ t. ⊎_elim (λ e. record {
      r = row + 1;
      c = column;
      beside_row = record { is = inr refl };
      beside_column = record
          { is = inl refl };
      number = e;
    })
    (λ t. ⊎_elim (λ e. record {
      r = row + 1;
      c = column + 1;
      beside_row = record { is = inr refl };
      beside_column = record
          { is = inr refl };
      number = e;
    })
    (λ t. absurd (Memᴰ.not-nil t))
    (Memᴰ.cases_cons t)) (Memᴰ.cases_cons t)) (Memᴰ.cases_cons t)) (Memᴰ.cases_cons m)

-- every number of the longer run is one of the shorter, or the next
record Nearby (first last n : ℕ) : Type 0 where
  m : ℕ
  low : first ≤ m
  high : m ≤ last
  beside : Beside m n

nearby : (first last n : ℕ) → first ≤ last → first ≤ n → n ≤ last + 1 → Nearby first last n
nearby first last n h p q = go (ltb last n) (ltb-true last n) (ltb-false last n)
  where
    go : (b : Bool) → (b ≡ true → last < n) → (b ≡ false → n ≤ last) → Nearby first last n
    go true s t = let l = s refl in let e : n ≡ last + 1 = omega arith in record
        { m = last; low = h; high = omega arith; beside = record { is = inr e } }
    go false s t = let l = t refl in record { m = n; low = p; high = l; beside = record { is = inl refl } }

up_to_bounds : (first last n : ℕ) → Among n (up_to first last) → (first ≤ n) × (n ≤ last)
up_to_bounds first last n m = let b = run_bounds first (last + 1 - first) n m in (omega arith, omega arith)

beside_within : (first last m n : ℕ) → first ≤ m → m ≤ last → Beside m n → Among n (up_to first (last + 1))
beside_within first last m n h k b =
    ⊎_elim (λ e. in_up_to first (last + 1) n (omega arith) (omega arith)) (λ e. in_up_to first (last + 1) n (omega arith) (omega arith))
    b.is

-- ---- the two rectangles

module _ (test : ℕ → Bool) (f : Field) (first last left right : ℕ) (some_rows : first ≤ last) (some_columns : left ≤ right)
    (within : right + 1 < f.columns) where
  abbrev cells : List ℕ
  cells = grid_cells f (up_to first last) (up_to left right)

  abbrev nodes : List ℕ
  nodes = grid_nodes f (up_to first (last + 1)) (up_to left (right + 1))

  -- a node of the larger rectangle is a cell's
  node_in_cells : (node : ℕ) → Among node nodes → Among node (nodes_of f cells)
  node_in_cells node k =
      let n = node_of f (up_to first (last + 1)) (up_to left (right + 1)) node k in
      let rb = up_to_bounds first (last + 1) n.row n.in_rows in
      let cb = up_to_bounds left (right + 1) n.column n.in_columns in
      let row = nearby first last n.row some_rows rb.0 rb.1 in
      let column = nearby left right n.column some_columns cb.0 cb.1 in
      let cell = in_cells f (up_to first last) (up_to left right) row.m column.m
      (in_up_to first last row.m row.low row.high) (in_up_to left right column.m column.low column.high) in
      let inside : column.m + 1 < f.columns = omega (arith, column.high) in
      let corner = corner_of_lem f row.m column.m n.row n.column row.beside column.beside in
      Memᴰ.cast n.number
      (nodes_of_cell f cells (cell_at f row.m column.m) (node_at f n.row n.column) cell
      (subst (Among (node_at f n.row n.column)) (sym (nodes_of_place f row.m column.m inside)) corner))

  -- and a cell's node is in the larger rectangle
  cell_node_inside : (node : ℕ) → Among node (nodes_of f cells) → Among node nodes
  cell_node_inside node k =
      let w = cell_with f cells node k in
      let c = cell_of f (up_to first last) (up_to left right) w.cell w.among in
      let rb = up_to_bounds first last c.row c.in_rows in
      let cb = up_to_bounds left right c.column c.in_columns in
      let inside : c.column + 1 < f.columns = omega (arith, cb.1) in
      let own = subst (Among node) (ap (cell_nodes f) c.number ∙ nodes_of_place f c.row c.column inside) w.corner in
      let o = of_corner f c.row c.column node own in
      Memᴰ.cast o.number
      (in_nodes f (up_to first (last + 1)) (up_to left (right + 1)) o.r o.c
      (beside_within first last c.row o.r rb.0 rb.1 o.beside_row)
      (beside_within left right c.column o.c cb.0 cb.1 o.beside_column))

  pub rectangle_of_nodes : every test (nodes_of f cells) ≡ every test nodes
  rectangle_of_nodes =
      alike (every test (nodes_of f cells)) (every test nodes)
      (λ h. every_of test nodes (λ node m. every_at test (nodes_of f cells) node h (node_in_cells node m)))
      (λ h. every_of test (nodes_of f cells) (λ node m. every_at test nodes node h (cell_node_inside node m)))
