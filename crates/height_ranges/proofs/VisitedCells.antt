-- The visited cells lie in the grid and ascend, and with a finite span and finite heights so are their vertices. Assumes nothing.
use Prim.Native.Nat.{ℕ, zero, suc, ◌+◌, ◌-◌, ◌*◌, ◌≤◌, ◌<◌}
use mathlib.Core.Path.{◌≡◌, refl, sym, subst}
use mathlib.Core.Logic.{⊎_elim}
use mathlib.Core.List.Memᴰ
use mathlib.Core.List.{List, [], ◌∷◌, ◌++◌, map}
use native.Mathlib.Nat.{mul-le-mul_right}
use native.Mathlib.Omega.{arith}
use lib.Ieee.{Float}
use Rattle.geometry.specs.declared.aabb.Aabb.{Aabb}
use Rattle.height_field.specs.declared.field.Field.{Field}
use Rattle.height_field.specs.declared.cells.CellRange.{CellRange}
use Rattle.std.specs.Prelude.{Option, Some, None}
use Rattle.height_field.specs.Grid.{cell_at}
use Rattle.height_field.specs.Cells.{cell_range, run, range_cells, grid_cells, column_range, row_range, visited_cells}
use Rattle.height_field.proofs.Ranges.{last_within, no_columns}
use Rattle.height_ranges.specs.Promise.{Among}

-- ---- runs and ranges

-- what stands in a run, by one that begins farther back
pub run_bounds : (first count n : ℕ) → Among n (run first count) → (first ≤ n) × (n < first + count)
unfolding run
run_bounds first zero n m = absurd (Memᴰ.not-nil m)
run_bounds first (suc count) n m =
    ⊎_elim (λ e. (omega arith, omega arith)) (λ t. let b = run_bounds (first + 1) count n t in (omega arith, omega arith))
    (Memᴰ.cases_cons m)

range_by : (top n : ℕ) (r : Option CellRange) → ((range : CellRange) → r ≡ Some range → range.last ≤ top) → Among n (range_cells r)
    → n ≤ top
unfolding range_cells
range_by top n None ends m = absurd (Memᴰ.not-nil m)
range_by top n (Some range) ends m =
    let b = run_bounds range.first (range.last + 1 - range.first) n m in
    let within = ends range refl in
    omega arith

range_within : (low high spacing : Float) (count n : ℕ) → Among n (range_cells (cell_range low high spacing count)) → n ≤ count - 1
range_within low high spacing count n = range_by (count - 1) n (cell_range low high spacing count) (last_within low high spacing count)

-- ---- the cells of rows and columns

pub record CellOf (f : Field) (rows columns : List ℕ) (cell : ℕ) : Type 0 where
  pub row : ℕ
  pub column : ℕ
  pub in_rows : Among row rows
  pub in_columns : Among column columns
  pub number : cell ≡ cell_at f row column

pub mapped : (g : ℕ → ℕ) (l : List ℕ) (n : ℕ) → Among n (map g l) → (x : ℕ) × (Among x l × (n ≡ g x))
mapped g [] n m = absurd (Memᴰ.not-nil m)
mapped g (x ∷ xs) n m =
    ⊎_elim (λ e. (x, (Memᴰ.head refl, e))) (λ t. let r = mapped g xs n t in (r.0, (Memᴰ.tail r.1.0, r.1.1)))
    (Memᴰ.cases_cons m)

pub cell_of : (f : Field) (rows columns : List ℕ) (cell : ℕ) → Among cell (grid_cells f rows columns) → CellOf f rows columns cell
unfolding grid_cells
cell_of f [] columns cell m = absurd (Memᴰ.not-nil m)
cell_of f (row ∷ rows) columns cell m =
    ⊎_elim
    (λ t. let r = mapped (cell_at f row) columns cell t in record
    { row = row; column = r.0; in_rows = Memᴰ.head refl; in_columns = r.1.0; number = r.1.1 })
    (λ t. let r = cell_of f rows columns cell t in record
    { row = r.row; column = r.column; in_rows = Memᴰ.tail r.in_rows; in_columns = r.in_columns; number = r.number })
    (Memᴰ.append_cases (map (cell_at f row) columns) m)

-- a cell in the grid
pub record InGrid (f : Field) (cell : ℕ) : Type 0 where
  pub row : ℕ
  pub column : ℕ
  pub row_within : row + 1 < f.rows
  pub column_within : column + 1 < f.columns
  pub number : cell ≡ cell_at f row column

pub visited_in_grid : (f : Field) (box : Aabb) → 2 ≤ f.rows → 2 ≤ f.columns → (cell : ℕ) → Among cell (visited_cells f box)
    → InGrid f cell
unfolding visited_cells column_range row_range
visited_in_grid f box p q cell m =
    let c = cell_of f _ _ cell m in
    let r = range_within box.min.y box.max.y f.spacing_y (f.rows - 1) c.row c.in_rows in
    let k = range_within box.min.x box.max.x f.spacing_x (f.columns - 1) c.column c.in_columns in
    record { row = c.row; column = c.column; row_within = omega arith; column_within = omega arith; number = c.number }

-- ---- ascending

-- every number of a list is at most those after it
pub data Ascends : List ℕ → Type 0 where
  empty : Ascends []
  next : {n : ℕ} {ns : List ℕ} → ((m : ℕ) → Among m ns → n ≤ m) → Ascends ns → Ascends (n ∷ ns)

ascends_append : (xs ys : List ℕ) → Ascends xs → Ascends ys → ((x y : ℕ) → Among x xs → Among y ys → x ≤ y) → Ascends (xs ++ ys)
ascends_append [] ys p q h = q
ascends_append (x ∷ xs) ys (next least p) q h =
    next
    (λ m k. ⊎_elim (λ t. least m t) (λ t. h x m (Memᴰ.head refl) t) (Memᴰ.append_cases xs k))
    (ascends_append xs ys p q (λ a b s t. h a b (Memᴰ.tail s) t))

after : (f : Field) (row first column m : ℕ) → m ≡ cell_at f row column → first ≤ column → cell_at f row first ≤ m
unfolding cell_at
after f row first column m e h = omega arith

row_ascends : (f : Field) (row first count : ℕ) → Ascends (map (cell_at f row) (run first count))
unfolding run
row_ascends f row first zero = empty
row_ascends f row first (suc count) =
    next (λ m k. let r = mapped (cell_at f row) (run (first + 1) count) m k in
    let b = run_bounds (first + 1) count r.0 r.1.0 in
    after f row first r.0 m r.1.1 (omega arith))
    (row_ascends f row (first + 1) count)

later : (f : Field) (row column row' column' x y : ℕ) → x ≡ cell_at f row column → y ≡ cell_at f row' column' → row + 1 ≤ row'
    → column ≤ f.columns - 1 → x ≤ y
unfolding cell_at
later f row column row' column' x y e d h k =
    let g : (row + 1) * (f.columns - 1) ≤ row' * (f.columns - 1) = mul-le-mul_right (f.columns - 1) h in
    omega arith

-- the columns end before the next row's begin
rows_ascend : (f : Field) (first count left width : ℕ) → ((k : ℕ) → Among k (run left width) → k ≤ f.columns - 1)
    → Ascends (grid_cells f (run first count) (run left width))
unfolding run grid_cells
rows_ascend f first zero left width h = empty
rows_ascend f first (suc count) left width h =
    ascends_append (map (cell_at f first) (run left width)) (grid_cells f (run (first + 1) count) (run left width))
    (row_ascends f first left width) (rows_ascend f (first + 1) count left width h)
    (λ x y s t. let r = mapped (cell_at f first) (run left width) x s in
    let c = cell_of f (run (first + 1) count) (run left width) y t in
    let d = run_bounds (first + 1) count c.row c.in_rows in
    later f first r.0 c.row c.column x y r.1.1 c.number (omega arith) (h r.0 r.1.0))

ranges_ascend : (f : Field) (rows columns : Option CellRange) → ((k : ℕ) → Among k (range_cells columns) → k ≤ f.columns - 1)
    → Ascends (grid_cells f (range_cells rows) (range_cells columns))
unfolding range_cells grid_cells
ranges_ascend f None columns h = empty
ranges_ascend f (Some rows) None h = subst Ascends (sym (no_columns f (run rows.first (rows.last + 1 - rows.first)))) empty
ranges_ascend f (Some rows) (Some columns) h =
    rows_ascend f rows.first (rows.last + 1 - rows.first) columns.first (columns.last + 1 - columns.first) h

-- "row order" is that of the cells' numbers
pub visited_ascend : (f : Field) (box : Aabb) → Ascends (visited_cells f box)
unfolding visited_cells column_range
visited_ascend f box =
    ranges_ascend f (row_range f box) (column_range f box)
    (λ k m. let b = range_within box.min.x box.max.x f.spacing_x (f.columns - 1) k m in omega arith)
