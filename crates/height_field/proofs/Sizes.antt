-- An admitted grid is small, and its rows, columns, cells and features are told by their numbers. Assumes nothing.
use Prim.Native.Nat.{ℕ, ◌+◌, ◌-◌, ◌*◌, ◌≤◌, ◌<◌}
use mathlib.Core.Path.{◌≡◌, ◌∙◌}
use mathlib.Core.Bool.{true, ◌&&◌}
use mathlib.Core.List.{List}
use native.Mathlib.Nat.{mul-le-mul, mul-add-div_right, mul-add-mod_self_right, div-eq_of_lt}
use native.Mathlib.Nat.{mod-eq_of_lt}
use native.Mathlib.Omega.{arith}
use lib.Dec.{leb, eqb}
use lib.ListN.{length}
use lib.Ieee.{Float}
use borrow.Author.Tests.{leb-true, eqb-true}
use lib.Arith.{digits_lt}
use Rattle.lists.proofs.JoinedTests.{and_first, and_second}
use Rattle.height_field.specs.declared.field.Field.{Field}
use Rattle.geometry.specs.Spacing.{spacing_admitted}
use Rattle.height_field.specs.Grid.{side_admitted, field_admitted, Sized, cell_at, cell_row, cell_column}

-- ---- admitted

pub side_bounds : (n : ℕ) → side_admitted n ≡ true → (2 ≤ n) × (n ≤ 1024)
unfolding side_admitted
side_bounds n h = (leb-true 2 n (and_first (leb 2 n) (leb n 1024) h), leb-true n 1024 (and_second (leb 2 n) (leb n 1024) h))

pub admitted_sized : (f : Field) (heights : List Float) → field_admitted f heights ≡ true → Sized f heights
unfolding field_admitted
admitted_sized f heights h =
    let a = side_admitted f.rows in
    let b = side_admitted f.columns in
    let d = spacing_admitted f.spacing_x in
    let e = spacing_admitted f.spacing_y in
    let l = eqb (length heights) (f.rows * f.columns) in
    let rest = and_second a (b && (d && (e && l))) h in
    let rows = side_bounds f.rows (and_first a (b && (d && (e && l))) h) in
    let columns = side_bounds f.columns (and_first b (d && (e && l)) rest) in
    let same = and_second e l (and_second d (e && l) (and_second b (d && (e && l)) rest)) in
    record {
      some_rows = rows.0;
      few_rows = rows.1;
      some_columns = columns.0;
      few_columns = columns.1;
      whole = eqb-true (length heights) (f.rows * f.columns) same;
    }

-- ---- products

pub product_small : {a b : ℕ} → a ≤ 1024 → b ≤ 1024 → a * b ≤ 1048576
product_small p q = mul-le-mul p q

-- the place of a vertex, and the number of a cell, in an admitted grid
module _ (f : Field) (heights : List Float) (row column : ℕ) (sized : Sized f heights) where
  pub vertex_within : row < f.rows → column < f.columns → (row * f.columns + column < length heights) × (length heights ≤ 1048576)
  vertex_within p q =
      let within = digits_lt p q in
      let small = product_small sized.few_rows sized.few_columns in
      let whole = sized.whole in
      (omega arith, omega arith)

  pub cell_small : row + 1 < f.rows → column + 1 < f.columns → row * (f.columns - 1) + column < 1048576
  cell_small p q =
      let within : row * (f.columns - 1) + column < (f.rows - 1) * (f.columns - 1) = digits_lt (omega arith) (omega arith) in
      let small : (f.rows - 1) * (f.columns - 1) ≤ 1048576 = product_small (omega (arith, sized)) (omega (arith, sized)) in
      omega arith

-- ---- cells

pub row_of_cell : (f : Field) (row column : ℕ) → column + 1 < f.columns → cell_row f (cell_at f row column) ≡ row
unfolding cell_row cell_at
row_of_cell f row column h =
    let some : 0 < f.columns - 1 = omega arith in
    let within : column < f.columns - 1 = omega arith in
    let none = div-eq_of_lt within in
    let whole = mul-add-div_right some row column in
    omega arith

pub column_of_cell : (f : Field) (row column : ℕ) → column + 1 < f.columns → cell_column f (cell_at f row column) ≡ column
unfolding cell_column cell_at
column_of_cell f row column h =
    let within : column < f.columns - 1 = omega arith in
    mul-add-mod_self_right row (f.columns - 1) column ∙ mod-eq_of_lt within
