-- After the tests and 9 the listing refuses nothing: the vertices of visited cells are finite and their boxes valid. Assumes nothing.
use Prim.Native.Nat.{ℕ, ◌+◌, ◌-◌, ◌*◌, ◌≤◌, ◌<◌}
use mathlib.Core.Path.{◌≡◌, refl, ap, ◌∙◌}
use mathlib.Core.Bool.{true}
use mathlib.Core.List.Memᴰ
use mathlib.Core.List.{List, [], ◌∷◌}
use native.Mathlib.Omega.{arith}
use lib.Ieee.{Float, nan}
use lib.ListN.{get_or}
use Rattle.arithmetic.specs.Basic.{is_finite}
use Rattle.vectors.specs.Numbers.{◌*ᶠ◌}
use Rattle.vectors.specs.Vector.{finite_vec}
use Rattle.geometry.specs.Box.{touches}
use Rattle.geometry.specs.declared.aabb.Aabb.{Aabb}
use Rattle.lists.proofs.JoinedTests.{and_both, and_three}
use Rattle.height_field.specs.declared.field.Field.{Field}
use Rattle.height_field.specs.Grid.{float_of, vertex_at, cell_row, cell_column}
use Rattle.height_field.specs.Cells.{span_of}
use Rattle.height_field.specs.Listing.{listed, all_finite, cell_finite, feature_box, list_cell}
use Rattle.lists.specs.Lists.{keep}
use Rattle.height_field.proofs.Sizes.{row_of_cell, column_of_cell}
use Rattle.height_field.proofs.CellPass.{feature_valid}
use Rattle.height_ranges.specs.Ranges.{node_at, cell_nodes}
use Rattle.height_ranges.specs.Promise.{Among}
use Rattle.height_ranges.proofs.Products.{place_finite}
use Rattle.height_ranges.proofs.VisitedCells.{InGrid}

-- an admitted grid whose span is finite
pub record Spanned (f : Field) : Type 0 where
  pub some_rows : 2 ≤ f.rows
  pub few_rows : f.rows ≤ 1024
  pub some_columns : 2 ≤ f.columns
  pub few_columns : f.columns ≤ 1024
  pub spacing_x : is_finite f.spacing_x ≡ true
  pub spacing_y : is_finite f.spacing_y ≡ true
  pub span_x : is_finite (span_of f.spacing_x (f.columns - 1)) ≡ true
  pub span_y : is_finite (span_of f.spacing_y (f.rows - 1)) ≡ true

module _ (f : Field) (spanned : Spanned f) (heights : List Float) where
  vertex_finite : (row column : ℕ) → row < f.rows → column < f.columns → is_finite (get_or heights (node_at f row column) nan) ≡ true
      → finite_vec (vertex_at f heights row column) ≡ true
  unfolding finite_vec vertex_at node_at span_of
  vertex_finite row column p q h =
      and_three (is_finite (float_of column *ᶠ f.spacing_x)) (is_finite (float_of row *ᶠ f.spacing_y))
      (is_finite (get_or heights (node_at f row column) nan))
      (place_finite f.spacing_x column (f.columns - 1) (omega arith) (omega (arith, spanned)) spanned.spacing_x spanned.span_x)
      (place_finite f.spacing_y row (f.rows - 1) (omega arith) (omega (arith, spanned)) spanned.spacing_y spanned.span_y)
      h

  -- a cell in the grid, whose heights are finite at its four nodes
  pub cell_finite_lem : (cell : ℕ) → InGrid f cell → ((node : ℕ) → Among node (cell_nodes f cell) → is_finite (get_or heights node nan)
      ≡ true)
      → cell_finite f heights (cell_row f cell) (cell_column f cell) ≡ true
  unfolding cell_finite all_finite cell_nodes
  cell_finite_lem cell g h =
      let row : cell_row f cell ≡ g.row = ap (cell_row f) g.number ∙ row_of_cell f g.row g.column g.column_within in
      let column : cell_column f cell ≡ g.column = ap (cell_column f) g.number
      ∙ column_of_cell f g.row g.column g.column_within in
      let r = cell_row f cell in
      let c = cell_column f cell in
      let row_in : r + 1 < f.rows = omega (arith, row, g.row_within) in
      let columnIn : c + 1 < f.columns = omega (arith, column, g.column_within) in
      and_both (finite_vec (vertex_at f heights r c)) _
      (vertex_finite r c (omega arith) (omega arith) (h (node_at f r c) (Memᴰ.head refl)))
      (and_three (finite_vec (vertex_at f heights r (c + 1))) (finite_vec (vertex_at f heights (r + 1) c))
      (finite_vec (vertex_at f heights (r + 1) (c + 1)))
      (vertex_finite r (c + 1) (omega arith) (omega arith) (h (node_at f r (c + 1)) (Memᴰ.tail (Memᴰ.head refl))))
      (vertex_finite (r + 1) c (omega arith) (omega arith)
      (h (node_at f (r + 1) c) (Memᴰ.tail (Memᴰ.tail (Memᴰ.head refl)))))
      (vertex_finite (r + 1) (c + 1) (omega arith) (omega arith)
      (h (node_at f (r + 1) (c + 1)) (Memᴰ.tail (Memᴰ.tail (Memᴰ.tail (Memᴰ.head refl)))))))

-- a cell with finite vertices lists its triangles that touch
pub cell_lists : (f : Field) (heights : List Float) (box : Aabb) (cell : ℕ)
    → cell_finite f heights (cell_row f cell) (cell_column f cell) ≡ true
    → list_cell f heights box cell ≡ listed (keep (λ (feature : ℕ). touches (feature_box f heights feature) box)
    ((cell * 2) ∷ (cell * 2 + 1) ∷ []))
unfolding list_cell
cell_lists f heights box cell finite =
    rw (
      finite,
      feature_valid f heights cell (cell * 2) (omega arith) finite,
      feature_valid f heights cell (cell * 2 + 1) (omega arith)
          finite,
    )
