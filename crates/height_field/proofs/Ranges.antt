-- The cells that a box visits: a rectangle that stands in the grid, or none; and the pass over them. Assumes nothing.
use Prim.Native.Nat.{ℕ, ◌+◌, ◌-◌, ◌≤◌}
use mathlib.Core.Path.{◌≡◌, refl, ap, ◌∙◌, subst}
use mathlib.Core.Bool.{Bool, true, false, cond}
use mathlib.Core.List.{List, [], ◌∷◌}
use native.Mathlib.Nat.{min-le_right}
use lib.Ieee.{Float, lt}
use Rattle.arithmetic.specs.Basic.{is_finite, clamp_to}
use Rattle.arithmetic.specs.Rounding.{floor_of, whole_of}
use Rattle.vectors.specs.Numbers.{◌/ᶠ◌, zeroᶠ}
use Rattle.geometry.specs.declared.aabb.Aabb.{Aabb}
use Rattle.geometry.specs.declared.ray.Ray.{Ray}
use Rattle.nearest_hit.specs.Nearest.{no_hit}
use Rattle.height_field.specs.declared.field.Field.{Field}
use Rattle.height_field.specs.declared.cells.CellRange.{CellRange}
use Rattle.height_field.specs.declared.visited.Visited.{Visited}
use Rattle.std.specs.Prelude.{Option, Some, None}
use Rattle.height_field.specs.Grid.{float_of}
use Rattle.height_field.specs.Cells.{span_of, scaled_range, cell_range, run, range_cells, grid_cells, column_range, row_range}
use Rattle.height_field.specs.Cells.{visited_cells, visited_by, visited_range, cells_of}
use Rattle.height_field.specs.Listing.{list_cell, list_all, grid_listing}
use Rattle.height_field.specs.Cast.{answer_of}
use Rattle.height_field.specs.Pass.{going, pass_from, grid_pass}
use Rattle.height_field.proofs.ListingPass.{pass_done}

-- ---- the last cell

-- a range that ends at `top` or before
EndsBy : ℕ → Option CellRange → Type 0
EndsBy top None = Unit
EndsBy top (Some range) = range.last ≤ top

either_ends : (top : ℕ) (test : Bool) (r q : Option CellRange) → EndsBy top r → EndsBy top q → EndsBy top (cond test r q)
either_ends top true r q a b = a
either_ends top false r q a b = b

scaled_ends : (low high : Float) (last : ℕ) → EndsBy last (scaled_range low high last)
unfolding scaled_range EndsBy
scaled_ends low high last =
    either_ends last (is_finite low) _ None
    (either_ends last (is_finite high) _ None (min-le_right (whole_of (floor_of high)) last) tt)
    tt

range_ends : (low high spacing : Float) (count : ℕ) → EndsBy (count - 1) (cell_range low high spacing count)
unfolding cell_range EndsBy
range_ends low high spacing count =
    either_ends (count - 1) (lt high zeroᶠ) None _ tt
    (either_ends (count - 1) (lt (span_of spacing count) low) None _ tt
    (scaled_ends (clamp_to (low /ᶠ spacing) zeroᶠ (float_of (count - 1))) (clamp_to (high /ᶠ spacing) zeroᶠ (float_of (count - 1)))
    (count - 1)))

pub last_within : (low high spacing : Float) (count : ℕ) (range : CellRange) → cell_range low high spacing count ≡ Some range
    → range.last ≤ count - 1
unfolding EndsBy
last_within low high spacing count range e = subst (EndsBy (count - 1)) e (range_ends low high spacing count)

-- ---- the first cell stands at or before the last

Runs : Option CellRange → Type 0
Runs None = Unit
Runs (Some range) = range.first ≤ range.last

either_runs : (test : Bool) (r q : Option CellRange) → Runs r → Runs q → Runs (cond test r q)
either_runs true r q a b = a
either_runs false r q a b = b

range_runs : (low high spacing : Float) (count : ℕ) → Runs (cell_range low high spacing count)
unfolding cell_range scaled_range Runs
range_runs low high spacing count =
    either_runs (lt high zeroᶠ) None _ tt
    (either_runs (lt (span_of spacing count) low) None _ tt
    (either_runs (is_finite (clamp_to (low /ᶠ spacing) zeroᶠ (float_of (count - 1)))) _ None
    (either_runs (is_finite (clamp_to (high /ᶠ spacing) zeroᶠ (float_of (count - 1)))) _ None (min-le_right _ _) tt) tt))

-- ---- the cells of a box

pub no_columns : (f : Field) (rows : List ℕ) → grid_cells f rows [] ≡ []
unfolding grid_cells
no_columns f [] = refl
no_columns f (row ∷ rows) = no_columns f rows

cells_by : (f : Field) (columns rows : Option CellRange) → grid_cells f (range_cells rows) (range_cells columns)
    ≡ cells_of f (visited_by columns rows)
unfolding range_cells grid_cells cells_of visited_by
cells_by f None rows = no_columns f (range_cells rows)
cells_by f (Some columns) None = refl
cells_by f (Some columns) (Some rows) = refl

-- the code's ranges hold the visited cells
pub visited_cells_lem : (f : Field) (box : Aabb) → visited_cells f box ≡ cells_of f (visited_range f box)
unfolding visited_cells visited_range
visited_cells_lem f box = cells_by f (column_range f box) (row_range f box)

-- a rectangle of cells that stands in the grid
pub record Standing (f : Field) (cells : Visited) : Type 0 where
  pub some_rows_lem : cells.rows.first ≤ cells.rows.last
  pub few_rows_lem : cells.rows.last ≤ f.rows - 1 - 1
  pub some_columns_lem : cells.columns.first ≤ cells.columns.last
  pub few_columns_lem : cells.columns.last ≤ f.columns - 1 - 1

Stands : Field → Option Visited → Type 0
Stands f None = Unit
Stands f (Some cells) = Standing f cells

stands_by : (f : Field) (columns rows : Option CellRange) → EndsBy (f.columns - 1 - 1) columns → Runs columns → EndsBy (f.rows - 1 - 1) rows
    → Runs rows → Stands f (visited_by columns rows)
unfolding Stands visited_by EndsBy Runs
stands_by f None rows a b c d = tt
stands_by f (Some columns) None a b c d = tt
stands_by f (Some columns) (Some rows) a b c d = record {
  some_rows_lem = d;
  few_rows_lem = c;
  some_columns_lem = b;
  few_columns_lem = a;
}

pub visited_stands : (f : Field) (box : Aabb) (cells : Visited) → visited_range f box ≡ Some cells → Standing f cells
unfolding visited_range column_range row_range Stands
visited_stands f box cells e =
    subst (Stands f) e
    (stands_by f (column_range f box) (row_range f box)
    (range_ends box.min.x box.max.x f.spacing_x (f.columns - 1))
    (range_runs box.min.x box.max.x f.spacing_x (f.columns - 1))
    (range_ends box.min.y box.max.y f.spacing_y (f.rows - 1))
    (range_runs box.min.y box.max.y f.spacing_y (f.rows - 1)))

-- ---- the pass over the grid

module _ (ray : Ray) (box : Aabb) (f : Field) (heights : List Float) where
  pub pass_outside : visited_range f box ≡ None → grid_pass ray box f heights ≡ going no_hit
  unfolding grid_pass grid_listing list_all cells_of
  pass_outside e =
      pass_done (answer_of ray f heights) no_hit _
      (ap (list_all (list_cell f heights box)) (visited_cells_lem f box ∙ ap (cells_of f) e))

  pub pass_inside : (cells : Visited) → visited_range f box ≡ Some cells
      → grid_pass ray box f heights
      ≡ pass_from (answer_of ray f heights) no_hit
      (list_all (list_cell f heights box)
      (grid_cells f (run cells.rows.first (cells.rows.last + 1 - cells.rows.first))
      (run cells.columns.first (cells.columns.last + 1 - cells.columns.first))))
  unfolding grid_pass grid_listing cells_of range_cells
  pass_inside cells e =
      ap (λ (visited : List ℕ). pass_from (answer_of ray f heights) no_hit (list_all (list_cell f heights box) visited))
      (visited_cells_lem f box ∙ ap (cells_of f) e)
