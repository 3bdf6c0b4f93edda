-- The answer of the visited cells: none is clear, a rectangle of nodes tells 9, and a rectangle of cells the rest. Assumes nothing.
use Prim.Native.Nat.{ℕ, ◌+◌, ◌≤◌}
use mathlib.Core.Path.{◌≡◌, sym, ap, ◌∙◌, subst}
use mathlib.Core.Bool.{true, false}
use mathlib.Core.List.{List, []}
use native.Mathlib.Omega.{arith}
use lib.Ieee.{Float}
use Rattle.geometry.specs.Segment.{segment_box}
use Rattle.geometry.specs.declared.aabb.Aabb.{Aabb}
use Rattle.geometry.specs.declared.ray.Ray.{Ray}
use Rattle.casts.specs.Answer.{bad_range}
use Rattle.height_field.specs.declared.field.Field.{Field}
use Rattle.std.specs.Prelude.{Some, None}
use Rattle.height_field.specs.declared.visited.Visited.{Visited}
use Rattle.height_field.specs.Grid.{Sized}
use Rattle.height_field.specs.Cells.{range_cells, grid_cells, visited_cells, visited_range, cells_of}
use Rattle.height_field.specs.Listing.{list_all, grid_listing}
use Rattle.height_field.proofs.Ranges.{visited_cells_lem, visited_stands}
use Rattle.height_field.proofs.Sizes.{admitted_sized}
use Rattle.height_ranges.specs.Answer.{clear, refused}
use Rattle.height_ranges.specs.Ranges.{nodes_of, node_in_order, nearest_heights}
use Rattle.lists.specs.Lists.{every}
use Rattle.height_ranges.specs.RangesCast.{answer_listed, visited_answer}
use Rattle.height_ranges.specs.Pass.{cell_touches, first_cell, grid_nodes}
use Rattle.height_ranges.specs.Promise.{Tested}
use Rattle.height_ranges.proofs.Members.{every_at}
use Rattle.height_ranges.proofs.Tests.{lows_admitted, highs_whole}
use Rattle.height_ranges.proofs.Deciding.{in_order}
use Rattle.height_ranges.proofs.Turns.{up_to}
use Rattle.height_ranges.proofs.Rectangles.{rectangle_of_nodes}

-- ---- both slices are as long as the grid

module _ (r : Ray) (f : Field) (lows highs : List Float) (t : Tested r f lows highs) where
  pub lows_sized : Sized f lows
  lows_sized = admitted_sized f lows (lows_admitted r f lows highs t)

  pub highs_sized : Sized f highs
  highs_sized =
      let s = lows_sized in
      record {
        some_rows = s.some_rows;
        few_rows = s.few_rows;
        some_columns = s.some_columns;
        few_columns = s.few_columns;
        whole =
            highs_whole r f lows highs t;
      }

-- ---- by the ranges

module _ (f : Field) (lows highs : List Float) (box : Aabb) where
  none_visited : visited_cells f box ≡ [] → visited_answer f lows highs box ≡ clear
  unfolding visited_answer grid_listing list_all nodes_of every answer_listed
  none_visited e = rw e

  pub outside : visited_range f box ≡ None → visited_answer f lows highs box ≡ clear
  unfolding cells_of
  outside e = none_visited (visited_cells_lem f box ∙ ap (cells_of f) e)

  module _ (cells : Visited) (visited : visited_range f box ≡ Some cells) (some : 2 ≤ f.columns) where
    visited_is : visited_cells f box ≡ grid_cells f (up_to cells.rows.first cells.rows.last) (up_to cells.columns.first cells.columns.last)
    unfolding cells_of range_cells
    visited_is = visited_cells_lem f box ∙ ap (cells_of f) visited

    nodes_tell : every (node_in_order lows highs) (nodes_of f (visited_cells f box))
        ≡ every (node_in_order lows highs)
        (grid_nodes f (up_to cells.rows.first (cells.rows.last + 1)) (up_to cells.columns.first (cells.columns.last + 1)))
    nodes_tell =
        let w = visited_stands f box cells visited in
        ap (λ (l : List ℕ). every (node_in_order lows highs) (nodes_of f l)) visited_is
        ∙ rectangle_of_nodes (node_in_order lows highs) f
        cells.rows.first cells.rows.last cells.columns.first cells.columns.last w.some_rows_lem w.some_columns_lem (omega (arith, w))

    pub out_of_order : every (node_in_order lows highs)
        (grid_nodes f (up_to cells.rows.first (cells.rows.last + 1)) (up_to cells.columns.first (cells.columns.last + 1))) ≡ false
        → visited_answer f lows highs box ≡ refused bad_range
    unfolding visited_answer
    out_of_order h = rw (nodes_tell ∙ h)

    pub ordered_first : (ray : Ray) → box ≡ segment_box ray → Tested ray f lows highs
        → every (node_in_order lows highs)
        (grid_nodes f (up_to cells.rows.first (cells.rows.last + 1)) (up_to cells.columns.first (cells.columns.last + 1))) ≡ true
        → visited_answer f lows highs box ≡ first_cell (cell_touches f (nearest_heights box.min.z lows highs) box)
        (grid_cells f (up_to cells.rows.first cells.rows.last) (up_to cells.columns.first cells.columns.last))
    ordered_first ray same t h =
        subst (λ (b : Aabb). every (node_in_order lows highs) (nodes_of f (visited_cells f b)) ≡ true
        → visited_answer f lows highs b ≡ first_cell (cell_touches f (nearest_heights b.min.z lows highs) b) (visited_cells f b))
        (sym same)
        (λ k. in_order ray f lows highs t (λ node m. every_at (node_in_order lows highs) (nodes_of f (visited_cells f (segment_box ray)))
        node
        k m)) (nodes_tell ∙ h)
        ∙ ap (first_cell (cell_touches f (nearest_heights box.min.z lows highs) box)) visited_is
