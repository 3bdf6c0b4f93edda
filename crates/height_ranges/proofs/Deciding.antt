-- With the tests passed and the ranges in order, the grid of the nearest heights decides. Assumes nothing.
use Prim.Native.Nat.{ℕ, zero, suc, ◌+◌, ◌*◌, ◌/◌, ◌<◌}
use mathlib.Core.Path.{◌≡◌, refl, sym, ap, ◌∙◌, subst}
use mathlib.Core.Bool.{Bool, true, false, ◌||◌, or-true}
use mathlib.Core.List.{List}
use native.Mathlib.Omega.{arith}
use lib.Ieee.{Float}
use Rattle.geometry.specs.Box.{touches}
use Rattle.geometry.specs.Segment.{segment_box}
use Rattle.geometry.specs.declared.aabb.Aabb.{Aabb}
use Rattle.geometry.specs.declared.ray.Ray.{Ray}
use Rattle.casts.specs.Answer.{none}
use Rattle.nearest_hit.specs.Nearest.{fold_from, without_index}
use Rattle.height_field.specs.declared.field.Field.{Field}
use Rattle.height_field.specs.Cells.{visited_cells}
use Rattle.height_field.specs.Listing.{listed, feature_box, grid_listing}
use Rattle.height_field.specs.Cast.{answer_of, cast_listed, height_cast, ray_height_field}
use Rattle.height_field.proofs.Sizes.{admitted_sized}
use Rattle.height_ranges.specs.Answer.{Answer, clear, possible, refused}
use Rattle.height_ranges.specs.Ranges.{cell_nodes, nodes_of, node_in_order, nearest_heights}
use Rattle.height_ranges.specs.RangesCast.{answer_listed, visited_answer}
use Rattle.height_ranges.specs.Pass.{cell_touches, first_cell}
use Rattle.height_ranges.specs.Promise.{Among, Visited, Tested, InOrder, Within, MayTouch, First}
use Rattle.height_ranges.proofs.Members.{every_of, nodes_of_cell}
use Rattle.height_ranges.proofs.NearestGrid.{Held, held_finite, nearest_held, nearest_length, lower_side, feature_nearest}
use Rattle.height_ranges.proofs.Doubles.{Typed, nearest_fits}
use Rattle.height_ranges.proofs.VisitedCells.{visited_in_grid, visited_ascend}
use Rattle.height_ranges.proofs.FiniteCells.{cell_finite_lem}
use Rattle.height_ranges.proofs.FirstCells.{first_least, clear_fails, never_refused, least_first, fails_clear, Lists}
use Rattle.height_ranges.proofs.FirstCells.{lists_touching, clear_empty}
use Rattle.height_ranges.proofs.Tests.{lows_admitted, highs_whole, box_valid, spanned, same_admitted}

module _ (r : Ray) (f : Field) (lows highs : List Float) where
  abbrev pub box : Aabb
  box = segment_box r

  abbrev pub visited : List ℕ
  visited = visited_cells f (segment_box r)

  abbrev pub nearest : List Float
  nearest = nearest_heights (segment_box r).min.z lows highs

  -- whether a cell touches on a grid
  abbrev touching : List Float → ℕ → Bool
  touching heights = cell_touches f heights (segment_box r)

  abbrev pub Answers : Answer → Type 0
  Answers answer = visited_answer f lows highs (segment_box r) ≡ answer

  abbrev Grid : List Float → Type 0
  Grid heights = Within r f lows highs heights

  abbrev Untouched : ℕ → Type 0
  Untouched cell = Visited r f lows highs cell → MayTouch r f lows highs cell → ⊥

  -- a triangle of a cell that touches on a grid
  record Touch (heights : List Float) (cell : ℕ) : Type 0 where
    triangle : ℕ
    one : triangle < 2
    touched : touches (feature_box f heights (cell * 2 + triangle)) box ≡ true

  module _ (t : Tested r f lows highs) (ordered : InOrder r f lows highs) where
    nearest_is_within : Grid nearest
    nearest_is_within =
        let z = (lower_side box (box_valid r f lows highs t)).low_finite in
        let sized = admitted_sized f lows (lows_admitted r f lows highs t) in
        record {
          whole = nearest_length box.min.z lows highs (sized.whole ∙ sym (highs_whole r f lows highs t)) ∙ sized.whole;
          above = λ node m. (nearest_held lows highs node box.min.z z (ordered node m)).above;
          below = λ node m. (nearest_held lows highs node box.min.z z (ordered node m)).below;
        }

    held : (heights : List Float) → Grid heights → (cell : ℕ) → Visited r f lows highs cell → (node : ℕ) → Among node (cell_nodes f cell)
        → Held lows highs heights node
    held heights w cell v node m =
        let k = nodes_of_cell f visited cell node v m in
        record { order = ordered node k; above = w.above node k; below = w.below node k }

    -- every grid within the ranges is listed, without a refusal
    lists : (heights : List Float) → Grid heights → Lists f heights box visited
    lists heights w =
        lists_touching f heights box visited
        (λ cell v. cell_finite_lem f (spanned r f lows highs t) heights cell
        (visited_in_grid f box (spanned r f lows highs t).some_rows (spanned r f lows highs t).some_columns cell v)
        (λ node m. held_finite lows highs node heights (held heights w cell v node m)))

    pub in_order : Answers (first_cell (touching nearest) visited)
    unfolding visited_answer grid_listing
    in_order =
        let l = lists nearest nearest_is_within in
        rw (every_of (node_in_order lows highs) (nodes_of f visited) ordered) (ap answer_listed l.listing ∙ l.first)

    -- a triangle of a cell that touches on some grid within the ranges touches at the nearest heights
    touches_nearest : (heights : List Float) → Grid heights → (cell : ℕ) → Visited r f lows highs cell → (triangle : ℕ) → triangle < 2
        → touches (feature_box f heights (cell * 2 + triangle)) box ≡ true → touching nearest cell ≡ true
    unfolding cell_touches
    touches_nearest heights w cell v = go
      where
        near : (feature : ℕ) → feature / 2 ≡ cell → touches (feature_box f heights feature) box ≡ true
            → touches (feature_box f nearest feature) box ≡ true
        near feature e = feature_nearest f lows highs heights box (box_valid r f lows highs t) cell feature e (held heights w cell v)

        go : (k : ℕ) → k < 2 → touches (feature_box f heights (cell * 2 + k)) box ≡ true
            → (touches (feature_box f nearest (cell * 2)) box || touches (feature_box f nearest (cell * 2 + 1)) box) ≡ true
        go zero h e =
            let z : cell * 2 + 0 ≡ cell * 2 = omega arith in
            let d = near (cell * 2) (omega arith) (subst (λ (n : ℕ). touches (feature_box f heights n) box ≡ true) z e) in
            ap (λ (b : Bool). b || touches (feature_box f nearest (cell * 2 + 1)) box) d
        go (suc zero) h e =
            let d = near (cell * 2 + 1) (omega arith) e in
            ap (λ (b : Bool). touches (feature_box f nearest (cell * 2)) box || b) d
            ∙ or-true (touches (feature_box f nearest (cell * 2)) box)
        go (suc (suc k)) h e = absurd (omega arith)

    may_touches : (cell : ℕ) → Visited r f lows highs cell → MayTouch r f lows highs cell → touching nearest cell ≡ true
    may_touches cell v m = touches_nearest m.heights m.within cell v m.triangle m.one m.touching

    -- and a cell that touches has a triangle that does
    one_touches : (heights : List Float) (cell : ℕ) → touching heights cell ≡ true → Touch heights cell
    unfolding cell_touches
    one_touches heights cell h = go (touches (feature_box f heights (cell * 2)) box) refl h
      where
        go : (b : Bool) → touches (feature_box f heights (cell * 2)) box ≡ b
            → (b || touches (feature_box f heights (cell * 2 + 1)) box) ≡ true → Touch heights cell
        go true e h =
            let z : cell * 2 ≡ cell * 2 + 0 = omega arith in
            record {
              triangle = 0;
              one = omega arith;
              touched = subst (λ (n : ℕ). touches (feature_box f heights n) box ≡ true) z e;
            }
        go false e h = record { triangle = 1; one = omega arith; touched = h }

    pub none_may : Answers clear → (cell : ℕ) → Untouched cell
    none_may e cell v m = clear_fails (touching nearest) visited (sym in_order ∙ e) cell v (may_touches cell v m)

    pub no_refusal : (number : ℕ) → Answers (refused number) → ⊥
    no_refusal number e = never_refused (touching nearest) visited number (sym in_order ∙ e)

    -- nothing is listed on any grid within the ranges
    pub height_cast_none : Answers clear → (heights : List Float) → Grid heights → ray_height_field r f heights ≡ none
    unfolding ray_height_field height_cast grid_listing cast_listed fold_from without_index
    height_cast_none e heights w =
        let l = lists heights w in
        let nothing = l.listing ∙ ap listed (clear_empty l.features (l.first ∙ fails_clear (touching heights) visited fails)) in
        rw (t.ray, (same_admitted r f lows highs t) heights w.whole, t.end, (box_valid r f lows highs t), t.span)
        (ap (cast_listed (answer_of r f heights)) nothing)
      where
        fails : (cell : ℕ) → Visited r f lows highs cell → touching heights cell ≡ true → ⊥
        fails cell v k =
            let one = one_touches heights cell k in
            clear_fails (touching nearest) visited (sym in_order ∙ e) cell v
            (touches_nearest heights w cell v one.triangle one.one one.touched)

    -- ---- the two answers
    module _ (typed : Typed r lows highs) where
      nearest_may : (cell : ℕ) → touching nearest cell ≡ true → MayTouch r f lows highs cell
      nearest_may cell h =
          let one = one_touches nearest cell h in
          record {
            heights = nearest;
            doubles = nearest_fits r lows highs typed;
            within = nearest_is_within;
            triangle = one.triangle;
            one = one.one;
            touching = one.touched;
          }

      pub first_of : (cell : ℕ) → Answers (possible cell) → First r f lows highs cell
      first_of cell e =
          let l = first_least (touching nearest) visited cell (visited_ascend f box) (sym in_order ∙ e) in
          record {
            visited = l.among;
            may = nearest_may cell l.passes;
            least = λ other v m. l.least other v (may_touches other v m);
          }

      pub of_first : (cell : ℕ) → First r f lows highs cell → Answers (possible cell)
      of_first cell p =
          in_order ∙ least_first (touching nearest) visited cell (visited_ascend f box)
          (record {
            among = p.visited;
            passes = may_touches cell p.visited p.may;
            least = λ other v h. p.least other v (nearest_may other h);
          })

      pub of_none : ((cell : ℕ) → Untouched cell) → Answers clear
      of_none h =
          in_order ∙ fails_clear (touching nearest) visited (λ cell v k. h cell v (nearest_may cell k))
