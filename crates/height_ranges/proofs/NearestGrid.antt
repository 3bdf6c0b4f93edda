-- The grid of the nearest heights lies within the ranges, and touches where a grid within them does. Assumes nothing.
use Prim.Native.Nat.{ℕ, zero, suc, ◌+◌, ◌/◌, ◌%◌, ◌<◌}
use mathlib.Core.Path.{◌≡◌, refl, sym, ap, ◌∙◌, subst}
use mathlib.Core.Bool.{Bool, true, false, ◌&&◌, cond, false≢true}
use mathlib.Core.List.Memᴰ
use mathlib.Core.List.{List, [], ◌∷◌}
use native.Mathlib.Omega.{arith}
use lib.Dec.{eqb}
use lib.Ieee.{Float, nan, inf, fin, le}
use lib.ListN.{length, get_or}
use Rattle.arithmetic.specs.Basic.{is_finite, clamp_to}
use Rattle.arithmetic.proofs.Numbers.{finite_number}
use Rattle.geometry.specs.Box.{valid_side, valid_box, touches, corners_box}
use Rattle.geometry.specs.declared.aabb.Aabb.{Aabb}
use Rattle.lists.proofs.JoinedTests.{and_second}
use Rattle.height_field.specs.declared.field.Field.{Field}
use Rattle.height_field.specs.Grid.{vertex_at, cell_row, cell_column, corners_at, feature_corners}
use Rattle.height_field.specs.Listing.{feature_box}
use Rattle.height_ranges.specs.Ranges.{node_at, cell_nodes, node_in_order, nearest_heights}
use Rattle.height_ranges.specs.Promise.{Among}
use Rattle.arithmetic.proofs.Clamps.{clamp_above_low, clamp_below_high}
use Rattle.height_ranges.proofs.OneGrid.{Nears, Ordered, side_ordered, clamp_nears, corners_near}

-- ---- at a node

-- in both lists the nearest number stands at its place
pub nearest_within : (z : Float) (lows highs : List Float) (node : ℕ) → node < length lows → node < length highs
    → get_or (nearest_heights z lows highs) node nan ≡ clamp_to z (get_or lows node nan) (get_or highs node nan)
unfolding nearest_heights
nearest_within z [] highs node p q = absurd (omega arith)
nearest_within z (low ∷ lows) [] node p q = absurd (omega arith)
nearest_within z (low ∷ lows) (high ∷ highs) zero p q = refl
nearest_within z (low ∷ lows) (high ∷ highs) (suc node) p q = nearest_within z lows highs node (omega arith) (omega arith)

-- past a list's end no range is in order
pub nearest_in_order : (z : Float) (lows highs : List Float) (node : ℕ) → node_in_order lows highs node ≡ true
    → get_or (nearest_heights z lows highs) node nan ≡ clamp_to z (get_or lows node nan) (get_or highs node nan)
unfolding nearest_heights node_in_order valid_side is_finite
nearest_in_order z [] highs node h = absurd (false≢true h)
nearest_in_order z (low ∷ lows) [] zero h = absurd (false≢true (and_second (is_finite low) false h))
nearest_in_order z (low ∷ lows) [] (suc node) h = absurd (false≢true (and_second (is_finite (get_or lows node nan)) false h))
nearest_in_order z (low ∷ lows) (high ∷ highs) zero h = refl
nearest_in_order z (low ∷ lows) (high ∷ highs) (suc node) h = nearest_in_order z lows highs node h

pub nearest_length : (z : Float) (lows highs : List Float) → length lows ≡ length highs
    → length (nearest_heights z lows highs) ≡ length lows
unfolding nearest_heights
nearest_length z [] highs e = refl
nearest_length z (low ∷ lows) [] e = absurd (omega arith)
nearest_length z (low ∷ lows) (high ∷ highs) e = ap suc (nearest_length z lows highs (omega arith))

-- ---- a height in its range

-- what a grid within the ranges has at a node
pub record Held (lows highs heights : List Float) (node : ℕ) : Type 0 where
  pub order : node_in_order lows highs node ≡ true
  pub above : le (get_or lows node nan) (get_or heights node nan) ≡ true
  pub below : le (get_or heights node nan) (get_or highs node nan) ≡ true

between_finite : (low x high : Float) → is_finite low ≡ true → is_finite high ≡ true → le low x ≡ true → le x high ≡ true
    → is_finite x ≡ true
unfolding is_finite le
between_finite low nan high p q a b = absurd (false≢true b)
between_finite nan (inf s) high p q a b = absurd (false≢true p)
between_finite (inf t) (inf s) high p q a b = absurd (false≢true p)
between_finite (fin t m e) (inf s) nan p q a b = absurd (false≢true q)
between_finite (fin t m e) (inf s) (inf u) p q a b = absurd (false≢true q)
between_finite (fin t m e) (inf false) (fin u n d) p q a b = absurd (false≢true b)
between_finite (fin t m e) (inf true) (fin u n d) p q a b = absurd (false≢true a)
between_finite low (fin s m e) high p q a b = refl

module _ (lows highs : List Float) (node : ℕ) where
  pub ordered_at : node_in_order lows highs node ≡ true → Ordered (get_or lows node nan) (get_or highs node nan)
  unfolding node_in_order
  ordered_at = side_ordered (get_or lows node nan) (get_or highs node nan)

  pub held_finite : (heights : List Float) → Held lows highs heights node → is_finite (get_or heights node nan) ≡ true
  held_finite heights h =
      let o = ordered_at h.order in
      between_finite (get_or lows node nan) (get_or heights node nan) (get_or highs node nan) o.low_finite o.high_finite h.above
      h.below

  pub nearest_held : (z : Float) → is_finite z ≡ true → node_in_order lows highs node ≡ true
      → Held lows highs (nearest_heights z lows highs) node
  nearest_held z n h =
      let o = ordered_at h in
      let e = nearest_in_order z lows highs node h in
      record {
        order = h;
        above = ap (le (get_or lows node nan)) e ∙ clamp_above_low z (get_or lows node nan) (get_or highs node nan) (finite_number z n)
            o.ordered;
        below = ap (λ (x : Float). le x (get_or highs node nan)) e
            ∙ clamp_below_high z (get_or lows node nan) (get_or highs node nan) (finite_number z n) o.ordered;
      }

  held_nears : (heights : List Float) (z top : Float) → is_finite z ≡ true → le z top ≡ true → Held lows highs heights node
      → Nears z top (get_or heights node nan) (get_or (nearest_heights z lows highs) node nan)
  held_nears heights z top n t h =
      subst (Nears z top (get_or heights node nan)) (sym (nearest_in_order z lows highs node h.order))
      (clamp_nears z top (get_or lows node nan) (get_or highs node nan) (get_or heights node nan) n t (ordered_at h.order) h.above
      h.below)

-- ---- a cell

-- the lower side of a valid box on z
pub lower_side : (box : Aabb) → valid_box box ≡ true → Ordered box.min.z box.max.z
unfolding valid_box
lower_side box h =
    let sx = valid_side box.min.x box.max.x in
    let sy = valid_side box.min.y box.max.y in
    let sz = valid_side box.min.z box.max.z in
    side_ordered box.min.z box.max.z (and_second sy sz (and_second sx (sy && sz) h))

module _ (f : Field) (lows highs heights : List Float) (box : Aabb) (valid : valid_box box ≡ true) where
  node_near : (node : ℕ) → Held lows highs heights node → Nears box.min.z box.max.z (get_or heights node nan)
      (get_or (nearest_heights box.min.z lows highs) node nan)
  node_near node =
      let o = lower_side box valid in
      held_nears lows highs node heights box.min.z box.max.z o.low_finite o.ordered

  corners_nearest : (row column : ℕ) (which : ℕ)
      → Held lows highs heights (node_at f row column) → Held lows highs heights (node_at f row (column + 1))
      → Held lows highs heights (node_at f (row + 1) column) → Held lows highs heights (node_at f (row + 1) (column + 1))
      → touches (corners_box (corners_at f heights row column which)) box ≡ true
      → touches (corners_box (corners_at f (nearest_heights box.min.z lows highs) row column which)) box ≡ true
  unfolding corners_at vertex_at node_at
  corners_nearest row column which p00 p10 p01 p11 = go (eqb which 0)
    where
      go : (b : Bool)
          → touches (corners_box
          (cond b (vertex_at f heights row column ∷ vertex_at f heights row (column + 1) ∷ vertex_at f heights (row + 1)
          (column + 1) ∷ [])
          (vertex_at f heights row column ∷ vertex_at f heights (row + 1) (column + 1) ∷ vertex_at f heights (row + 1) column ∷ [])))
          box ≡ true
          → touches (corners_box
          (cond b (vertex_at f (nearest_heights box.min.z lows highs) row column ∷ vertex_at f
          (nearest_heights box.min.z lows highs) row (column + 1) ∷ vertex_at f (nearest_heights box.min.z lows highs) (row + 1)
          (column + 1) ∷ [])
          (vertex_at f (nearest_heights box.min.z lows highs) row column ∷ vertex_at f (nearest_heights box.min.z lows highs)
          (row + 1) (column + 1) ∷ vertex_at f (nearest_heights box.min.z lows highs) (row + 1) column ∷ []))) box ≡ true
      go true = corners_near box _ _ _ _ _ _ _ _ _ _ _ _ (node_near (node_at f row column) p00)
          (node_near (node_at f row (column + 1)) p10) (node_near (node_at f (row + 1) (column + 1)) p11)
      go false = corners_near box _ _ _ _ _ _ _ _ _ _ _ _ (node_near (node_at f row column) p00)
          (node_near (node_at f (row + 1) (column + 1)) p11) (node_near (node_at f (row + 1) column) p01)

  -- a triangle of a cell whose four nodes are held
  pub feature_nearest : (cell feature : ℕ) → feature / 2 ≡ cell → ((node : ℕ) → Among node (cell_nodes f cell)
      → Held lows highs heights node)
      → touches (feature_box f heights feature) box ≡ true → touches (feature_box f (nearest_heights box.min.z lows highs) feature)
      box ≡ true
  unfolding feature_box feature_corners cell_nodes
  feature_nearest cell feature e held h =
      let held' = subst (λ (c : ℕ). (node : ℕ) → Among node (cell_nodes f c) → Held lows highs heights node) (sym e) held in
      let row = cell_row f (feature / 2) in
      let column = cell_column f (feature / 2) in
      corners_nearest row column (feature % 2)
      (held' (node_at f row column) (Memᴰ.head refl))
      (held' (node_at f row (column + 1)) (Memᴰ.tail (Memᴰ.head refl)))
      (held' (node_at f (row + 1) column) (Memᴰ.tail (Memᴰ.tail (Memᴰ.head refl))))
      (held' (node_at f (row + 1) (column + 1)) (Memᴰ.tail (Memᴰ.tail (Memᴰ.tail (Memᴰ.head refl)))))
      h
