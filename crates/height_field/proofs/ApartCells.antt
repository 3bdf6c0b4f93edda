-- A cell whose vertices are finite lists nothing where the box around them does not touch, and where it does each triangle's box touches on
-- x and y; and the vertices are finite where their sum is. Assumes nothing.
use Prim.Native.Nat.{ℕ, ◌+◌, ◌*◌, ◌<◌}
use mathlib.Core.Path.{◌≡◌, refl, sym, ap, ◌∙◌}
use mathlib.Core.Bool.{Bool, true, false, ◌&&◌, false≢true}
use mathlib.Core.List.{List, [], ◌∷◌}
use mathlib.Core.Logic.{⊎_elim}
use native.Mathlib.Omega.{arith}
use lib.Ieee.{Float, nan, inf, fin, add, le, is_nan}
use Rattle.arithmetic.specs.Basic.{is_finite}
use Rattle.arithmetic.specs.Extremes.{minimum_of, maximum_of}
use Rattle.arithmetic.proofs.Numbers.{finite_number}
use Rattle.arithmetic.proofs.Order.{le_transitive}
use Rattle.arithmetic.proofs.ExtremesOrder.{minimum_one, maximum_one, minimum_finite, maximum_finite}
use Rattle.arithmetic.proofs.ExtremesOrder.{minimum_below_first, minimum_below_second, maximum_above_first, maximum_above_second}
use Rattle.vectors.specs.Numbers.{◌+ᶠ◌}
use Rattle.vectors.specs.Vector.{finite_vec, add_of, min_of, max_of}
use Rattle.geometry.specs.Box.{touch_side, within_side, encloses, touches, corners_box, corner}
use Rattle.vectors.specs.declared.vec3.Vec3.{Vec3}
use Rattle.geometry.specs.declared.aabb.Aabb.{Aabb}
use Rattle.lists.proofs.JoinedTests.{and_both, and_first, and_second, and_three}
use Rattle.lists.specs.Lists.{keep}
use Rattle.geometry.proofs.BoxLaws.{touches_grows}
use Rattle.vectors.proofs.FiniteVectors.{finite_x, finite_y, finite_z}
use Rattle.height_field.specs.declared.field.Field.{Field}
use Rattle.height_field.specs.Grid.{vertex_at, cell_at, corners_at}
use Rattle.height_field.specs.Listing.{listed, all_finite, cell_finite, feature_box, list_cell}
use Rattle.height_field.specs.Pass.{around_cell, cell_touches, NearCorners}
use Rattle.height_field.proofs.CellPass.{each_finite, lower_finite, upper_finite, feature_valid, corners_of_feature, finite_cell}

-- ---- a sum that is finite

parts_finite : (a b : Float) → is_finite (a +ᶠ b) ≡ true → (is_finite a ≡ true) × (is_finite b ≡ true)
unfolding add is_finite
parts_finite nan b h = absurd (false≢true h)
parts_finite (inf s) nan h = absurd (false≢true h)
parts_finite (inf true) (inf true) h = absurd (false≢true h)
parts_finite (inf true) (inf false) h = absurd (false≢true h)
parts_finite (inf false) (inf true) h = absurd (false≢true h)
parts_finite (inf false) (inf false) h = absurd (false≢true h)
parts_finite (inf s) (fin t n d) h = absurd (false≢true h)
parts_finite (fin s m e) nan h = absurd (false≢true h)
parts_finite (fin s m e) (inf t) h = absurd (false≢true h)
parts_finite (fin s m e) (fin t n d) h = (refl, refl)

-- four numbers of an axis
module _ (a b c d : Float) (h : is_finite (a +ᶠ b +ᶠ (c +ᶠ d)) ≡ true) where
  halves : (is_finite (a +ᶠ b) ≡ true) × (is_finite (c +ᶠ d) ≡ true)
  halves = parts_finite (a +ᶠ b) (c +ᶠ d) h

  first_pair : (is_finite a ≡ true) × (is_finite b ≡ true)
  first_pair = parts_finite a b halves.0

  second_pair : (is_finite c ≡ true) × (is_finite d ≡ true)
  second_pair = parts_finite c d halves.1

-- the sum of a cell's vertices, and of its three numbers
module _ (v00 v10 v01 v11 : Vec3) where
  abbrev total : Vec3
  total = add_of (add_of v00 v10) (add_of v01 v11)

  pub sum_tells : is_finite (total.x +ᶠ total.y +ᶠ total.z) ≡ true → all_finite v00 v10 v01 v11 ≡ true
  unfolding add_of all_finite finite_vec
  sum_tells h =
      let all = parts_finite (total.x +ᶠ total.y) total.z h in
      let flat = parts_finite total.x total.y all.0 in
      let x = first_pair v00.x v10.x v01.x v11.x flat.0 in
      let x' = second_pair v00.x v10.x v01.x v11.x flat.0 in
      let y = first_pair v00.y v10.y v01.y v11.y flat.1 in
      let y' = second_pair v00.y v10.y v01.y v11.y flat.1 in
      let z = first_pair v00.z v10.z v01.z v11.z all.1 in
      let z' = second_pair v00.z v10.z v01.z v11.z all.1 in
      and_both (finite_vec v00) (finite_vec v10 && (finite_vec v01 && finite_vec v11))
      (and_three (is_finite v00.x) (is_finite v00.y) (is_finite v00.z) x.0 y.0 z.0)
      (and_three (finite_vec v10) (finite_vec v01) (finite_vec v11)
      (and_three (is_finite v10.x) (is_finite v10.y) (is_finite v10.z) x.1 y.1 z.1)
      (and_three (is_finite v01.x) (is_finite v01.y) (is_finite v01.z) x'.0 y'.0 z'.0)
      (and_three (is_finite v11.x) (is_finite v11.y) (is_finite v11.z) x'.1 y'.1 z'.1))

-- ---- the box around four vertices

-- a number at most both of two is at most their minimum, and one at least both at least their maximum
below_both : (m a b : Float) → le m a ≡ true → le m b ≡ true → le m (minimum_of a b) ≡ true
below_both m a b p q = ⊎_elim (λ e. ap (le m) e ∙ p) (λ e. ap (le m) e ∙ q) (minimum_one a b)

above_both : (m a b : Float) → le a m ≡ true → le b m ≡ true → le (maximum_of a b) m ≡ true
above_both m a b p q =
    ⊎_elim (λ e. ap (λ (x : Float). le x m) e ∙ p) (λ e. ap (λ (x : Float). le x m) e ∙ q) (maximum_one a b)

-- a number of a side
record Between (low high x : Float) : Type 0 where
  below : le low x ≡ true
  above : le x high ≡ true

-- each of four finite numbers stands between the least and the greatest
module _ (a b c d : Float) (fa : is_finite a ≡ true) (fb : is_finite b ≡ true) (fc : is_finite c ≡ true) (fd : is_finite d ≡ true) where
  abbrev least : Float
  least = minimum_of (minimum_of a b) (minimum_of c d)

  abbrev greatest : Float
  greatest = maximum_of (maximum_of a b) (maximum_of c d)

  low_ab : is_nan (minimum_of a b) ≡ false
  low_ab = finite_number (minimum_of a b) (minimum_finite a b fa fb)

  low_cd : is_nan (minimum_of c d) ≡ false
  low_cd = finite_number (minimum_of c d) (minimum_finite c d fc fd)

  high_ab : is_nan (maximum_of a b) ≡ false
  high_ab = finite_number (maximum_of a b) (maximum_finite a b fa fb)

  high_cd : is_nan (maximum_of c d) ≡ false
  high_cd = finite_number (maximum_of c d) (maximum_finite c d fc fd)

  -- what stands between a pair's own, of the first pair or of the second
  of_first : (x : Float) → Between (minimum_of a b) (maximum_of a b) x → Between least greatest x
  of_first x h = record {
    below = le_transitive least (minimum_of a b) x (minimum_below_first (minimum_of a b) (minimum_of c d) low_ab low_cd) h.below;
    above = le_transitive x (maximum_of a b) greatest h.above (maximum_above_first (maximum_of a b) (maximum_of c d) high_ab high_cd);
  }

  of_second : (x : Float) → Between (minimum_of c d) (maximum_of c d) x → Between least greatest x
  of_second x h = record {
    below = le_transitive least (minimum_of c d) x (minimum_below_second (minimum_of a b) (minimum_of c d) low_ab low_cd) h.below;
    above = le_transitive x (maximum_of c d) greatest h.above (maximum_above_second (maximum_of a b) (maximum_of c d) high_ab high_cd);
  }

pair_first : (a b : Float) → is_finite a ≡ true → is_finite b ≡ true → Between (minimum_of a b) (maximum_of a b) a
pair_first a b fa fb =
    let p = finite_number a fa in
    let q = finite_number b fb in
    record { below = minimum_below_first a b p q; above = maximum_above_first a b p q }

pair_second : (a b : Float) → is_finite a ≡ true → is_finite b ≡ true → Between (minimum_of a b) (maximum_of a b) b
pair_second a b fa fb =
    let p = finite_number a fa in
    let q = finite_number b fb in
    record { below = minimum_below_second a b p q; above = maximum_above_second a b p q }

-- three numbers of a side: their own side stands within it
three_within : (low high p q r : Float) → Between low high p → Between low high q → Between low high r
    → within_side low high (minimum_of (minimum_of p q) r) (maximum_of (maximum_of p q) r) ≡ true
unfolding within_side
three_within low high p q r hp hq hr =
    and_both (le low (minimum_of (minimum_of p q) r)) (le (maximum_of (maximum_of p q) r) high)
    (below_both low (minimum_of p q) r (below_both low p q hp.below hq.below) hr.below)
    (above_both high (maximum_of p q) r (above_both high p q hp.above hq.above) hr.above)

-- a point of a box
record Inside (box : Aabb) (v : Vec3) : Type 0 where
  on_x_lem : Between box.min.x box.max.x v.x
  on_y_lem : Between box.min.y box.max.y v.y
  on_z_lem : Between box.min.z box.max.z v.z

-- a box with three points encloses theirs, so that theirs does not touch where it does not
corners_apart : (around box : Aabb) (vs : List Vec3)
    → Inside around (corner vs 0) → Inside around (corner vs 1) → Inside around (corner vs 2)
    → touches around box ≡ false → touches (corners_box vs) box ≡ false
unfolding encloses corners_box min_of max_of
corners_apart around box vs p q r h = not_grown (touches (corners_box vs) box) refl
  where
    enclosed : encloses around (corners_box vs) ≡ true
    enclosed =
        and_three _ _ _
        (three_within around.min.x around.max.x (corner vs 0).x (corner vs 1).x (corner vs 2).x p.on_x_lem q.on_x_lem r.on_x_lem)
        (three_within around.min.y around.max.y (corner vs 0).y (corner vs 1).y (corner vs 2).y p.on_y_lem q.on_y_lem r.on_y_lem)
        (three_within around.min.z around.max.z (corner vs 0).z (corner vs 1).z (corner vs 2).z p.on_z_lem q.on_z_lem r.on_z_lem)

    not_grown : (t : Bool) → touches (corners_box vs) box ≡ t → touches (corners_box vs) box ≡ false
    not_grown false e = e
    not_grown true e = absurd (false≢true (sym h ∙ touches_grows around (corners_box vs) box enclosed e))

-- the vertices of a cell are inside the box around them
module _ (v00 v10 v01 v11 : Vec3) (finite : all_finite v00 v10 v01 v11 ≡ true) where
  abbrev around : Aabb
  around = around_cell v00 v10 v01 v11

  abbrev OnAxis : (Vec3 → Float) → Float → Type 0
  OnAxis axis x = Between (minimum_of (minimum_of (axis v00) (axis v10)) (minimum_of (axis v01) (axis v11)))
      (maximum_of (maximum_of (axis v00) (axis v10)) (maximum_of (axis v01) (axis v11))) x

  inside : (v : Vec3) → ((axis : Vec3 → Float) → ((w : Vec3) → finite_vec w ≡ true → is_finite (axis w) ≡ true) → OnAxis axis (axis v))
      → Inside around v
  unfolding around_cell min_of max_of
  inside v on = record { on_x_lem = on (λ w. w.x) finite_x; on_y_lem = on (λ w. w.y) finite_y; on_z_lem = on (λ w. w.z) finite_z }

  -- on one axis
  module _ (axis : Vec3 → Float) (f : (w : Vec3) → finite_vec w ≡ true → is_finite (axis w) ≡ true) where
    each : (finite_vec v00 ≡ true) × ((finite_vec v10 ≡ true) × ((finite_vec v01 ≡ true) × (finite_vec v11 ≡ true)))
    each = each_finite v00 v10 v01 v11 finite

    f00 : is_finite (axis v00) ≡ true
    f00 = f v00 each.0

    f10 : is_finite (axis v10) ≡ true
    f10 = f v10 each.1.0

    f01 : is_finite (axis v01) ≡ true
    f01 = f v01 each.1.1.0

    f11 : is_finite (axis v11) ≡ true
    f11 = f v11 each.1.1.1

    of_lower : (x : Float) → Between (minimum_of (axis v00) (axis v10)) (maximum_of (axis v00) (axis v10)) x → OnAxis axis x
    of_lower = of_first (axis v00) (axis v10) (axis v01) (axis v11) f00 f10 f01 f11

    of_upper : (x : Float) → Between (minimum_of (axis v01) (axis v11)) (maximum_of (axis v01) (axis v11)) x → OnAxis axis x
    of_upper = of_second (axis v00) (axis v10) (axis v01) (axis v11) f00 f10 f01 f11

    on_v00 : OnAxis axis (axis v00)
    on_v00 = of_lower (axis v00) (pair_first (axis v00) (axis v10) f00 f10)

    on_v10 : OnAxis axis (axis v10)
    on_v10 = of_lower (axis v10) (pair_second (axis v00) (axis v10) f00 f10)

    on_v01 : OnAxis axis (axis v01)
    on_v01 = of_upper (axis v01) (pair_first (axis v01) (axis v11) f01 f11)

    on_v11 : OnAxis axis (axis v11)
    on_v11 = of_upper (axis v11) (pair_second (axis v01) (axis v11) f01 f11)

  lower_apart : (box : Aabb) → touches around box ≡ false → touches (corners_box (v00 ∷ v10 ∷ v11 ∷ [])) box ≡ false
  lower_apart box = corners_apart around box (v00 ∷ v10 ∷ v11 ∷ []) (inside v00 on_v00) (inside v10 on_v10) (inside v11 on_v11)

  upper_apart : (box : Aabb) → touches around box ≡ false → touches (corners_box (v00 ∷ v11 ∷ v01 ∷ [])) box ≡ false
  upper_apart box = corners_apart around box (v00 ∷ v11 ∷ v01 ∷ []) (inside v00 on_v00) (inside v11 on_v11) (inside v01 on_v01)

-- ---- a triangle's side on an axis where its corners take both of two numbers

-- boxes that touch do so on x and on y
flat_sides : (b c : Aabb) → touches b c ≡ true
    → (touch_side b.min.x b.max.x c.min.x c.max.x ≡ true)
    × (touch_side b.min.y b.max.y c.min.y c.max.y ≡ true)
unfolding touches
flat_sides b c h =
    let x = touch_side b.min.x b.max.x c.min.x c.max.x in
    let y = touch_side b.min.y b.max.y c.min.y c.max.y in
    let z = touch_side b.min.z b.max.z c.min.z c.max.z in
    (and_first x (y && z) h, and_first y z (and_second x (y && z) h))

grown_side : (low high low' high' from to : Float) → le low low' ≡ true → le high' high ≡ true → touch_side low' high' from to ≡ true
    → touch_side low high from to ≡ true
unfolding touch_side
grown_side low high low' high' from to p q h =
    and_both (le low to) (le from high) (le_transitive low low' to p (and_first (le low' to) (le from high') h))
    (le_transitive from high' high (and_second (le low' to) (le from high') h) q)

-- each of three finite numbers stands between their least and their greatest
module _ (p q r : Float) (fp : is_finite p ≡ true) (fq : is_finite q ≡ true) (fr : is_finite r ≡ true) where
  abbrev low3 : Float
  low3 = minimum_of (minimum_of p q) r

  abbrev high3 : Float
  high3 = maximum_of (maximum_of p q) r

  of_pair : (x : Float) → Between (minimum_of p q) (maximum_of p q) x → Between low3 high3 x
  of_pair x h =
      let low = finite_number (minimum_of p q) (minimum_finite p q fp fq) in
      let high = finite_number (maximum_of p q) (maximum_finite p q fp fq) in
      let third = finite_number r fr in
      record {
        below = le_transitive low3 (minimum_of p q) x (minimum_below_first (minimum_of p q) r low third) h.below;
        above = le_transitive x (maximum_of p q) high3 h.above (maximum_above_first (maximum_of p q) r high third);
      }

  first_of_three : Between low3 high3 p
  first_of_three = of_pair p (pair_first p q fp fq)

  second_of_three : Between low3 high3 q
  second_of_three = of_pair q (pair_second p q fp fq)

  third_of_three : Between low3 high3 r
  third_of_three =
      let low = finite_number (minimum_of p q) (minimum_finite p q fp fq) in
      let high = finite_number (maximum_of p q) (maximum_finite p q fp fq) in
      let third = finite_number r fr in
      record { below = minimum_below_second (minimum_of p q) r low third; above = maximum_above_second (maximum_of p q) r high third }

-- where the side of four numbers touches, so does one that holds all four
all_four : (low high a b c d from to : Float) → Between low high a → Between low high b → Between low high c → Between low high d
    → touch_side (minimum_of (minimum_of a b) (minimum_of c d)) (maximum_of (maximum_of a b) (maximum_of c d)) from to ≡ true
    → touch_side low high from to ≡ true
all_four low high a b c d from to ha hb hc hd =
    grown_side low high (minimum_of (minimum_of a b) (minimum_of c d)) (maximum_of (maximum_of a b) (maximum_of c d)) from to
    (below_both low (minimum_of a b) (minimum_of c d)
    (below_both low a b ha.below hb.below)
    (below_both low c d hc.below hd.below))
    (above_both high (maximum_of a b) (maximum_of c d)
    (above_both high a b ha.above hb.above)
    (above_both high c d hc.above hd.above))

-- ---- the cell of a row and a column

module _ (f : Field) (heights : List Float) (row column : ℕ) (within : column + 1 < f.columns) where
  abbrev v00 : Vec3
  v00 = vertex_at f heights row column

  abbrev v10 : Vec3
  v10 = vertex_at f heights row (column + 1)

  abbrev v01 : Vec3
  v01 = vertex_at f heights (row + 1) column

  abbrev v11 : Vec3
  v11 = vertex_at f heights (row + 1) (column + 1)

  -- both triangles reach over the whole cell on x and on y
  module _ (box : Aabb) (finite : cell_finite f heights row column ≡ true) (near : cell_touches f heights box row column ≡ true) where
    pub lower_near : NearCorners box (corners_at f heights row column 0)
    unfolding cell_finite cell_touches corners_at around_cell min_of max_of corners_box touches vertex_at
    lower_near =
        let e = each_finite v00 v10 v01 v11 finite in
        let a = finite_x v00 e.0 in
        let b = finite_x v10 e.1.0 in
        let c = finite_y v00 e.0 in
        let d = finite_y v11 e.1.1.1 in
        let x = first_of_three v00.x v10.x v11.x a b b in
        let x' = second_of_three v00.x v10.x v11.x a b b in
        let y = first_of_three v00.y v10.y v11.y c c d in
        let y' = third_of_three v00.y v10.y v11.y c c d in
        let flat = flat_sides (around_cell v00 v10 v01 v11) box near in
        record {
          finite = lower_finite v00 v10 v01 v11 finite;
          across = all_four _ _ v00.x v10.x v01.x v11.x _ _ x x' x x' flat.0;
          along = all_four _ _ v00.y v10.y v01.y v11.y _ _ y y y' y' flat.1;
        }

    pub upper_near : NearCorners box (corners_at f heights row column 1)
    unfolding cell_finite cell_touches corners_at around_cell min_of max_of corners_box touches vertex_at
    upper_near =
        let e = each_finite v00 v10 v01 v11 finite in
        let a = finite_x v00 e.0 in
        let b = finite_x v11 e.1.1.1 in
        let c = finite_y v00 e.0 in
        let d = finite_y v11 e.1.1.1 in
        let x = first_of_three v00.x v11.x v01.x a b a in
        let x' = second_of_three v00.x v11.x v01.x a b a in
        let y = first_of_three v00.y v11.y v01.y c d d in
        let y' = second_of_three v00.y v11.y v01.y c d d in
        let flat = flat_sides (around_cell v00 v10 v01 v11) box near in
        record {
          finite = upper_finite v00 v10 v01 v11 finite;
          across = all_four _ _ v00.x v10.x v01.x v11.x _ _ x x' x x' flat.0;
          along = all_four _ _ v00.y v10.y v01.y v11.y _ _ y y y' y' flat.1;
        }

  pub apart_lists_nothing : (box : Aabb) → cell_finite f heights row column ≡ true → cell_touches f heights box row column ≡ false
      → list_cell f heights box (cell_at f row column) ≡ listed []
  unfolding list_cell feature_box cell_finite cell_touches corners_at keep
  apart_lists_nothing box finite apart =
      let cell = cell_at f row column in
      let whole = finite_cell f heights row column within ∙ finite in
      let lower = ap (λ (l : List Vec3). touches (corners_box l) box)
      (corners_of_feature f heights row column within (cell * 2) 0 (omega arith) (omega arith))
      ∙ lower_apart v00 v10 v01 v11 finite box apart in
      let upper = ap (λ (l : List Vec3). touches (corners_box l) box)
      (corners_of_feature f heights row column within (cell * 2 + 1) 1 (omega arith) (omega arith))
      ∙ upper_apart v00 v10 v01 v11 finite box apart in
      rw (
        whole,
        feature_valid f heights cell (cell * 2) (omega arith) whole,
        feature_valid f heights cell (cell * 2 + 1) (omega arith) whole,
        lower,
        upper,
      )
