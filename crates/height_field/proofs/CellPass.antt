-- The pass over one cell: what its listing gives, folded, is the code's two triangles in turn, the boxes of finite vertices being valid.
-- Assumes nothing.
use Prim.Native.Nat.{ℕ, ◌+◌, ◌*◌, ◌/◌, ◌%◌, ◌<◌}
use mathlib.Core.Path.{◌≡◌, refl, sym, ap, ◌∙◌}
use mathlib.Core.Bool.{Bool, true, false, ◌&&◌, cond, false≢true}
use mathlib.Core.List.{List, [], ◌∷◌}
use native.Mathlib.Numerals.{add-one}
use native.Mathlib.Omega.{arith}
use lib.Dec.{eqb}
use lib.Ieee.{Float}
use Rattle.vectors.specs.Vector.{finite_vec, min_of, max_of}
use Rattle.arithmetic.specs.Extremes.{minimum_of, maximum_of}
use Rattle.geometry.specs.Box.{valid_box, touch_side, touches, corner, corners_box}
use Rattle.vectors.specs.declared.vec3.Vec3.{Vec3}
use Rattle.geometry.specs.declared.aabb.Aabb.{Aabb}
use Rattle.geometry.specs.declared.ray.Ray.{Ray}
use Rattle.lists.proofs.JoinedTests.{and_first, and_second}
use Rattle.geometry.proofs.BoxLaws.{corners_box_valid}
use Rattle.casts.specs.Answer.{Answer, hit, none, refused, out_of_bounds, overflow}
use Rattle.nearest_hit.specs.Nearest.{Indexed, hit_at, no_hit, stopped, next_of, gives_way, fold_from}
use Rattle.height_field.specs.declared.field.Field.{Field}
use Rattle.height_field.specs.Grid.{cell_at, cell_row, cell_column, corners_at, feature_corners}
use Rattle.height_field.specs.Listing.{listed, unlisted, all_finite, cell_finite, feature_box, list_cell}
use Rattle.lists.specs.Lists.{keep}
use Rattle.height_field.specs.Cast.{answer_of}
use Rattle.height_field.specs.Pass.{Passed, going, ended, pass_from, FiniteCorners, NearCorners, is_stopped, nearer_of}
use Rattle.height_field.specs.Pass.{half_of, pass_triangle, pass_triangles}
use Rattle.height_field.proofs.Sizes.{row_of_cell, column_of_cell}

-- ---- one triangle

-- its answer on top of what was found is its answer alone, compared with what was found
pub nearer_next : (best : Indexed) (index : ℕ) (x : Answer) → nearer_of best (next_of no_hit index x) ≡ next_of best index x
unfolding nearer_of next_of gives_way is_stopped
nearer_next (hit_at n d i) index (hit normal distance) = refl
nearer_next (hit_at n d i) index none = refl
nearer_next (hit_at n d i) index (refused number) = refl
nearer_next no_hit index (hit normal distance) = refl
nearer_next no_hit index none = refl
nearer_next no_hit index (refused number) = refl
nearer_next (stopped k) index (hit normal distance) = refl
nearer_next (stopped k) index none = refl
nearer_next (stopped k) index (refused number) = refl

-- ---- two triangles

-- one triangle counts where the test holds
step : (ℕ → Answer) → (ℕ → Bool) → Indexed → ℕ → Indexed
step answer test best feature = cond (test feature) (next_of best feature (answer feature)) best

fold_of_two : (answer : ℕ → Answer) (test : ℕ → Bool) (best : Indexed) (a b : ℕ)
    → fold_from answer best (keep test (a ∷ b ∷ [])) ≡ step answer test (step answer test best a) b
unfolding fold_from keep step
fold_of_two answer test best a b = go (test a) (test b)
  where
    go : (s t : Bool)
        → fold_from answer best (cond s (a ∷ cond t (b ∷ []) []) (cond t (b ∷ []) []))
        ≡ cond t (next_of (cond s (next_of best a (answer a)) best) b (answer b)) (cond s (next_of best a (answer a)) best)
    go true true = refl
    go true false = refl
    go false true = refl
    go false false = refl

-- where the vertices are finite both boxes are valid, so that no box refuses
pass_of_two : (answer : ℕ → Answer) (test : ℕ → Bool) (best : Indexed) (a b : ℕ) (finite first second : Bool)
    → (finite ≡ true → first ≡ true) → (finite ≡ true → second ≡ true)
    → pass_from answer best
    (cond finite
    (cond first (cond second (listed (keep test (a ∷ b ∷ []))) (unlisted out_of_bounds)) (unlisted out_of_bounds))
    (unlisted overflow))
    ≡ cond finite (going (step answer test (step answer test best a) b)) (ended overflow)
unfolding pass_from
pass_of_two answer test best a b true true true p q = ap going (fold_of_two answer test best a b)
pass_of_two answer test best a b true true false p q = absurd (false≢true (q refl))
pass_of_two answer test best a b true false second p q = absurd (false≢true (p refl))
pass_of_two answer test best a b false first second p q = refl

-- ---- the triangles in turn

module _ (ray : Ray) (box : Aabb) (lower upper : List Vec3) (feature : ℕ) (best : Indexed) where
  pub one_more : (k : ℕ)
      → pass_triangles ray box lower upper feature best (k + 1)
      ≡ pass_triangle ray box (half_of lower upper k) (feature + k) (pass_triangles ray box lower upper feature best k)
  unfolding pass_triangles
  one_more k = ap (pass_triangles ray box lower upper feature best) (add-one k)

  both_triangles : pass_triangles ray box lower upper feature best 2
      ≡ pass_triangle ray box upper (feature + 1) (pass_triangle ray box lower feature best)
  unfolding pass_triangles half_of
  both_triangles =
      let first : feature + 0 ≡ feature = omega arith in
      ap (λ (n : ℕ). pass_triangle ray box upper (feature + 1) (pass_triangle ray box lower n best)) first

-- ---- finite corners

either_finite : (which : Bool) (lower upper : List Vec3) → FiniteCorners lower → FiniteCorners upper → FiniteCorners
    (cond which lower upper)
either_finite true lower upper p q = p
either_finite false lower upper p q = q

pub half_near : (box : Aabb) (lower upper : List Vec3) (triangle : ℕ) → NearCorners box lower → NearCorners box upper → NearCorners box
    (half_of lower upper triangle)
unfolding half_of
half_near box lower upper triangle = go (eqb triangle 0)
  where
    go : (which : Bool) → NearCorners box lower → NearCorners box upper → NearCorners box (cond which lower upper)
    go true p q = p
    go false p q = q

-- where the corners' box touches on x and y, z decides
pub z_decides : (box : Aabb) (vs : List Vec3) → NearCorners box vs
    → touches (corners_box vs) box
    ≡ touch_side (minimum_of (minimum_of (corner vs 0).z (corner vs 1).z) (corner vs 2).z)
    (maximum_of (maximum_of (corner vs 0).z (corner vs 1).z) (corner vs 2).z) box.min.z box.max.z
unfolding touches corners_box min_of max_of
z_decides box vs near = rw (near.across, near.along)

-- the corners of a cell's triangles are among its vertices
module _ (v00 v10 v01 v11 : Vec3) (finite : all_finite v00 v10 v01 v11 ≡ true) where
  pub each_finite : (finite_vec v00 ≡ true) × ((finite_vec v10 ≡ true) × ((finite_vec v01 ≡ true) × (finite_vec v11 ≡ true)))
  unfolding all_finite
  each_finite =
      let a = finite_vec v00 in
      let b = finite_vec v10 in
      let c = finite_vec v01 in
      let d = finite_vec v11 in
      let but-one = and_second a (b && (c && d)) finite in
      let last-two = and_second b (c && d) but-one in
      (and_first a (b && (c && d)) finite, (and_first b (c && d) but-one, (and_first c d last-two, and_second c d last-two)))

  pub lower_finite : FiniteCorners (v00 ∷ v10 ∷ v11 ∷ [])
  lower_finite = record { first = each_finite.0; second = each_finite.1.0; third = each_finite.1.1.1 }

  pub upper_finite : FiniteCorners (v00 ∷ v11 ∷ v01 ∷ [])
  upper_finite = record { first = each_finite.0; second = each_finite.1.1.1; third = each_finite.1.1.0 }

-- a triangle of a cell with finite vertices has a valid box
module _ (f : Field) (heights : List Float) where
  corners_finite : (row column triangle : ℕ) → cell_finite f heights row column ≡ true → FiniteCorners
      (corners_at f heights row column triangle)
  unfolding cell_finite corners_at
  corners_finite row column triangle finite =
      either_finite (eqb triangle 0) _ _ (lower_finite _ _ _ _ finite) (upper_finite _ _ _ _ finite)

  pub feature_valid : (cell feature : ℕ) → feature / 2 ≡ cell → cell_finite f heights (cell_row f cell) (cell_column f cell) ≡ true
      → valid_box (feature_box f heights feature) ≡ true
  unfolding feature_box feature_corners
  feature_valid cell feature e finite =
      let corners = corners_finite (cell_row f (feature / 2)) (cell_column f (feature / 2)) (feature % 2)
      (ap (λ (n : ℕ). cell_finite f heights (cell_row f n) (cell_column f n)) e ∙ finite) in
      corners_box_valid (feature_corners f heights feature) corners.first corners.second corners.third

-- ---- the cell of a row and a column

module _ (f : Field) (heights : List Float) (row column : ℕ) (within : column + 1 < f.columns) where
  pub corners_of_feature : (feature triangle : ℕ) → feature / 2 ≡ cell_at f row column → feature % 2 ≡ triangle
      → feature_corners f heights feature ≡ corners_at f heights row column triangle
  unfolding feature_corners
  corners_of_feature feature triangle cell which =
      ap (λ (n : ℕ). corners_at f heights (cell_row f n) (cell_column f n) (feature % 2)) cell
      ∙ ap (λ (n : ℕ). corners_at f heights n (cell_column f (cell_at f row column)) (feature % 2)) (row_of_cell f row column within)
      ∙ ap (λ (n : ℕ). corners_at f heights row n (feature % 2)) (column_of_cell f row column within)
      ∙ ap (λ (n : ℕ). corners_at f heights row column n) which

  pub finite_cell : cell_finite f heights (cell_row f (cell_at f row column)) (cell_column f (cell_at f row column))
      ≡ cell_finite f heights row
      column
  finite_cell =
      ap (λ (n : ℕ). cell_finite f heights n (cell_column f (cell_at f row column))) (row_of_cell f row column within)
      ∙ ap (λ (n : ℕ). cell_finite f heights row n) (column_of_cell f row column within)

  pub pass_of_cell : (ray : Ray) (box : Aabb) (best : Indexed)
      → pass_from (answer_of ray f heights) best (list_cell f heights box (cell_at f row column))
      ≡ cond (cell_finite f heights row column)
      (going (pass_triangles ray box (corners_at f heights row column 0) (corners_at f heights row column 1) (cell_at f row column * 2) best
      2))
      (ended overflow)
  unfolding list_cell feature_box answer_of pass_triangle step
  pass_of_cell ray box best =
      let cell = cell_at f row column in
      let whole : (finite : Bool) (lower upper : List Vec3) → Passed = λ finite lower upper. cond finite
      (going (pass_triangle ray box upper (cell * 2 + 1) (pass_triangle ray box lower (cell * 2) best))) (ended overflow) in
      let lower = corners_of_feature (cell * 2) 0 (omega arith) (omega arith) in
      let upper = corners_of_feature (cell * 2 + 1) 1 (omega arith) (omega arith) in
      pass_of_two (answer_of ray f heights) (λ (feature : ℕ). touches (feature_box f heights feature) box) best (cell * 2) (cell * 2 + 1)
      (cell_finite f heights (cell_row f cell) (cell_column f cell)) (valid_box (feature_box f heights (cell * 2)))
      (valid_box (feature_box f heights (cell * 2 + 1)))
      (feature_valid f heights cell (cell * 2) (omega arith)) (feature_valid f heights cell (cell * 2 + 1) (omega arith))
      ∙ ap (λ (finite : Bool). whole finite (feature_corners f heights (cell * 2)) (feature_corners f heights (cell * 2 + 1))) finite_cell
      ∙ ap (λ (l : List Vec3). whole (cell_finite f heights row column) l (feature_corners f heights (cell * 2 + 1))) lower
      ∙ ap (λ (l : List Vec3). whole (cell_finite f heights row column) (corners_at f heights row column 0) l) upper
      ∙ ap (λ (found : Indexed). cond (cell_finite f heights row column) (going found) (ended overflow))
      (sym (both_triangles ray box (corners_at f heights row column 0) (corners_at f heights row column 1) (cell * 2) best))

  pub pass_of_finite : (ray : Ray) (box : Aabb) (best : Indexed) → cell_finite f heights row column ≡ true
      → going (pass_triangles ray box (corners_at f heights row column 0) (corners_at f heights row column 1) (cell_at f row column * 2)
      best 2)
      ≡ pass_from (answer_of ray f heights) best (list_cell f heights box (cell_at f row column))
  pass_of_finite ray box best finite = rw (pass_of_cell ray box best, finite)

  pub pass_of_infinite : (ray : Ray) (box : Aabb) (best : Indexed) → cell_finite f heights row column ≡ false
      → ended overflow ≡ pass_from (answer_of ray f heights) best (list_cell f heights box (cell_at f row column))
  pass_of_infinite ray box best infinite = rw (pass_of_cell ray box best, infinite)
