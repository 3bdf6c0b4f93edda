-- The pass over a listing in parts: what was found in the first part goes into the second. Assumes nothing.
use Prim.Native.Nat.{ℕ, suc, ◌+◌, ◌-◌, ◌≤◌, ◌<◌}
use mathlib.Core.Path.{◌≡◌, refl, sym, ap, ◌∙◌}
use mathlib.Core.Bool.{true, cond}
use mathlib.Core.List.{List, [], ◌∷◌, ◌++◌, map, append_assoc}
use native.Mathlib.Omega.{arith}
use lib.Ieee.{Float}
use Rattle.vectors.specs.Vector.{finite_vec}
use Rattle.geometry.specs.Segment.{ray_admitted, segment_end, segment_box}
use Rattle.vectors.specs.declared.vec3.Vec3.{Vec3}
use Rattle.geometry.specs.declared.ray.Ray.{Ray}
use Rattle.geometry.proofs.BoxLaws.{segment_box_valid}
use Rattle.casts.specs.Answer.{Answer, refused, overflow}
use Rattle.nearest_hit.specs.Nearest.{Indexed, no_hit, next_of, fold_from}
use Rattle.height_field.specs.declared.field.Field.{Field}
use Rattle.height_field.specs.Grid.{cell_at}
use Rattle.height_field.specs.Cells.{run, grid_cells}
use Rattle.height_field.specs.Listing.{Listing, listed, unlisted, both, list_all, grid_listing}
use Rattle.height_field.specs.Cast.{answer_of, cast_listed, span_finite, height_cast}
use Rattle.height_field.specs.Pass.{Passed, going, ended, pass_from, answer_of_pass}

-- the pass goes on with the next listing, unless it ended
pub and_then : (ℕ → Answer) → Passed → Listing → Passed
and_then answer (going best) rest = pass_from answer best rest
and_then answer (ended number) rest = ended number

fold_append : (answer : ℕ → Answer) (best : Indexed) (xs ys : List ℕ) → fold_from answer best (xs ++ ys) ≡ fold_from answer
    (fold_from answer best xs) ys
unfolding fold_from
fold_append answer best [] ys = refl
fold_append answer best (x ∷ xs) ys = fold_append answer (next_of best x (answer x)) xs ys

pub pass_both : (answer : ℕ → Answer) (best : Indexed) (a b : Listing) → pass_from answer best (both a b) ≡ and_then answer
    (pass_from answer best a) b
unfolding both pass_from and_then
pass_both answer best (unlisted n) b = refl
pass_both answer best (listed xs) (unlisted n) = refl
pass_both answer best (listed xs) (listed ys) = ap going (fold_append answer best xs ys)

-- ---- lists of cells

both_assoc : (a b c : Listing) → both (both a b) c ≡ both a (both b c)
unfolding both
both_assoc (unlisted n) b c = refl
both_assoc (listed xs) (unlisted n) c = refl
both_assoc (listed xs) (listed ys) (unlisted n) = refl
both_assoc (listed xs) (listed ys) (listed zs) = ap listed (append_assoc xs ys zs)

list_append : (list : ℕ → Listing) (xs ys : List ℕ) → list_all list (xs ++ ys) ≡ both (list_all list xs) (list_all list ys)
unfolding list_all both
list_append list [] ys = none_before (list_all list ys)
  where
    none_before : (l : Listing) → l ≡ both (listed []) l
    none_before (listed zs) = refl
    none_before (unlisted n) = refl
list_append list (x ∷ xs) ys = ap (both (list x)) (list_append list xs ys) ∙ sym (both_assoc (list x) (list_all list xs) (list_all list ys))

-- the first of a run, and what is left
pub run_cons : (first last : ℕ) → first ≤ last → run first (last + 1 - first) ≡ first ∷ run (first + 1) (last + 1 - (first + 1))
unfolding run
run_cons first last h =
    let count : last + 1 - first ≡ suc (last + 1 - (first + 1)) = omega arith in
    ap (run first) count

pub run_none : (first last : ℕ) → last < first → run first (last + 1 - first) ≡ []
unfolding run
run_none first last h =
    let count : last + 1 - first ≡ 0 = omega arith in
    ap (run first) count

list_one : (list : ℕ → Listing) (cell : ℕ) (cells : List ℕ) → list_all list (cell ∷ cells) ≡ both (list cell) (list_all list cells)
unfolding list_all
list_one list cell cells = refl

-- the cells of a row from a column on, and those of the rows from a row on: the first of them, then the rest
module _ (list : ℕ → Listing) (f : Field) where
  pub row_cons : (row first last : ℕ) → first ≤ last
      → list_all list (map (cell_at f row) (run first (last + 1 - first)))
      ≡ both (list (cell_at f row first)) (list_all list (map (cell_at f row) (run (first + 1) (last + 1 - (first + 1)))))
  row_cons row first last h =
      ap (λ (l : List ℕ). list_all list (map (cell_at f row) l)) (run_cons first last h)
      ∙ list_one list (cell_at f row first) (map (cell_at f row) (run (first + 1) (last + 1 - (first + 1))))

  pub row_none : (row first last : ℕ) → last < first → list_all list (map (cell_at f row) (run first (last + 1 - first))) ≡ listed []
  unfolding list_all
  row_none row first last h = ap (λ (l : List ℕ). list_all list (map (cell_at f row) l)) (run_none first last h)

  pub rows_cons : (first last : ℕ) (columns : List ℕ) → first ≤ last
      → list_all list (grid_cells f (run first (last + 1 - first)) columns)
      ≡ both (list_all list (map (cell_at f first) columns)) (list_all list
      (grid_cells f (run (first + 1) (last + 1 - (first + 1))) columns))
  unfolding grid_cells
  rows_cons first last columns h =
      ap (λ (l : List ℕ). list_all list (grid_cells f l columns)) (run_cons first last h)
      ∙ list_append list (map (cell_at f first) columns) (grid_cells f (run (first + 1) (last + 1 - (first + 1))) columns)

  pub rows_none : (first last : ℕ) (columns : List ℕ) → last < first → list_all list (grid_cells f (run first (last + 1 - first)) columns) ≡
      listed []
  unfolding list_all grid_cells
  rows_none first last columns h = ap (λ (l : List ℕ). list_all list (grid_cells f l columns)) (run_none first last h)

-- ---- a turn of a loop over a listing, by what the pass over its first part came to
module _ (answer : ℕ → Answer) (best : Indexed) (all first rest : Listing) (passed : Passed) (split : all ≡ both first rest)
    (is : passed ≡ pass_from answer best first) where
  onward : pass_from answer best all ≡ and_then answer passed rest
  onward =
      ap (pass_from answer best) split ∙ pass_both answer best first rest ∙ ap (λ (p : Passed). and_then answer p rest) (sym is)

  pub pass_goes : (found : Indexed) → passed ≡ going found → pass_from answer best all ≡ pass_from answer found rest
  unfolding and_then
  pass_goes found e = onward ∙ ap (λ (p : Passed). and_then answer p rest) e

  pub pass_ends : (number : ℕ) → passed ≡ ended number → pass_from answer best all ≡ passed
  unfolding and_then
  pass_ends number e = onward ∙ ap (λ (p : Passed). and_then answer p rest) e ∙ sym e

pub pass_done : (answer : ℕ → Answer) (best : Indexed) (all : Listing) → all ≡ listed [] → pass_from answer best all ≡ going best
unfolding pass_from fold_from
pass_done answer best all e = ap (pass_from answer best) e

-- ---- at the end

pub answer_of_pass_lem : (answer : ℕ → Answer) (all : Listing) → answer_of_pass (pass_from answer no_hit all) ≡ cast_listed answer all
unfolding answer_of_pass pass_from cast_listed
answer_of_pass_lem answer (listed features) = refl
answer_of_pass_lem answer (unlisted number) = refl

-- the box of an admitted ray with a finite end is valid, so that no box refuses
pub cast_of_finite_end : (ray : Ray) (f : Field) (heights : List Float) (end : Vec3) → ray_admitted ray ≡ true → end ≡ segment_end ray →
    finite_vec end ≡ true
    → height_cast ray f heights
    ≡ cond (span_finite f) (cast_listed (answer_of ray f heights) (grid_listing f heights (segment_box ray))) (refused overflow)
unfolding height_cast
cast_of_finite_end ray f heights end admitted is finite =
    let finite-end = ap finite_vec (sym is) ∙ finite in
    rw (finite-end, segment_box_valid ray admitted finite-end)
