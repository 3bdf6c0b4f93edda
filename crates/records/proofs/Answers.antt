-- What the cast at a shape answers is the record's text; and the parts of a line, stored one behind another, are the line. Assumes nothing.
use Prim.Native.Nat.{ℕ, ◌+◌, ◌-◌, ◌*◌, ◌≤◌}
use mathlib.Core.Path.{◌≡◌, refl, sym, ap, ◌∙◌}
use mathlib.Core.Bool.{Bool, true, false, not}
use mathlib.Core.List.{List, [], ◌∷◌, ◌++◌}
use native.Mathlib.Omega.{arith}
use borrow.Author.Tests.{ne_eqb}
use lib.Ieee.{Float}
use lib.ListN.{length, get_or, take, drop, length-drop}
use lib.Seq.{take_all}
use Rattle.geometry.specs.declared.ray.Ray.{Ray}
use Rattle.casts.specs.Answer.{Answer}
use Rattle.nearest_hit.specs.Nearest.{Indexed}
use Rattle.casts.specs.Plane.{ray_plane}
use Rattle.triangle_cast.specs.Triangle.{ray_triangle}
use Rattle.height_field.specs.Cast.{ray_height_field}
use Rattle.level_set.specs.Walk.{ray_level_set}
use Rattle.height_field.specs.declared.field.Field.{Field}
use Rattle.distance_grid.specs.declared.grid.Grid.{Grid}
use Rattle.tree.specs.Mesh.{mesh}
use Rattle.float_forms.specs.declared.forms.Form.{Form}
use Rattle.record_bytes.specs.Records.{many_counts, many_numbers, said_of, well_formed, form_at, is_record}
use Rattle.record_bytes.specs.declared.kind.Kind.{Kind}
use Rattle.record_bytes.specs.declared.kind.Kind.TheVariants.{Plane, Triangle, Mesh, HeightGrid, DistanceGrid}
use Rattle.record_bytes.specs.Kinds.{byte_of}
use Rattle.record_text.specs.Text.{decimal, Put}
use Rattle.record_text.specs.AnswerText.{answer_text, indexed_text}
use Rattle.record_text.proofs.Storing.{put_then}
use Rattle.records.specs.Areas.{Sized}
use Rattle.records.specs.MeshAnswer.{mesh_answer}
use Rattle.records.specs.Shapes.{ray_by, plane_by, corners_by, field_by, grid_by, shape_from, shape_by, parse}
use Rattle.records.specs.Lines.{bad_word, shape_text, parsed_text, record_text, line_with}

-- ---- the kinds

module _ (ray : Ray) (kind : ℕ) (counts : List ℕ) (numbers : List Float) (indices : List ℕ) where
  pub mesh_answer_lem : (a : Indexed) → kind ≡ 3 → a ≡ mesh_answer ray (mesh numbers indices)
      → indexed_text a ≡ shape_text ray (shape_from kind counts numbers indices)
  unfolding shape_from shape_text
  mesh_answer_lem a k e = rw (k, e)

  -- no other kind has indices
  pub without_indices : (kind ≡ 3 → ⊥)
      → shape_text ray (shape_from kind counts numbers []) ≡ shape_text ray (shape_from kind counts numbers indices)
  unfolding shape_from
  without_indices k = simp (ne_eqb kind 3 k)

module _ (ray : Ray) (kind : ℕ) (counts : List ℕ) (numbers : List Float) (a : Answer) where
  pub plane_answer : kind ≡ 1 → a ≡ ray_plane (plane_by numbers) ray → answer_text a ≡ shape_text ray (shape_from kind counts numbers [])
  unfolding shape_from shape_text
  plane_answer k e = rw (k, e)

  pub triangle_answer_lem : kind ≡ 2 → a ≡ ray_triangle ray (corners_by numbers) → answer_text a
      ≡ shape_text ray (shape_from kind counts numbers [])
  unfolding shape_from shape_text corners_by
  triangle_answer_lem k e = rw (k, e)

  pub heights_answer : kind ≡ 4 → a ≡ ray_height_field ray (field_by counts numbers) (drop 2 numbers)
      → answer_text a ≡ shape_text ray (shape_from kind counts numbers [])
  unfolding shape_from shape_text
  heights_answer k e = rw (k, e)

  pub values_answer : kind ≡ 5 → a ≡ ray_level_set ray (grid_by counts numbers) (drop 6 numbers)
      → answer_text a ≡ shape_text ray (shape_from kind counts numbers [])
  unfolding shape_from shape_text
  values_answer k e = rw (k, e)

-- the kind that is left
pub only_distances : (kind : Kind) → (kind ≡ Plane → ⊥) → (kind ≡ Triangle → ⊥) → (byte_of kind ≡ 3 → ⊥) → (kind ≡ HeightGrid → ⊥)
    → byte_of kind ≡ 5
only_distances Plane i j l m = absurd (i refl)
only_distances Triangle i j l m = absurd (j refl)
only_distances Mesh i j l m = absurd (l refl)
only_distances HeightGrid i j l m = absurd (m refl)
only_distances DistanceGrid i j l m = refl

pub no_mesh : (kind : Kind) → (kind ≡ Mesh → ⊥) → byte_of kind ≡ 3 → ⊥
no_mesh Plane n e = absurd (omega (arith, e))
no_mesh Triangle n e = absurd (omega (arith, e))
no_mesh Mesh n e = n refl
no_mesh HeightGrid n e = absurd (omega (arith, e))
no_mesh DistanceGrid n e = absurd (omega (arith, e))

-- how many counts and floats each kind has
module _ {kind : ℕ} {counts : List ℕ} {numbers : List Float} (s : Sized kind counts numbers) where
  pub plane_size : kind ≡ 1 → 4 ≤ length numbers
  unfolding many_numbers
  plane_size k = let e : length numbers ≡ 4 = rw k at s.numbered in omega (arith, e)

  pub triangle_size : kind ≡ 2 → 9 ≤ length numbers
  unfolding many_numbers
  triangle_size k = let e : length numbers ≡ 9 = rw k at s.numbered in omega (arith, e)

  pub heights_size : kind ≡ 4 → (2 ≤ length counts) × (2 ≤ length numbers)
  unfolding many_counts many_numbers
  heights_size k =
      let c : length counts ≡ 2 = rw k at s.counted in
      let n : length numbers ≡ 2 + get_or counts 0 0 * get_or counts 1 0 = rw k at s.numbered in
      (omega (arith, c), omega (arith, n))

  pub values_size : kind ≡ 5 → (3 ≤ length counts) × (6 ≤ length numbers)
  unfolding many_counts many_numbers
  values_size k =
      let c : length counts ≡ 3 = rw k at s.counted in
      let n : length numbers ≡ 6 + get_or counts 0 0 * get_or counts 1 0 * get_or counts 2 0 = rw k at s.numbered in
      (omega (arith, c), omega (arith, n))

-- what is left of a list behind a place
pub rest_is : {A : Type 0} (l : List A) (place : ℕ) → take (length l - place) (drop place l) ≡ drop place l
rest_is l place = take_all (length l - place) (drop place l) (omega (arith, length-drop place l))

-- the numbers of a grid
pub heights_cast : (ray : Ray) (field : Field) (counts : List ℕ) (numbers : List Float) (a : Answer)
    → a ≡ ray_height_field ray field (take (length numbers - 2) (drop 2 numbers)) → field ≡ field_by counts numbers
    → a ≡ ray_height_field ray (field_by counts numbers) (drop 2 numbers)
heights_cast ray field counts numbers a e f = rw (rest_is numbers 2, f) at e

pub values_cast : (ray : Ray) (grid : Grid) (counts : List ℕ) (numbers : List Float) (a : Answer)
    → a ≡ ray_level_set ray grid (take (length numbers - 6) (drop 6 numbers)) → grid ≡ grid_by counts numbers
    → a ≡ ray_level_set ray (grid_by counts numbers) (drop 6 numbers)
values_cast ray grid counts numbers a e f = rw (rest_is numbers 6, f) at e

-- ---- a record

-- by the form that its version byte names
module _ {form : Form} (l : List ℕ) (f : form ≡ form_at l) where
  is_record_lem : (b : Bool) → well_formed form l ≡ b → is_record l ≡ b
  unfolding is_record
  is_record_lem b w = ap (λ (p : Form). well_formed p l) (sym f) ∙ w

  pub bad_text : well_formed form l ≡ false → (bad_word ≡ record_text l) × (true ≡ not (is_record l))
  unfolding parse parsed_text
  bad_text w = let e = is_record_lem false w in (rw e, rw e)

  pub good_text : well_formed form l ≡ true
      → (shape_text (ray_by (said_of form l).ray) (shape_by (said_of form l)) ≡ record_text l) × (false ≡ not (is_record l))
  unfolding parse parsed_text
  good_text w = let e = is_record_lem true w in (rw (e, f), rw e)

-- ---- the line

pub line_put : {area numbered answered last : List ℕ} {at start end next : ℕ} (number : ℕ) (text : List ℕ)
    → Put area at (decimal number ++ (32 ∷ [])) numbered start → Put numbered start text answered end → Put answered end (10 ∷ []) last next
    → Put area at (line_with number text) last next
unfolding line_with
line_put number text p q r =
    put_then ((decimal number ++ (32 ∷ [])) ++ text) (10 ∷ []) (put_then (decimal number ++ (32 ∷ [])) text p q) r
