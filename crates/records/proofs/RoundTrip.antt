-- A record of any version that is encoded is parsed back. Assumes nothing.
use Prim.Native.Nat.{ℕ, ◌<◌, ◌≤◌}
use mathlib.Core.Path.{◌≡◌, refl, sym, ap, ◌∙◌}
use mathlib.Core.List.{List, [], ◌∷◌}
use native.Mathlib.Omega.{arith}
use lib.Dec.{T}
use lib.Ieee.{Float}
use lib.Ieee.Bits.{is_true}
use lib.ListN.{length, take}
use Rattle.vectors.specs.declared.vec3.Vec3.{Vec3}
use Rattle.geometry.specs.declared.ray.Ray.{Ray}
use Rattle.tree.specs.Mesh.{thirds}
use Rattle.tree.specs.Layout.{vector_at}
use Rattle.float_forms.specs.declared.forms.Form.{Form}
use Rattle.float_forms.specs.declared.forms.Form.TheVariants.{First, Long, Short}
use Rattle.float_forms.specs.Forms.{rays_of, version_of, form_of, long_form}
use Rattle.float_forms.proofs.RunLaws.{AllWords, none, more}
use Rattle.record_bytes.specs.Records.{Said, many_counts, many_numbers, many_indices, body_length, said_of, is_kind, longest, well_formed}
use Rattle.record_bytes.specs.Records.{form_at}
use Rattle.record_bytes.specs.Records.{is_record, said_fits, record_bytes}
use Rattle.record_bytes.proofs.Parts.{formed, well_formed_lem}
use Rattle.record_bytes.proofs.Lengths.{Measured}
use Rattle.record_bytes.proofs.ShapeLaws.{long_body}
use Rattle.record_bytes.proofs.RoundTrip.{Fitting, written_formed, said_back}
use Rattle.records.specs.Shapes.{Shape, plane, triangle, mesh, heights, distances, says, ray_by, plane_by, field_by, grid_by, shape_from}
use Rattle.records.specs.Shapes.{shape_by, parse, kind_byte, ray_numbers, shape_counts, shape_numbers, shape_indices, said_for, WordsFit}
use Rattle.records.specs.Shapes.{NearFits, ShapeFits}

-- ---- what a well-formed record says

form_back : (form : Form) → form_of (version_of form) ≡ form
unfolding form_of
form_back First = refl
form_back Long = refl
form_back Short = refl

pub form_is : (form : Form) (l : List ℕ) → T (well_formed form l) → form_at l ≡ form
unfolding form_at
form_is form l w = ap form_of (formed form l w).versioned ∙ form_back form

-- what `probe` reads of a record is what the converter reads of it
pub parsed_is : (form : Form) (l : List ℕ) → T (well_formed form l) → parse l
    ≡ says (ray_by (said_of form l).ray) (shape_by (said_of form l))
unfolding parse is_record
parsed_is form l w = rw (form_is form l w, is_true (well_formed form l) w)

-- ---- rays and shapes

ray_of_lem : {a b : Vec3} {m n z : Float} → n ≡ z → ◌≡◌ {A = Ray} record { origin = a; direction = b; max_distance = m; near = n }
    record { origin = a; direction = b; max_distance = m; near = z }
ray_of_lem e = cc

ray_back : (form : Form) (r : Ray) → NearFits form r → ray_by (take (rays_of form) (ray_numbers r)) ≡ r
unfolding ray_by vector_at
ray_back First r h = ray_of_lem (sym h)
ray_back Long r h = refl
ray_back Short r h = refl

shape_back : (s : Shape) → shape_from (kind_byte s) (shape_counts s) (shape_numbers s) (shape_indices s) ≡ s
unfolding shape_from plane_by field_by grid_by kind_byte shape_counts shape_numbers shape_indices vector_at
shape_back (plane p) = refl
shape_back (triangle v w u) = refl
shape_back (mesh m) = refl
shape_back (heights f xs) = refl
shape_back (distances g xs) = refl

-- ---- what is encoded fits

all_words : (ws : List ℕ) → WordsFit ws → AllWords ws
all_words [] h = none
all_words (w ∷ ws) h = more h.0 (all_words ws h.1)

ray_count_lem : (form : Form) (r : Ray) → length (take (rays_of form) (ray_numbers r)) ≡ rays_of form
ray_count_lem First r = refl
ray_count_lem Long r = refl
ray_count_lem Short r = refl

module _ (form : Form) (r : Ray) where
  abbrev said : Shape → Said
  said = said_for form r

  measured : (s : Shape) → ShapeFits s → Measured form (said s)
  unfolding said_for shape_counts shape_numbers shape_indices kind_byte many_counts many_numbers many_indices
  measured (plane p) h = record { rayed = ray_count_lem form r; counted = refl; numbered = refl; indexed = refl }
  measured (triangle v w u) h = record { rayed = ray_count_lem form r; counted = refl; numbered = refl; indexed = refl }
  measured (mesh m) h = record { rayed = ray_count_lem form r; counted = refl; numbered = h.whole_vertices; indexed = h.whole_triangles }
  measured (heights f xs) h = record { rayed = ray_count_lem form r; counted = refl; numbered = omega (arith, h.many); indexed = refl }
  measured (distances g xs) h = record { rayed = ray_count_lem form r; counted = refl; numbered = omega (arith, h.many); indexed = refl }

  counts_fit_lem : (s : Shape) → ShapeFits s → body_length (long_form form) (kind_byte s) (shape_counts s) ≤ longest
      → AllWords (shape_counts s)
  unfolding shape_counts kind_byte many_counts many_numbers many_indices
  counts_fit_lem (plane p) h short = none
  counts_fit_lem (triangle v w u) h short = none
  counts_fit_lem (mesh m) h short =
      let counts = thirds (length m.vertices) ∷ (thirds (length m.triangles) ∷ []) in
      let long = long_body form 3 counts in
      let first : thirds (length m.vertices) < 0x1_0000_0000 = omega (arith, short, long) in
      let second : thirds (length m.triangles) < 0x1_0000_0000 = omega (arith, short, long) in
      more first (more second none)
  counts_fit_lem (heights f xs) h short = more h.rows_fit (more h.columns_fit none)
  counts_fit_lem (distances g xs) h short = more h.first_fits (more h.second_fits (more h.third_fits none))

  indices_fit_lem : (s : Shape) → ShapeFits s → AllWords (shape_indices s)
  unfolding shape_indices
  indices_fit_lem (plane p) h = none
  indices_fit_lem (triangle v w u) h = none
  indices_fit_lem (mesh m) h = all_words m.triangles h.indices_fit
  indices_fit_lem (heights f xs) h = none
  indices_fit_lem (distances g xs) h = none

  is_kind_lem : (s : Shape) → T (is_kind (kind_byte s))
  unfolding kind_byte
  is_kind_lem (plane p) = tt
  is_kind_lem (triangle v w u) = tt
  is_kind_lem (mesh m) = tt
  is_kind_lem (heights f xs) = tt
  is_kind_lem (distances g xs) = tt

  fitting : (s : Shape) → ShapeFits s → T (said_fits form (said s)) → body_length (long_form form) (kind_byte s) (shape_counts s) ≤ longest
      → Fitting form (said s)
  unfolding said_for
  fitting s h f short = record {
    measured = measured s h;
    counts_fit = counts_fit_lem s h short;
    indices_fit = indices_fit_lem s h;
    floats_fit = f;
    known = is_kind_lem s;
    small = short;
  }

-- A record that is encoded, each of its floats of the form's format, is parsed back; in version 1 where near is +0.
pub parse_encoded : (form : Form) (r : Ray) (s : Shape) → NearFits form r → ShapeFits s → T (said_fits form (said_for form r s))
    → body_length (long_form form) (kind_byte s) (shape_counts s) ≤ longest
    → parse (record_bytes form (said_for form r s)) ≡ says r s
unfolding said_for
parse_encoded form r s near shape floats short =
    let said = said_for form r s in
    let fit : Fitting form said = fitting form r s shape floats short in
    let back : said_of form (record_bytes form said) ≡ said = said_back form said fit in
    parsed_is form (record_bytes form said) (well_formed_lem form (record_bytes form said) (written_formed form said fit))
    ∙ (rw (back, ray_back form r near, shape_back s))
