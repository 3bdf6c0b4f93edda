-- What a record says; its layout, of every version, is stated once, over the form. Definitions only. Assumes nothing.
use Rattle.std.specs.Prelude.{ℕ, ◌+◌, ◌*◌, Bool, cond, ◌&&◌, List, ◌∷◌, ◌++◌, leb, eqb, Float, length, get_or, drop}
use Rattle.float_forms.specs.declared.forms.Form.{Form}
use Rattle.float_forms.specs.Forms.{size_of, rays_of, version_of, form_of, long_form}
use Rattle.float_forms.specs.Bytes.{word_of, word_bytes, numbers_of, numbers_bytes, words_of, words_bytes}
use Rattle.float_forms.specs.Representable.{every, is_number, fits_in}

-- A record is "4-byte big-endian length of the rest" and its body:
-- "version byte 1, kind byte 1 to 5 in mission order, origin, direction, maximum, then the shape";
-- "Version byte 2 carries near after the maximum". The shape is, by kind,
-- "normal and distance; three corners; u32 vertex and triangle counts, vertices, u32 indices;"
-- "u32 rows, columns, spacing, heights; three u32 sides, origin, spacing, values".
-- So every body is the ray's floats, some u32 (the counts), some floats, some u32.
pub record Said : Type 0 where
  pub kind : ℕ
  pub ray : List Float
  pub counts : List ℕ
  pub numbers : List Float
  pub indices : List ℕ

-- how many u32 come first: "u32 vertex and triangle counts", "u32 rows, columns", "three u32 sides"
unfoldable pub many_counts : ℕ → ℕ
many_counts kind = cond (eqb kind 3) 2 (cond (eqb kind 4) 2 (cond (eqb kind 5) 3 0))

-- how many floats follow them: "normal and distance", "three corners", "vertices", "spacing, heights", "origin, spacing, values"; counts
-- are multiplied as whole numbers
unfoldable pub many_numbers : ℕ → List ℕ → ℕ
many_numbers kind counts =
    cond (eqb kind 1) 4
    (cond (eqb kind 2) 9
    (cond (eqb kind 3) (3 * get_or counts 0 0)
    (cond (eqb kind 4) (2 + get_or counts 0 0 * get_or counts 1 0) (6 + get_or counts 0 0 * get_or counts 1 0 * get_or counts 2 0))))

-- and how many u32 these: "u32 indices"
unfoldable pub many_indices : ℕ → List ℕ → ℕ
many_indices kind counts = cond (eqb kind 3) (3 * get_or counts 1 0) 0

-- the body's length, by kind: 98, 138, 74 + 24v + 12t, 90 + 8rc, 126 + 8xyz for Long, 8 less for First;
-- 50, 70, 42 + 12v + 12t, 50 + 4rc, 70 + 4xyz for Short
unfoldable pub body_length : Form → ℕ → List ℕ → ℕ
body_length form kind counts =
    2 + size_of form * rays_of form + 4 * many_counts kind + size_of form * many_numbers kind counts + 4 * many_indices kind counts

-- ---- reading

abbrev pub kind_of : List ℕ → ℕ
kind_of bytes = get_or bytes 5 0

-- where the counts, the floats and the indices begin
abbrev pub counts_place : Form → ℕ
counts_place form = 6 + size_of form * rays_of form

unfoldable pub counts_of : Form → List ℕ → List ℕ
counts_of form bytes = words_of (many_counts (kind_of bytes)) (drop (counts_place form) bytes)

abbrev pub numbers_place : Form → ℕ → ℕ
numbers_place form kind = counts_place form + 4 * many_counts kind

abbrev pub indices_place : Form → ℕ → List ℕ → ℕ
indices_place form kind counts = numbers_place form kind + size_of form * many_numbers kind counts

unfoldable pub said_of : Form → List ℕ → Said
said_of form bytes = record {
  kind = kind_of bytes;
  ray = numbers_of form (rays_of form) (drop 6 bytes);
  counts = counts_of form bytes;
  numbers = numbers_of form (many_numbers (kind_of bytes) (counts_of form bytes)) (drop (numbers_place form (kind_of bytes)) bytes);
  indices = words_of (many_indices (kind_of bytes) (counts_of form bytes))
      (drop (indices_place form (kind_of bytes) (counts_of form bytes)) bytes);
}

abbrev pub is_kind : ℕ → Bool
is_kind kind = leb 1 kind && leb kind 5

-- exactly one record, length bytes included, of the form's version: not "cut short, over length, of another version or kind"
unfoldable pub framed : Form → List ℕ → Bool
framed form bytes = eqb (4 + word_of bytes) (length bytes) && (eqb (get_or bytes 4 0) (version_of form) && is_kind (kind_of bytes))

-- "at most 8,192"
abbrev pub longest : ℕ
longest = 8192

-- "exactly filled by its fields", and "A version 3 record whose version 2 form would pass 8,192 bytes is malformed."
unfoldable pub filled : Form → List ℕ → Bool
filled form bytes =
    eqb (4 + body_length form (kind_of bytes) (counts_of form bytes)) (length bytes)
    && leb (body_length (long_form form) (kind_of bytes) (counts_of form bytes)) longest

-- not "cut short, over length, of another version or kind, or not exactly filled by its fields"
unfoldable pub well_formed : Form → List ℕ → Bool
well_formed form bytes = framed form bytes && filled form bytes

-- the form that a record's version byte names
unfoldable pub form_at : List ℕ → Form
form_at bytes = form_of (get_or bytes 4 0)

-- one well-formed record, of whichever version
unfoldable pub is_record : List ℕ → Bool
is_record bytes = well_formed (form_at bytes) bytes

-- ---- the floats

-- each float that a record says passes a test
unfoldable pub every_said : (Float → Bool) → Said → Bool
every_said test s = every test s.ray && every test s.numbers

-- each is of the form's format
abbrev pub said_fits : Form → Said → Bool
said_fits form = every_said (fits_in form)

-- none is a NaN
abbrev pub without_nan : Said → Bool
without_nan = every_said is_number

-- ---- writing

unfoldable pub fields_bytes : Form → Said → List ℕ
fields_bytes form s =
    numbers_bytes form s.ray ++ (words_bytes s.counts ++ (numbers_bytes form s.numbers ++ words_bytes s.indices))

-- "length bytes included"
unfoldable pub record_bytes : Form → Said → List ℕ
record_bytes form s =
    word_bytes (body_length form s.kind s.counts) ++ (version_of form ∷ (s.kind ∷ fields_bytes form s))
