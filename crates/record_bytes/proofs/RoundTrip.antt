-- A record that is written in a form says what it was written from; and a record that is read and written again in its form is the same
-- bytes. Assumes nothing.
use Prim.Native.Nat.{ℕ, ◌+◌, ◌*◌, ◌<◌, ◌≤◌}
use mathlib.Core.Path.{◌≡◌, refl, sym, ap, ◌∙◌}
use mathlib.Core.List.{List, [], ◌∷◌, ◌++◌, append-nil}
use native.Mathlib.Omega.{arith}
use lib.Dec.{T}
use lib.Ieee.{Float}
use lib.ListN.{length, get_or, take, drop, length-drop, take-append-drop}
use lib.Seq.{take_all, drop-cons}
use Rattle.float_forms.specs.declared.forms.Form.{Form}
use Rattle.float_forms.specs.declared.forms.Form.TheVariants.{First, Long, Short}
use Rattle.float_forms.specs.Forms.{size_of, rays_of, version_of, long_form}
use Rattle.float_forms.specs.Bytes.{IsBytes, word_of, word_bytes, numbers_of, numbers_bytes, words_of, words_bytes}
use Rattle.record_bytes.specs.Records.{Said, many_counts, many_numbers, many_indices, body_length, kind_of, counts_place, counts_of}
use Rattle.record_bytes.specs.Records.{numbers_place, indices_place, said_of, is_kind, longest, fields_bytes, record_bytes, said_fits}
use Rattle.record_bytes.specs.Records.{without_nan}
use Rattle.float_forms.specs.Representable.{is_number, fits_in}
use Rattle.float_forms.proofs.Numbers.{drop_bytes, word_back, word_bytes_lem}
use Rattle.float_forms.proofs.RunLaws.{numbers_length, words_length, numbers_read, numbers_bytes_lem, AllWords, words_read, words_bytes_lem}
use Rattle.record_bytes.proofs.Parts.{Formed, behind, joined}
use Rattle.record_bytes.proofs.Lengths.{Measured, written_length}
use Rattle.record_bytes.proofs.Tests.{ray_of_lem, numbers_of_lem}

-- as many numbers as the kind and the counts say; each u32 is a u32, and each float one of the form's format
pub record Fitting (form : Form) (s : Said) : Type 0 where
  pub measured : Measured form s
  pub counts_fit : AllWords s.counts
  pub indices_fit : AllWords s.indices
  pub floats_fit : T (said_fits form s)
  pub known : T (is_kind s.kind)
  pub small : body_length (long_form form) s.kind s.counts ≤ longest

-- ---- the written record, from its front

written_length_word : (form : Form) (s : Said) → body_length form s.kind s.counts < 0x1_0000_0000
    → word_of (record_bytes form s) ≡ body_length form s.kind s.counts
unfolding record_bytes
written_length_word form s h = word_back (body_length form s.kind s.counts) (version_of form ∷ (s.kind ∷ fields_bytes form s)) h

written_version : (form : Form) (s : Said) → get_or (record_bytes form s) 4 0 ≡ version_of form
unfolding record_bytes word_bytes
written_version form s = refl

written_kind : (form : Form) (s : Said) → kind_of (record_bytes form s) ≡ s.kind
unfolding record_bytes word_bytes
written_kind form s = refl

written_fields : (form : Form) (s : Said)
    → drop 6 (record_bytes form s) ≡ numbers_bytes form s.ray ++
    (words_bytes s.counts ++ (numbers_bytes form s.numbers ++ words_bytes s.indices))
unfolding record_bytes word_bytes fields_bytes
written_fields form s = refl

-- ---- reading what was written

said_of_lem : {k k' : ℕ} {r r' n n' : List Float} {c c' i i' : List ℕ} → k ≡ k' → r ≡ r' → c ≡ c' → n ≡ n' → i ≡ i'
    → ◌≡◌ {A = Said} record { kind = k; ray = r; counts = c; numbers = n; indices = i } record
    { kind = k'; ray = r'; counts = c'; numbers = n'; indices = i' }
said_of_lem p q r s t = cc

module _ (form : Form) (s : Said) (f : Fitting form s) where
  back_ray : numbers_of form (rays_of form) (drop 6 (record_bytes form s)) ≡ s.ray
  back_ray =
      numbers_read form s.ray (words_bytes s.counts ++ (numbers_bytes form s.numbers ++ words_bytes s.indices))
      (drop 6 (record_bytes form s)) (rays_of form)
      (written_fields form s) f.measured.rayed (ray_of_lem (fits_in form) s f.floats_fit)

  behind_ray : drop (counts_place form) (record_bytes form s) ≡ words_bytes s.counts ++
      (numbers_bytes form s.numbers ++ words_bytes s.indices)
  behind_ray =
      behind (record_bytes form s) (numbers_bytes form s.ray) _ 6 (size_of form * rays_of form) (written_fields form s)
      (numbers_length form s.ray ∙ ap (λ (n : ℕ). size_of form * n) f.measured.rayed)

  pub back_counts : counts_of form (record_bytes form s) ≡ s.counts
  unfolding counts_of
  back_counts =
      ap (λ (k : ℕ). words_of (many_counts k) (drop (counts_place form) (record_bytes form s))) (written_kind form s)
      ∙ words_read s.counts (numbers_bytes form s.numbers ++ words_bytes s.indices) (drop (counts_place form) (record_bytes form s))
      (many_counts s.kind)
      behind_ray f.measured.counted f.counts_fit

  behind_counts : drop (numbers_place form s.kind) (record_bytes form s) ≡ numbers_bytes form s.numbers ++ words_bytes s.indices
  behind_counts =
      behind (record_bytes form s) (words_bytes s.counts) _ (counts_place form) (4 * many_counts s.kind) behind_ray
      (words_length s.counts ∙ ap (λ (n : ℕ). 4 * n) f.measured.counted)

  behind_numbers : drop (indices_place form s.kind s.counts) (record_bytes form s) ≡ words_bytes s.indices
  behind_numbers =
      behind (record_bytes form s) (numbers_bytes form s.numbers) _ (numbers_place form s.kind)
      (size_of form * many_numbers s.kind s.counts) behind_counts
      (numbers_length form s.numbers ∙ ap (λ (n : ℕ). size_of form * n) f.measured.numbered)

  back_numbers : numbers_of form (many_numbers s.kind s.counts) (drop (numbers_place form s.kind) (record_bytes form s)) ≡ s.numbers
  back_numbers =
      numbers_read form s.numbers (words_bytes s.indices) (drop (numbers_place form s.kind) (record_bytes form s))
      (many_numbers s.kind s.counts)
      behind_counts f.measured.numbered (numbers_of_lem (fits_in form) s f.floats_fit)

  back_indices : words_of (many_indices s.kind s.counts) (drop (indices_place form s.kind s.counts) (record_bytes form s)) ≡ s.indices
  back_indices =
      words_read s.indices [] (drop (indices_place form s.kind s.counts) (record_bytes form s)) (many_indices s.kind s.counts)
      (behind_numbers ∙ sym (append-nil (words_bytes s.indices))) f.measured.indexed f.indices_fit

  -- read what was written
  pub said_back : said_of form (record_bytes form s) ≡ s
  unfolding said_of
  said_back =
      let k : kind_of (record_bytes form s) ≡ s.kind = written_kind form s in
      let c : counts_of form (record_bytes form s) ≡ s.counts = back_counts in
      rw (k, c) (said_of_lem refl back_ray refl back_numbers back_indices)

-- no form is longer than the one with floats of 8 bytes
pub longest_form : (form : Form) (kind : ℕ) (counts : List ℕ) → body_length form kind counts ≤ body_length (long_form form) kind counts
unfolding body_length
longest_form First kind counts = omega arith
longest_form Long kind counts = omega arith
longest_form Short kind counts = omega arith

pub written_formed : (form : Form) (s : Said) → Fitting form s → Formed form (record_bytes form s)
written_formed form s f =
    let r = record_bytes form s in
    let few : body_length form s.kind s.counts < 0x1_0000_0000 = omega (arith, f.small, longest_form form s.kind s.counts) in
    let k : kind_of r ≡ s.kind = written_kind form s in
    let c : counts_of form r ≡ s.counts = back_counts form s f in
    record {
      framed = omega (arith, written_length_word form s few, written_length form s f.measured);
      versioned = written_version form s;
      kinded = rw k f.known;
      filled = rw (k, c) (sym (written_length form s f.measured));
      small = rw (k, c) f.small;
    }

-- ---- writing what was read

module _ (form : Form) (l : List ℕ) (b : IsBytes l) (g : Formed form l) (h : T (without_nan (said_of form l))) where
  abbrev size : ℕ
  size = size_of form

  abbrev counts : List ℕ
  counts = counts_of form l

  whole : length l ≡ counts_place form + 4 * many_counts (kind_of l) + size * many_numbers (kind_of l) counts + 4
      * many_indices (kind_of l) counts
  unfolding body_length
  whole = omega (arith, g.filled)

  same_ray : numbers_bytes form (numbers_of form (rays_of form) (drop 6 l)) ≡ take (size * rays_of form) (drop 6 l)
  unfolding said_of
  same_ray =
      numbers_bytes_lem form (rays_of form) (drop 6 l) (drop_bytes 6 l b) (omega (arith, whole, length-drop 6 l))
      (ray_of_lem is_number (said_of form l) h)

  same_counts : words_bytes counts ≡ take (4 * many_counts (kind_of l)) (drop (counts_place form) l)
  unfolding counts_of
  same_counts =
      words_bytes_lem (many_counts (kind_of l)) (drop (counts_place form) l) (drop_bytes (counts_place form) l b)
      (omega (arith, whole, length-drop (counts_place form) l))

  same_numbers : numbers_bytes form (said_of form l).numbers ≡ take (size * many_numbers (kind_of l) counts)
      (drop (numbers_place form (kind_of l)) l)
  unfolding said_of
  same_numbers =
      numbers_bytes_lem form (many_numbers (kind_of l) counts) (drop (numbers_place form (kind_of l)) l)
      (drop_bytes (numbers_place form (kind_of l)) l b)
      (omega (arith, whole, length-drop (numbers_place form (kind_of l)) l)) (numbers_of_lem is_number (said_of form l) h)

  same_indices : words_bytes (said_of form l).indices ≡ drop (indices_place form (kind_of l) counts) l
  unfolding said_of
  same_indices =
      let place = indices_place form (kind_of l) counts in
      words_bytes_lem (many_indices (kind_of l) counts) (drop place l) (drop_bytes place l b) (omega (arith, whole, length-drop place l))
      ∙ take_all (4 * many_indices (kind_of l) counts) (drop place l) (omega (arith, whole, length-drop place l))

  same_fields : fields_bytes form (said_of form l) ≡ drop 6 l
  unfolding fields_bytes said_of
  same_fields =
      rw (
        same_ray,
        same_counts,
        same_numbers,
        same_indices,
        joined l (numbers_place form (kind_of l)) (size * many_numbers (kind_of l) counts),
        joined l (counts_place form) (4 * many_counts (kind_of l)),
        joined l 6 (size * rays_of form),
      )

  same_front : drop 4 l ≡ version_of form ∷ (kind_of l ∷ drop 6 l)
  same_front =
      drop-cons l 4 0 (omega (arith, whole)) ∙ (rw (g.versioned, drop-cons l 5 0 (omega (arith, whole))))

  -- write what was read
  pub same_bytes : record_bytes form (said_of form l) ≡ l
  unfolding record_bytes said_of
  same_bytes =
      let n : body_length form (kind_of l) counts ≡ word_of l = omega (arith, g.filled, g.framed) in
      rw (same_fields, n, word_bytes_lem l b (omega (arith, whole)), ← same_front, take-append-drop 4 l)
