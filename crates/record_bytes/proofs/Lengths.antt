-- How long a written record is. Assumes nothing.
use Prim.Native.Nat.{ℕ, ◌+◌, ◌*◌}
use mathlib.Core.Path.{◌≡◌, ap, ◌∙◌}
use mathlib.Core.List.{List, ◌∷◌, ◌++◌}
use native.Mathlib.Omega.{arith}
use lib.ListN.{length, drop, length-append}
use Rattle.float_forms.specs.declared.forms.Form.{Form}
use Rattle.float_forms.specs.Forms.{size_of, rays_of, version_of}
use Rattle.float_forms.specs.Bytes.{word_bytes, numbers_bytes, words_bytes}
use Rattle.record_bytes.specs.Records.{Said, many_counts, many_numbers, many_indices, body_length, kind_of, counts_place, counts_of}
use Rattle.record_bytes.specs.Records.{numbers_place, indices_place, said_of, fields_bytes, record_bytes}
use Rattle.float_forms.proofs.Numbers.{word_length}
use Rattle.float_forms.proofs.RunLaws.{numbers_count, words_count, numbers_length, words_length}

-- as many numbers as the kind and the counts say
pub record Measured (form : Form) (s : Said) : Type 0 where
  pub rayed : length s.ray ≡ rays_of form
  pub counted : length s.counts ≡ many_counts s.kind
  pub numbered : length s.numbers ≡ many_numbers s.kind s.counts
  pub indexed : length s.indices ≡ many_indices s.kind s.counts

pub written_length : (form : Form) (s : Said) → Measured form s → length (record_bytes form s) ≡ 4 + body_length form s.kind s.counts
unfolding record_bytes fields_bytes body_length
written_length form s f =
    let a = numbers_bytes form s.ray in
    let b = words_bytes s.counts in
    let c = numbers_bytes form s.numbers in
    let d = words_bytes s.indices in
    let la : length a ≡ size_of form * rays_of form = numbers_length form s.ray ∙ ap (λ (n : ℕ). size_of form * n) f.rayed in
    let lb : length b ≡ 4 * many_counts s.kind = words_length s.counts ∙ ap (λ (n : ℕ). 4 * n) f.counted in
    let lc : length c ≡ size_of form * many_numbers s.kind s.counts = numbers_length form s.numbers ∙ ap (λ (n : ℕ). size_of form * n)
    f.numbered in
    let ld : length d ≡ 4 * many_indices s.kind s.counts = words_length s.indices ∙ ap (λ (n : ℕ). 4 * n) f.indexed in
    let n = body_length form s.kind s.counts in
    omega (
      arith,
      length-append (word_bytes n) (version_of form ∷ (s.kind ∷ (a ++ (b ++ (c ++ d))))),
      word_length n,
      length-append a (b ++ (c ++ d)),
      length-append b (c ++ d),
      length-append c d,
      la,
      lb,
      lc,
      ld,
    )

-- what is read has its numbers, whatever the bytes, for each form whose rays have as many
pub read_measured : (p q : Form) (l : List ℕ) → rays_of p ≡ rays_of q → Measured q (said_of p l)
unfolding said_of counts_of
read_measured p q l r =
    let kind = kind_of l in
    let counts = counts_of p l in
    record {
      rayed = numbers_count p (rays_of p) (drop 6 l) ∙ r;
      counted = words_count (many_counts kind) (drop (counts_place p) l);
      numbered = numbers_count p (many_numbers kind counts) (drop (numbers_place p kind) l);
      indexed = words_count (many_indices kind counts) (drop (indices_place p kind counts) l);
    }
