-- One meaning of a record for `probe` and the converter, and one line from either version. Assumes nothing.
use Prim.Native.Nat.{ℕ, ◌+◌, ◌≤◌}
use mathlib.Core.Path.{◌≡◌, refl, sym, ap, subst, ◌∙◌}
use mathlib.Core.Bool.{true}
use mathlib.Core.List.{List}
use native.Mathlib.Omega.{arith}
use borrow.Author.Tests.{le-ltb, ne_eqb}
use lib.Dec.{T}
use lib.Ieee.Bits.{is_true}
use lib.ListN.{length, take, drop}
use lib.Seq.{take_at}
use Rattle.float_forms.specs.declared.forms.Form.{Form}
use Rattle.float_forms.specs.declared.forms.Form.TheVariants.{Long, Short}
use Rattle.float_forms.specs.Forms.{rays_of}
use Rattle.float_forms.specs.Bytes.{IsBytes, word_of}
use Rattle.record_bytes.specs.Records.{Said, body_length, kind_of, counts_of, said_of, longest, well_formed, form_at, is_record, said_fits}
use Rattle.record_bytes.specs.Records.{without_nan}
use Rattle.record_bytes.specs.Stream.{next_of}
use Rattle.record_bytes.specs.declared.stream.Found.TheVariants.{Record}
use Rattle.record_bytes.proofs.Parts.{formed}
use Rattle.record_bytes.proofs.RoundTrip.{longest_form}
use Rattle.record_bytes.proofs.Tests.{long_fits_said}
use Rattle.conversion.specs.Convert.{written, Outcome, converted, to_short, to_long}
use Rattle.conversion.specs.Writing.{rewritten}
use Rattle.conversion.proofs.Representable.{representable_fits}
use Rattle.conversion.proofs.Outcomes.{success, succeeded, succeeds}
use Rattle.conversion.proofs.Theorems.{says_the_same, rewritten_well_formed, from_short_succeeds}
use Rattle.records.specs.Shapes.{Parsed, says, ray_by, shape_by, parse}
use Rattle.records.specs.Lines.{parsed_text, line_with, line_of}
use Rattle.records.proofs.RoundTrip.{form_is, parsed_is}

-- ---- a record that the converter takes

-- it is the stream's next record, and all of it
pub record_found : (form : Form) (l : List ℕ) → T (well_formed form l) → next_of l ≡ Record (length l)
unfolding next_of
record_found form l w =
    let f = formed form l w in
    let size : body_length form (kind_of l) (counts_of form l) ≤ 8192
    = omega (arith, f.small, longest_form form (kind_of l) (counts_of form l)) in
    let word : word_of l ≤ 8192 = omega (arith, size, f.framed, f.filled) in
    rw (
      ne_eqb (length l) 0 (λ e. omega (arith, f.framed)),
      le-ltb (length l) 4 (omega (arith, f.framed)),
      le-ltb longest (word_of l) word,
      le-ltb (length l) (4 + word_of l) (omega (arith, f.framed)),
    ) (ap Record f.framed)

-- `probe` does not call it malformed
pub well_formed_is_record : (form : Form) (l : List ℕ) → T (well_formed form l) → is_record l ≡ true
unfolding is_record
well_formed_is_record form l w = ap (λ (p : Form). well_formed p l) (form_is form l w) ∙ is_true (well_formed form l) w

-- and the converter takes every record that `probe` does not call malformed, if it is of the version that it converts from
pub record_is_well_formed : (l : List ℕ) → is_record l ≡ true → T (well_formed (form_at l) l)
unfolding is_record
record_is_well_formed l good = subst T (sym good) tt

-- ---- the same line

-- a record and what it is converted to are parsed alike, NaN included
module _ (p q : Form) (l : List ℕ) (r : rays_of p ≡ rays_of q) (b : IsBytes l) (w : T (well_formed p l))
    (f : T (said_fits q (said_of p l))) where
  same_parsed : parse (rewritten p q l) ≡ parse l
  same_parsed =
      parsed_is q (rewritten p q l) (rewritten_well_formed p q l r b w f)
      ∙ (ap (λ (s : Said). says (ray_by s.ray) (shape_by s)) (says_the_same p q l r b w f) ∙ sym (parsed_is p l w))

  pub same_line : (number : ℕ) → line_of number (rewritten p q l) ≡ line_of number l
  same_line number = ap (λ (s : Parsed). line_with number (parsed_text s)) same_parsed

-- a version 3 record's line is that of the version 2 record of the same numbers, NaN included
pub same_line_widened : (number : ℕ) (l : List ℕ) → IsBytes l → T (well_formed Short l)
    → line_of number (rewritten Short Long l) ≡ line_of number l
same_line_widened number l b w = same_line Short Long l refl b w (long_fits_said Short l) number

-- what the converter wrote stands at the front of the area
written_front : (p q : Form) (l area : List ℕ) (n : ℕ) → (converted p q l area).answer ≡ written n
    → take n (converted p q l area).area ≡ rewritten p q l
written_front p q l area n e =
    let s = succeeded p q l area n e in
    let new = rewritten p q l in
    let done : converted p q l area ≡ success new area = succeeds p q l area s.well_formed s.room s.representable in
    ap (λ (o : Outcome). take n o.area) done ∙ take_at new (drop (length new) area) n (sym s.counted)

converted_line : (p q : Form) (number : ℕ) (l area : List ℕ) (n : ℕ) → rays_of p ≡ rays_of q → IsBytes l
    → (converted p q l area).answer ≡ written n
    → line_of number (take n (converted p q l area).area) ≡ line_of number l
converted_line p q number l area n r b e =
    let s = succeeded p q l area n e in
    ap (line_of number) (written_front p q l area n e)
    ∙ same_line p q l r b s.well_formed (representable_fits q (said_of p l) s.representable) number

-- where to_short succeeds, the short record's line is the long one's
pub same_line_short : (number : ℕ) (l area : List ℕ) (n : ℕ) → IsBytes l → (to_short l area).answer ≡ written n
    → line_of number (take n (to_short l area).area) ≡ line_of number l
same_line_short number l area n b e = converted_line Long Short number l area n refl b e

-- where to_long succeeds, the long record's line is the short one's
pub same_line_long : (number : ℕ) (l area : List ℕ) (n : ℕ) → IsBytes l → (to_long l area).answer ≡ written n
    → line_of number (take n (to_long l area).area) ≡ line_of number l
same_line_long number l area n b e = converted_line Short Long number l area n refl b e

-- which it does for every well-formed record of version 3 without NaN, with room for it
pub long_line : (number : ℕ) (l area : List ℕ) → IsBytes l → T (well_formed Short l) → T (without_nan (said_of Short l))
    → length (rewritten Short Long l) ≤ length area
    → line_of number (take (length (rewritten Short Long l)) (to_long l area).area) ≡ line_of number l
long_line number l area b w h room =
    same_line_long number l area (length (rewritten Short Long l)) b (ap (λ (o : Outcome). o.answer) (from_short_succeeds l area w h room))
