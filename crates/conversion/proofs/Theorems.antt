-- What document 02 promises of the converter. Assumes nothing.
use Prim.Native.Nat.{ℕ, ◌≤◌}
use mathlib.Core.Path.{◌≡◌, sym, ap, ◌∙◌}
use mathlib.Core.List.{List}
use native.Mathlib.Omega.{arith}
use lib.Dec.{T}
use lib.ListN.{length, take, drop}
use lib.Seq.{take_at}
use Rattle.float_forms.specs.declared.forms.Form.{Form}
use Rattle.float_forms.specs.declared.forms.Form.TheVariants.{Long, Short}
use Rattle.float_forms.specs.Forms.{rays_of, long_form}
use Rattle.float_forms.specs.Bytes.{IsBytes}
use Rattle.record_bytes.specs.Records.{many_counts, many_indices, body_length, kind_of, counts_of, counts_place, indices_place, said_of}
use Rattle.record_bytes.specs.Records.{well_formed, record_bytes, said_fits, without_nan}
use Rattle.conversion.specs.Convert.{said_representable, written, Outcome, converted, to_long}
use Rattle.conversion.specs.Writing.{rewritten}
use Rattle.float_forms.proofs.Numbers.{drop_bytes}
use Rattle.float_forms.proofs.RunLaws.{words_below}
use Rattle.record_bytes.proofs.Parts.{Formed, formed, well_formed_lem}
use Rattle.record_bytes.proofs.RoundTrip.{Fitting, written_formed, said_back, same_bytes, longest_form}
use Rattle.conversion.proofs.Representable.{representable_fits, long_represents_said, own_represents_said, without_nan_lem}
use Rattle.conversion.proofs.Outcomes.{success, succeeded, succeeds}
use Rattle.record_bytes.proofs.Lengths.{read_measured}
use Rattle.record_bytes.proofs.ShapeLaws.{long_body}
use Rattle.conversion.proofs.WritingLaws.{rewritten_length}

pub read_fits : (p q : Form) (l : List ℕ) → rays_of p ≡ rays_of q → IsBytes l → Formed p l → T (said_fits q (said_of p l))
    → Fitting q (said_of p l)
unfolding said_of counts_of
read_fits p q l r b g h =
    let kind = kind_of l in
    let counts = counts_of p l in
    let from = counts_place p in
    record {
      measured = read_measured p q l r;
      counts_fit = words_below (many_counts kind) (drop from l) (drop_bytes from l b);
      indices_fit =
          words_below (many_indices kind counts) (drop (indices_place p kind counts) l) (drop_bytes (indices_place p kind counts) l b);
      floats_fit = h;
      known = g.kinded;
      small = omega (arith, g.small, long_body p kind counts, long_body q kind counts, r);
    }

-- an area of 8,196 bytes is long enough for every record, in either direction
pub room_enough : (p q : Form) (l : List ℕ) → rays_of p ≡ rays_of q → T (well_formed p l) → length (rewritten p q l) ≤ 8196
room_enough p q l r w =
    let kind = kind_of l in
    let counts = counts_of p l in
    let most : body_length (long_form q) kind counts ≤ 8192 = omega
    (arith, (formed p l w).small, long_body p kind counts, long_body q kind counts, r) in
    omega (arith, rewritten_length p q l r, longest_form q kind counts, most)

module _
    (p q : Form)
    (l : List ℕ)
    (r : rays_of p ≡ rays_of q)
    (b : IsBytes l)
    (w : T (well_formed p l))
    (h : T (said_fits q (said_of p l)))
  where
    -- the converted record says the same: "A user's record must cast to the same bits from either version"
    pub says_the_same : said_of q (rewritten p q l) ≡ said_of p l
    says_the_same = said_back q (said_of p l) (read_fits p q l r b (formed p l w) h)

    -- it is one whole record of its version
    pub rewritten_well_formed : T (well_formed q (rewritten p q l))
    rewritten_well_formed = well_formed_lem q (rewritten p q l) (written_formed q (said_of p l) (read_fits p q l r b (formed p l w) h))

module _
    (p q : Form)
    (l : List ℕ)
    (r : rays_of p ≡ rays_of q)
    (b : IsBytes l)
    (w : T (well_formed p l))
    (h : T (said_representable q (said_of p l)))
  where
    same_said : said_of q (rewritten p q l) ≡ said_of p l
    same_said = says_the_same p q l r b w (representable_fits q (said_of p l) h)

    -- what comes back is representable, and is the same bytes
    pub back_representable : T (said_representable p (said_of q (rewritten p q l)))
    back_representable = rw same_said (own_represents_said p l (without_nan_lem q (said_of p l) h))

    pub back_is : rewritten q p (rewritten p q l) ≡ l
    back_is = ap (record_bytes p) same_said ∙ same_bytes p l b (formed p l w) (without_nan_lem q (said_of p l) h)

-- "coming back gives the same bytes where going to 3 succeeds" (p is Long, q Short), and the other way round
pub comes_back : (p q : Form) (l area again : List ℕ) (n : ℕ) → rays_of p ≡ rays_of q → IsBytes l → (converted p q l area).answer
    ≡ written n
    → length l ≤ length again
    → converted q p (take n (converted p q l area).area) again ≡ success l again
comes_back p q l area again n same b e r =
    let s = succeeded p q l area n e in
    let new = rewritten p q l in
    let done : converted p q l area ≡ success new area = succeeds p q l area s.well_formed s.room s.representable in
    let front : take n (converted p q l area).area ≡ new
    = ap (λ (o : Outcome). take n o.area) done ∙ take_at new (drop (length new) area) n (sym s.counted) in
    let back : rewritten q p new ≡ l = back_is p q l same b s.well_formed s.representable in
    let room : length (rewritten q p new) ≤ length again = rw back r in
    rw front
    (succeeds q p new again (rewritten_well_formed p q l same b s.well_formed (representable_fits q (said_of p l) s.representable)) room
    (back_representable p q l same b s.well_formed s.representable)
    ∙ ap (λ (z : List ℕ). success z again) back)

-- "going from 3 succeeds for every well-formed record without NaN"
pub from_short_succeeds : (l area : List ℕ) → T (well_formed Short l) → T (without_nan (said_of Short l))
    → length (rewritten Short Long l) ≤ length area
    → to_long l area ≡ success (rewritten Short Long l) area
from_short_succeeds l area w h r = succeeds Short Long l area w r (long_represents_said Short l h)
