-- Counts, and which records are filled by their fields, for each return of the functions that find out. Assumes nothing.
use Prim.Native.Nat.{ℕ, zero, suc, ◌+◌, ◌*◌, ◌<◌, ◌≤◌}
use mathlib.Core.Path.{◌≡◌, refl, sym, ap, subst, ◌∙◌}
use mathlib.Core.Bool.{Bool, true, false, ◌&&◌, cond}
use mathlib.Core.List.{List, [], ◌∷◌}
use native.Mathlib.Nat.{mul-zero, mul-one, mul-le-mul_right}
use native.Mathlib.Omega.{arith}
use borrow.Author.Tests.{ltb-true, ltb-false, eqb-true, leb-true, lt-ltb, le-ltb, le-leb, lt-leb, eq-eqb, ne_eqb}
use lib.Dec.{ltb, eqb, leb}
use lib.ListN.{length, get_or, drop, get_or-eq_default}
use lib.Seq.{drop-drop}
use Rattle.float_forms.specs.declared.forms.Form.{Form}
use Rattle.float_forms.specs.declared.forms.Form.TheVariants.{First, Long, Short}
use Rattle.std.specs.Prelude.{Option, Some, None, Result, Ok, Err, MatchOption}
use Rattle.std.specs.Result.{result_ok}
use Rattle.record_bytes.specs.declared.kind.Kind.{Kind}
use Rattle.record_bytes.specs.declared.kind.UnknownKind.{UnknownKind}
use Rattle.record_bytes.specs.Kinds.{byte_of, Named}
use Rattle.record_bytes.proofs.KindLaws.{named_kind, known_byte}
use Rattle.float_forms.specs.Forms.{size_of, rays_of, version_of, form_of, long_form}
use Rattle.float_forms.specs.Bytes.{word_of, words_of}
use Rattle.record_bytes.specs.Records.{many_counts, many_numbers, many_indices, body_length, kind_of, counts_place, counts_of, framed}
use Rattle.record_bytes.specs.Records.{is_kind}
use Rattle.record_bytes.specs.Records.{filled}
use Rattle.record_bytes.specs.Records.{longest, well_formed, form_at}
use Rattle.record_bytes.specs.Plans.{capped, plan_of, filling, planned}

-- the length in the form with floats of 8 bytes
pub long_body : (form : Form) (kind : ℕ) (counts : List ℕ)
    → body_length (long_form form) kind counts
    ≡ 2 + 8 * rays_of form + 4 * many_counts kind + 8 * many_numbers kind counts + 4 * many_indices kind counts
unfolding body_length
long_body First kind counts = refl
long_body Long kind counts = refl
long_body Short kind counts = refl

-- ---- capped counts

pub capped_more : (n : ℕ) → 1024 < n → 1025 ≡ capped n
unfolding capped
capped_more n h = rw (lt-ltb 1024 n h)

pub capped_few : (n : ℕ) → n ≤ 1024 → n ≡ capped n
unfolding capped
capped_few n h = rw (le-ltb 1024 n h)

-- a capped count is at most 1,025, is the count up to 1,024, and passes 1,024 with it
pub record Capped (n c : ℕ) : Type 0 where
  pub most : c ≤ 1025
  pub few : c ≤ 1024 → n ≡ c
  pub more : 1024 < c → 1024 < n

pub is_capped : (n : ℕ) → Capped n (capped n)
unfolding capped
is_capped n = go (ltb 1024 n) (ltb-true 1024 n) (ltb-false 1024 n)
  where
    go : (b : Bool) → (b ≡ true → 1024 < n) → (b ≡ false → n ≤ 1024) → Capped n (cond b 1025 n)
    go true t f = record { most = omega arith; few = λ h. absurd (omega (arith, h)); more = λ h. t refl }
    go false t f = record { most = omega (arith, f refl); few = λ h. refl; more = λ h. h }

-- two counts that cap alike
alike : (m n : ℕ) → (1024 < m → 1024 < n) → (m ≤ 1024 → m ≡ n) → capped m ≡ capped n
alike m n p q = go (ltb 1024 m) (ltb-true 1024 m) (ltb-false 1024 m)
  where
    go : (b : Bool) → (b ≡ true → 1024 < m) → (b ≡ false → m ≤ 1024) → capped m ≡ capped n
    go true t f = sym (capped_more m (t refl)) ∙ capped_more n (p (t refl))
    go false t f = ap capped (q (f refl))

pub capped_sum : (k m : ℕ) → capped (k + capped m) ≡ capped (k + m)
capped_sum k m = go (ltb 1024 m) (ltb-true 1024 m) (ltb-false 1024 m)
  where
    go : (b : Bool) → (b ≡ true → 1024 < m) → (b ≡ false → m ≤ 1024) → capped (k + capped m) ≡ capped (k + m)
    go true t f =
        let e : 1025 ≡ capped m = capped_more m (t refl) in
        rw (sym e) (sym (capped_more (k + 1025) (omega arith)) ∙ capped_more (k + m) (omega (arith, t refl)))
    go false t f = rw (sym (capped_few m (f refl)))

pub capped_product : (m c : ℕ) → capped (capped m * c) ≡ capped (m * c)
capped_product m zero = rw (mul-zero (capped m), mul-zero m)
capped_product m (suc c) = go (ltb 1024 m) (ltb-true 1024 m) (ltb-false 1024 m)
  where
    go : (b : Bool) → (b ≡ true → 1024 < m) → (b ≡ false → m ≤ 1024) → capped (capped m * suc c) ≡ capped (m * suc c)
    go true t f =
        let e : 1025 ≡ capped m = capped_more m (t refl) in
        let large : 1025 * suc c ≤ m * suc c = mul-le-mul_right (suc c) (t refl) in
        rw (sym e) (sym (capped_more (1025 * suc c) (omega arith)) ∙ capped_more (m * suc c) (omega (arith, large)))
    go false t f = rw (sym (capped_few m (f refl)))

pub product_fits : (a b : ℕ) → a < 4294967296 → b < 4294967296 → a * b < 0x1_0000_0000_0000_0000
product_fits a b h k =
    let few : a ≤ 4294967295 = omega (arith, h) in
    let most : a * b ≤ 4294967295 * b = mul-le-mul_right b few in
    omega (arith, most, k)

-- ---- the counts of a record

pub word_of_run : (n i : ℕ) (l : List ℕ) → i < n → word_of (drop (4 * i) l) ≡ get_or (words_of n l) i 0
unfolding words_of
word_of_run zero i l h = absurd (omega (arith, h))
word_of_run (suc n) zero l h = refl
word_of_run (suc n) (suc i) l h =
    let e : 4 * suc i ≡ 4 + 4 * i = omega arith in
    rw (e, sym (drop-drop (4 * i) 4 l)) (word_of_run n i (drop 4 l) (omega (arith, h)))

pub none_of_run : (n i : ℕ) (l : List ℕ) → n ≤ i → 0 ≡ get_or (words_of n l) i 0
unfolding words_of
none_of_run zero i l h = refl
none_of_run (suc n) zero l h = absurd (omega (arith, h))
none_of_run (suc n) (suc i) l h = none_of_run n i (drop 4 l) (omega (arith, h))

pub count_read : (form : Form) (l : List ℕ) (kind many ray i word : ℕ) → kind ≡ kind_of l → many ≡ many_counts kind
    → ray ≡ size_of form * rays_of form → i < many → word ≡ word_of (drop (6 + ray + 4 * i) l) → word ≡ get_or (counts_of form l) i 0
unfolding counts_of
count_read form l kind many ray i word k m s h e =
    let place : drop (counts_place form + 4 * i) l ≡ drop (4 * i) (drop (counts_place form) l) = sym
    (drop-drop (4 * i) (counts_place form) l) in
    e ∙
    (rw (s, place) (word_of_run (many_counts (kind_of l)) i (drop (counts_place form) l) (subst (λ (z : ℕ). i < z) (m ∙ ap many_counts k)
    h)))

pub count_none : (form : Form) (l : List ℕ) (kind many i : ℕ) → kind ≡ kind_of l → many ≡ many_counts kind → many ≤ i
    → 0 ≡ get_or (counts_of form l) i 0
unfolding counts_of
count_none form l kind many i k m h =
    none_of_run (many_counts (kind_of l)) i (drop (counts_place form) l) (subst (λ (z : ℕ). z ≤ i) (m ∙ ap many_counts k) h)

-- ---- the frame

pub no_version : (l : List ℕ) → length l < 5 → Long ≡ form_at l
unfolding form_at form_of
no_version l h = rw (get_or-eq_default l 0 {n = 4} (omega (arith, h)))

never : (a : Bool) → false ≡ (a && false)
never true = refl
never false = refl

pub unframed_kind : (form : Form) (l : List ℕ) → get_or l 5 0 < 1 → false ≡ framed form l
unfolding framed
unframed_kind form l h =
    rw (lt-leb 1 (get_or l 5 0) h, sym (never (eqb (get_or l 4 0) (version_of form)))) (never (eqb (4 + word_of l) (length l)))

pub unframed_short : (form : Form) (l : List ℕ) → length l < 6 → false ≡ framed form l
unframed_short form l h = unframed_kind form l (omega (arith, get_or-eq_default l 0 {n = 5} (omega (arith, h))))

pub unframed_length : (form : Form) (l : List ℕ) (w : ℕ) → w ≡ word_of (drop 0 l) → (w + 4 ≡ length l → ⊥) → false ≡ framed form l
unfolding framed
unframed_length form l w e h = rw (ne_eqb (4 + word_of l) (length l) (λ k. h (omega (arith, k, e))))

pub unframed_version : (form : Form) (l : List ℕ) (v : ℕ) → v ≡ version_of form → (get_or l 4 0 ≡ v → ⊥) → false ≡ framed form l
unfolding framed
unframed_version form l v e h =
    rw (ne_eqb (get_or l 4 0) (version_of form) (λ k. h (k ∙ sym e))) (never (eqb (4 + word_of l) (length l)))

pub unframed_unknown : (form : Form) (l : List ℕ) → is_kind (get_or l 5 0) ≡ false → false ≡ framed form l
unfolding framed
unframed_unknown form l h =
    rw (h, sym (never (eqb (get_or l 4 0) (version_of form)))) (never (eqb (4 + word_of l) (length l)))

pub framed_kind : (form : Form) (l : List ℕ) (w v : ℕ) → w ≡ word_of (drop 0 l) → w + 4 ≡ length l → v ≡ version_of form → get_or l 4 0 ≡ v
    → is_kind (get_or l 5 0) ≡ true
    → framed form l ≡ true
unfolding framed
framed_kind form l w v e h f g k =
    rw (eq-eqb (4 + word_of l) (length l) (omega (arith, e, h)), eq-eqb (get_or l 4 0) (version_of form) (g ∙ f), k)

-- by the kind byte, where all else is right
pub framed_by_kind : (form : Form) (l : List ℕ) (w v : ℕ) → w ≡ word_of (drop 0 l) → w + 4 ≡ length l → v ≡ version_of form
    → get_or l 4 0 ≡ v → (r : Result Kind UnknownKind) (o : Option Kind) → Named (get_or l 5 0) r → o ≡ result_ok r
    → MatchOption o (framed form l ≡ false) (λ kind. (framed form l ≡ true) × (byte_of kind ≡ kind_of l))
framed_by_kind form l w v e h f g r o n k = rw k (go r n)
  where
    go : (r : Result Kind UnknownKind) → Named (get_or l 5 0) r
        → MatchOption (result_ok r) (framed form l ≡ false) (λ kind. (framed form l ≡ true) × (byte_of kind ≡ kind_of l))
    go (Ok kind) n = (framed_kind form l w v e h f g (subst (λ (b : ℕ). is_kind b ≡ true) n (known_byte kind)), n)
    go (Err u) n = sym (unframed_unknown form l n.1)

-- ---- filled by the fields

-- what is counted
pub record Counted (form : Form) (l : List ℕ) (kind counts numbers indices : ℕ) : Type 0 where
  pub kind_is : kind ≡ kind_of l
  pub counts_are : counts ≡ many_counts (kind_of l)
  pub numbers_are : numbers ≡ capped (many_numbers (kind_of l) (counts_of form l))
  pub indices_are : indices ≡ many_indices (kind_of l) (counts_of form l)

numbers_of_lem : (kind : ℕ) (counts : List ℕ)
    → many_numbers kind (get_or counts 0 0 ∷ (get_or counts 1 0 ∷ (get_or counts 2 0 ∷ []))) ≡ many_numbers kind counts
unfolding many_numbers
numbers_of_lem kind counts = refl

indices_of : (kind : ℕ) (counts : List ℕ) → many_indices kind (0 ∷ (get_or counts 1 0 ∷ [])) ≡ many_indices kind counts
unfolding many_indices
indices_of kind counts = refl

pub counted : (form : Form) (l : List ℕ) (kind counts numbers indices a b c : ℕ) → kind ≡ kind_of l → counts ≡ many_counts kind
    → a ≡ get_or (counts_of form l) 0 0 → b ≡ get_or (counts_of form l) 1 0 → c ≡ get_or (counts_of form l) 2 0
    → numbers ≡ capped (many_numbers kind (a ∷ (b ∷ (c ∷ [])))) → indices ≡ many_indices kind (0 ∷ (b ∷ []))
    → Counted form l kind counts numbers indices
counted form l kind counts numbers indices a b c k m ea eb ec n i = record {
  kind_is = k;
  counts_are = m ∙ ap many_counts k;
  numbers_are = n ∙ (rw (k, ea, eb, ec, numbers_of_lem (kind_of l) (counts_of form l)));
  indices_are = i ∙ (rw (k, eb, indices_of (kind_of l) (counts_of form l)));
}

unfilled : (form : Form) (l : List ℕ)
    → (4 + body_length form (kind_of l) (counts_of form l) ≡ length l → body_length (long_form form) (kind_of l) (counts_of form l)
    ≤ longest → ⊥)
    → None ≡ filling form l
unfolding filling filled
unfilled form l h =
    go (eqb (4 + n) (length l)) (leb m 8192) (eqb-true (4 + n) (length l)) (leb-true m 8192)
  where
    n : ℕ
    n = body_length form (kind_of l) (counts_of form l)

    m : ℕ
    m = body_length (long_form form) (kind_of l) (counts_of form l)

    go : (a b : Bool) → (a ≡ true → 4 + n ≡ length l) → (b ≡ true → m ≤ 8192) → None ≡ cond (a && b) (Some (plan_of form l)) None
    go true true p q = absurd (h (p refl) (q refl))
    go true false p q = refl
    go false b p q = refl

pub unfilled_short : (form : Form) (l : List ℕ) (kind counts ray : ℕ) → kind ≡ kind_of l → counts ≡ many_counts kind
    → ray ≡ size_of form * rays_of form → length l < 6 + ray + 4 * counts → None ≡ filling form l
unfolding body_length
unfilled_short form l kind counts ray k m s h =
    let e : counts ≡ many_counts (kind_of l) = m ∙ ap many_counts k in
    let g : length l < counts_place form + 4 * many_counts (kind_of l) = subst
    (λ (z : ℕ). length l < 6 + z + 4 * many_counts (kind_of l)) s (rw e at h) in
    unfilled form l (λ f _. omega (arith, f, g))

module _ (form : Form) (l : List ℕ) (kind counts numbers indices : ℕ) (f : Counted form l kind counts numbers indices) where
  cap : Capped (many_numbers (kind_of l) (counts_of form l)) numbers
  cap = rw f.numbers_are (is_capped (many_numbers (kind_of l) (counts_of form l)))

  pub unfilled_many : 1024 < numbers → None ≡ filling form l
  unfilled_many h = unfilled form l (λ _ g. omega (arith, g, long_body form (kind_of l) (counts_of form l), cap.more h))

  -- the length that was added up
  lengths : (other : Form) (sum : ℕ) → numbers ≤ 1024
      → sum ≡ 2 + size_of other * rays_of other + 4 * counts + size_of other * numbers + 4 * indices
      → sum ≡ body_length other (kind_of l) (counts_of form l)
  unfolding body_length
  lengths other sum h e = e ∙ (rw (f.counts_are, f.indices_are, sym (cap.few h)))

  pub unfilled_length : (sum : ℕ) → numbers ≤ 1024 → sum ≡ 2 + size_of form * rays_of form + 4 * counts + size_of form * numbers + 4
      * indices
      → (4 + sum ≡ length l → ⊥) → None ≡ filling form l
  unfilled_length sum h e g = unfilled form l (λ k _. g (ap (λ (z : ℕ). 4 + z) (lengths form sum h e) ∙ k))

  -- and that of the form with floats of 8 bytes
  long_lengths : (other : Form) (sum : ℕ) → other ≡ long_form form → numbers ≤ 1024
      → sum ≡ 2 + size_of other * rays_of other + 4 * counts + size_of other * numbers + 4 * indices
      → sum ≡ body_length (long_form form) (kind_of l) (counts_of form l)
  long_lengths other sum o h e = lengths other sum h e ∙ ap (λ (z : Form). body_length z (kind_of l) (counts_of form l)) o

  pub unfilled_long : (other : Form) (sum : ℕ) → other ≡ long_form form → numbers ≤ 1024
      → sum ≡ 2 + size_of other * rays_of other + 4 * counts + size_of other * numbers + 4 * indices
      → 8192 < sum → None ≡ filling form l
  unfilled_long other sum o h e g = unfilled form l (λ _ k. omega (arith, g, k, long_lengths other sum o h e))

  pub fills : (named : Kind) → byte_of named ≡ kind → (other : Form) (sum long : ℕ) → other ≡ long_form form → numbers ≤ 1024
      → sum ≡ 2 + size_of form * rays_of form + 4 * counts + size_of form * numbers + 4 * indices
      → 4 + sum ≡ length l
      → long ≡ 2 + size_of other * rays_of other + 4 * counts + size_of other * numbers + 4 * indices → long ≤ 8192
      → Some record { kind = named; counts = counts; numbers = numbers; indices = indices } ≡ filling form l
  unfolding filling filled plan_of
  fills named n other sum long o h e g d k =
      let whole : 4 + body_length form (kind_of l) (counts_of form l) ≡ length l = ap (λ (z : ℕ). 4 + z) (sym (lengths form sum h e)) ∙ g in
      let small : body_length (long_form form) (kind_of l) (counts_of form l) ≤ longest = subst (λ (z : ℕ). z ≤ longest)
      (long_lengths other long o h d) k in
      rw (
        eq-eqb (4 + body_length form (kind_of l) (counts_of form l)) (length l) whole,
        le-leb (body_length (long_form form) (kind_of l) (counts_of form l)) 8192 small,
        named_kind named (kind_of l) (n ∙ f.kind_is),
        f.counts_are,
        f.indices_are,
        sym (cap.few h),
      )

-- ---- the plan of a whole record

pub unplanned : (form : Form) (l : List ℕ) → framed form l ≡ false → None ≡ planned form l
unfolding planned well_formed
unplanned form l h = rw h

pub planned_by_fields : (form : Form) (l : List ℕ) → framed form l ≡ true → filling form l ≡ planned form l
unfolding planned well_formed filling
planned_by_fields form l h = rw h

-- ---- how many floats, by kind

pub numbers_one : (kind : ℕ) (l : List ℕ) → kind ≡ 1 → 4 ≡ capped (many_numbers kind l)
unfolding many_numbers capped
numbers_one kind l k = rw k

pub numbers_two : (kind : ℕ) (l : List ℕ) → kind ≡ 2 → 9 ≡ capped (many_numbers kind l)
unfolding many_numbers capped
numbers_two kind l k = rw k

pub numbers_three : (kind a b c r : ℕ) → kind ≡ 3 → r ≡ capped (3 * a) → r ≡ capped (many_numbers kind (a ∷ (b ∷ (c ∷ []))))
unfolding many_numbers
numbers_three kind a b c r k e = rw k e

pub numbers_four : (kind a b c p r : ℕ) → kind ≡ 4 → p ≡ capped (a * b * 1) → r ≡ capped (2 + p)
    → r ≡ capped (many_numbers kind (a ∷ (b ∷ (c ∷ []))))
unfolding many_numbers
numbers_four kind a b c p r k e f =
    let one : a * b * 1 ≡ a * b = mul-one (a * b) in
    rw k (f ∙ (rw (e, one) (capped_sum 2 (a * b))))

pub numbers_five : (kind a b c p r : ℕ) → kind ≡ 5 → p ≡ capped (a * b * c) → r ≡ capped (6 + p)
    → r ≡ capped (many_numbers kind (a ∷ (b ∷ (c ∷ []))))
unfolding many_numbers
numbers_five kind a b c p r k e f = rw k (f ∙ (rw e (capped_sum 6 (a * b * c))))

-- ---- for `record_bytes::shape::product`

pub ruleset products = (product_fits, is_capped, capped_product)
