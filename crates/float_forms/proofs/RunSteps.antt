-- One turn of each loop over a run: what is left gives the whole. Assumes nothing.
use Prim.Native.Nat.{ℕ, zero, suc, ◌+◌, ◌-◌, ◌*◌, ◌<◌, ◌≤◌}
use mathlib.Core.Path.{◌≡◌, refl, sym, ap, ◌∙◌}
use mathlib.Core.Bool.{Bool, true, false}
use mathlib.Core.List.{List, [], ◌∷◌, ◌++◌, append_assoc}
use native.Mathlib.Nat.{mul-zero, mul-suc}
use native.Mathlib.Omega.{arith}
use native.Mathlib.Numerals.{add-one}
use lib.Ieee.{to_bits}
use lib.ListN.{length, set, take, drop, length-set, length-drop}
use lib.Seq.{drop-drop, sets, length-sets, sets-eq, length-take-le}
use Rattle.lists.proofs.JoinedTests.{and_first, and_second}
use Rattle.lists.proofs.Runs.{sets_append}
use Rattle.float_forms.specs.declared.forms.Form.{Form}
use Rattle.float_forms.specs.Forms.{size_of, format_of}
use Rattle.float_forms.specs.Bytes.{word_of, word_bytes, pattern_bytes, number_of, number_bytes, numbers_of, numbers_bytes, words_of}
use Rattle.float_forms.specs.Bytes.{words_bytes}
use Rattle.float_forms.specs.Representable.{every, fits_in, representable}
use borrow.Rule.Slice.PartMut.{put_mid}
use Rattle.float_forms.specs.Bytes.{IsBytes}
use Rattle.float_forms.proofs.Numbers.{drop_bytes, word_length, number_length}
use Rattle.float_forms.proofs.RunLaws.{words_bytes_lem}

less_one : (k : ℕ) → suc k - 1 ≡ k
less_one k = omega arith

-- ---- the next place

pub first_place : (place size : ℕ) → place + size * 0 ≡ place
first_place place size = omega (arith, mul-zero size)

pub next_place : (place size i : ℕ) → place + size * (i + 1) ≡ place + size * i + size
next_place place size i = rw add-one (omega (arith, mul-suc size i))

pub all_left : (count : ℕ) → count - 0 ≡ count
all_left count = omega arith

pub one_less : (count i : ℕ) → count - (i + 1) ≡ count - i - 1
one_less count i = omega arith

-- ---- reading a run to the front of an area

-- i of so many are read, the next from a place on
pub record Reading {A : Type 0} (run : ℕ → List ℕ → List A) (size : ℕ) (l : List ℕ) (whole : List A) (many count : ℕ) (out : List A)
    (from i : ℕ) : Type 0 where
  pub inside : i ≤ count
  pub enough : from + size * (count - i) ≤ length l
  pub room : count ≤ length out
  pub kept : length out ≡ many
  pub same : sets out i (run (count - i) (drop from l)) ≡ whole

-- a run's numbers, each of so many bytes
pub record IsRun {A : Type 0} (one : List ℕ → A) (size : ℕ) (run : ℕ → List ℕ → List A) : Type 0 where
  pub none : (l : List ℕ) → run zero l ≡ []
  pub more : (n : ℕ) (l : List ℕ) → run (suc n) l ≡ one l ∷ run n (drop size l)

pub numbers_run : (form : Form) → IsRun (number_of form) (size_of form) (numbers_of form)
unfolding numbers_of
numbers_run form = record { none = λ l. refl; more = λ n l. refl }

pub words_run : IsRun word_of 4 words_of
unfolding words_of
words_run = record { none = λ l. refl; more = λ n l. refl }

module _ {A : Type 0} (one : List ℕ → A) (size : ℕ) (run : ℕ → List ℕ → List A) (is : IsRun one size run) (l : List ℕ) where
  pub read_start : (out : List A) (place count : ℕ) → place + size * count ≤ length l → count ≤ length out
      → Reading run size l (sets out 0 (run count (drop place l))) (length out) count out place 0
  read_start out place count h r =
      let all : count - 0 ≡ count = omega arith in
      record { inside = omega arith; enough = rw all h; room = r; kept = refl; same = rw all }

  module _ (whole : List A) (many count : ℕ) (out : List A) (from i : ℕ) (s : Reading run size l whole many count out from i) where
    pub read_inside : i < count → from + size ≤ length l
    read_inside h =
        let left : count - i ≡ suc (count - suc i) = omega (arith, h) in
        omega (arith, rw left at s.enough, mul-suc size (count - suc i))

    pub read_next : (x : A) → i < count → x ≡ one (drop from l)
        → Reading run size l whole many count (set out i x) (from + size) (i + 1)
    read_next x h e =
        let k = count - suc i in
        let left : count - i ≡ suc k = omega (arith, h) in
        let first : run (count - i) (drop from l) ≡ one (drop from l) ∷ run k (drop (from + size) l)
        = ap (λ (n : ℕ). run n (drop from l)) left ∙ (is.more k (drop from l) ∙ ap (λ (z : List ℕ). one (drop from l) ∷ run k z)
        (drop-drop size from l)) in
        rw (add-one i) record {
          inside = h;
          enough = omega (arith, rw left at s.enough, mul-suc size k);
          room = rw (length-set out i x) s.room;
          kept = length-set out i x ∙ s.kept;
          same = rw e (ap (sets out i) (sym first) ∙ s.same);
        }

    pub read_done : count ≤ i → out ≡ whole
    read_done h =
        let none : count - i ≡ 0 = omega (arith, h) in
        ap (sets out i) (sym (ap (λ (n : ℕ). run n (drop from l)) none ∙ is.none (drop from l))) ∙ s.same

-- ---- looking at floats

pub record Scanning (p q : Form) (l : List ℕ) (whole : Bool) (from left : ℕ) : Type 0 where
  pub enough : from + size_of p * left ≤ length l
  pub same : every (representable q) (numbers_of p left (drop from l)) ≡ whole

-- the next float lies within the list
pub next_inside : (size from left n : ℕ) → 0 < left → from + size * left ≤ n → from + size ≤ n
next_inside size from zero n g h = absurd (omega (arith, g))
next_inside size from (suc k) n g h = omega (arith, h, mul-suc size k)

next_enough : (size from k n : ℕ) → from + size * suc k ≤ n → from + size + size * k ≤ n
next_enough size from k n h = omega (arith, h, mul-suc size k)

module _ (p q : Form) (l : List ℕ) (whole : Bool) where
  pub scan_next : (from left : ℕ) → 0 < left → Scanning p q l whole from left → representable q (number_of p (drop from l)) ≡ true
      → Scanning p q l whole (from + size_of p) (left - 1)
  unfolding numbers_of every
  scan_next from zero g s h = absurd (omega (arith, g))
  scan_next from (suc k) g s h = rw (less_one k) record {
    enough = next_enough (size_of p) from k (length l) s.enough;
    same = rw (sym (drop-drop (size_of p) from l)) (rw h at s.same);
  }

  pub scan_unrepresentable : (from left : ℕ) → 0 < left → Scanning p q l whole from left
      → representable q (number_of p (drop from l)) ≡ false → false ≡ whole
  unfolding numbers_of every
  scan_unrepresentable from zero g s h = absurd (omega (arith, g))
  scan_unrepresentable from (suc k) g s h = rw h at s.same

  pub scan_done : (from left : ℕ) → left ≤ 0 → Scanning p q l whole from left → true ≡ whole
  unfolding numbers_of every
  scan_done from zero g s = s.same
  scan_done from (suc k) g s = absurd (omega (arith, g))

-- ---- writing floats

pub record Writing (p q : Form) (l whole : List ℕ) (size : ℕ) (out : List ℕ) (from to left : ℕ) : Type 0 where
  pub enough : from + size_of p * left ≤ length l
  pub room : to + size_of q * left ≤ length out
  pub kept : length out ≡ size
  pub all_fit : every (fits_in q) (numbers_of p left (drop from l)) ≡ true
  pub same : sets out to (numbers_bytes q (numbers_of p left (drop from l))) ≡ whole

module _ (p q : Form) (l whole : List ℕ) (size : ℕ) where
  pub next_fits : (out : List ℕ) (from to left : ℕ) → 0 < left → Writing p q l whole size out from to left
      → fits_in q (number_of p (drop from l)) ≡ true
  unfolding numbers_of every
  next_fits out from to zero g s = absurd (omega (arith, g))
  next_fits out from to (suc k) g s =
      and_first (fits_in q (number_of p (drop from l))) (every (fits_in q) (numbers_of p k (drop (size_of p) (drop from l)))) s.all_fit

  pub write_next : (out after : List ℕ) (from to left bits : ℕ) → 0 < left → Writing p q l whole size out from to left
      → bits ≡ to_bits (format_of q) (number_of p (drop from l)) → after ≡ sets out to (pattern_bytes q bits)
      → Writing p q l whole size after (from + size_of p) (to + size_of q) (left - 1)
  unfolding numbers_of every numbers_bytes number_bytes
  write_next out after from to zero bits g s e f = absurd (omega (arith, g))
  write_next out after from to (suc k) bits g s e f =
      let x = number_of p (drop from l) in
      let rest = numbers_of p k (drop (from + size_of p) l) in
      let long : length after ≡ length out = rw f (length-sets out to (pattern_bytes q bits)) in
      let here : drop (size_of p) (drop from l) ≡ drop (from + size_of p) l = drop-drop (size_of p) from l in
      let put : after ≡ sets out to (number_bytes q x) = rw e at f in
      let all : sets out to (number_bytes q x ++ numbers_bytes q rest) ≡ whole = rw here at s.same in
      rw (less_one k) record {
        enough = next_enough (size_of p) from k (length l) s.enough;
        room = rw long (next_enough (size_of q) to k (length out) s.room);
        kept = long ∙ s.kept;
        all_fit = rw (sym here) (and_second (fits_in q x) (every (fits_in q) (numbers_of p k (drop (size_of p) (drop from l)))) s.all_fit);
        same = rw (put, sym (number_length q x)) (sym (sets_append out to (number_bytes q x) (numbers_bytes q rest)) ∙ all);
      }

  pub write_done : (out : List ℕ) (from to left : ℕ) → left ≤ 0 → Writing p q l whole size out from to left → out ≡ whole
  unfolding numbers_of numbers_bytes
  write_done out from to zero g s = s.same
  write_done out from to (suc k) g s = absurd (omega (arith, g))

-- ---- writing u32

pub record Copying (l whole : List ℕ) (size : ℕ) (out : List ℕ) (from to left : ℕ) : Type 0 where
  pub enough : from + 4 * left ≤ length l
  pub room : to + 4 * left ≤ length out
  pub kept : length out ≡ size
  pub same : sets out to (words_bytes (words_of left (drop from l))) ≡ whole

module _ (l whole : List ℕ) (size : ℕ) where
  pub copy_next : (out after : List ℕ) (from to left word : ℕ) → 0 < left → Copying l whole size out from to left
      → word ≡ word_of (drop from l) → after ≡ sets out to (word_bytes word) → Copying l whole size after (from + 4) (to + 4) (left - 1)
  unfolding words_of words_bytes
  copy_next out after from to zero word g s e f = absurd (omega (arith, g))
  copy_next out after from to (suc k) word g s e f =
      let w = word_of (drop from l) in
      let rest = words_of k (drop (from + 4) l) in
      let long : length after ≡ length out = rw f (length-sets out to (word_bytes word)) in
      let here : drop 4 (drop from l) ≡ drop (from + 4) l = drop-drop 4 from l in
      let put : after ≡ sets out to (word_bytes w) = rw e at f in
      let all : sets out to (word_bytes w ++ words_bytes rest) ≡ whole = rw here at s.same in
      let step : to + 4 ≡ to + length (word_bytes w) = ap (λ (n : ℕ). to + n) (sym (word_length w)) in
      rw (less_one k) record {
        enough = omega (arith, s.enough);
        room = rw long (omega (arith, s.room));
        kept = long ∙ s.kept;
        same = rw (put, step) (sym (sets_append out to (word_bytes w) (words_bytes rest)) ∙ all);
      }

  pub copy_done : (out : List ℕ) (from to left : ℕ) → left ≤ 0 → Copying l whole size out from to left → out ≡ whole
  unfolding words_of words_bytes
  copy_done out from to zero g s = s.same
  copy_done out from to (suc k) g s = absurd (omega (arith, g))

-- ---- copying u32

-- u32 read and written again are the bytes that they were read from
pub words_copied : (l out part : List ℕ) (place at count : ℕ) → IsBytes l → place + 4 * count ≤ length l → at + 4 * count ≤ length out
    → part ≡ take (place + 4 * count - place) (drop place l)
    → put_mid at (at + 4 * count - at) out part ≡ sets out at (words_bytes (words_of count (drop place l)))
words_copied l out part place at count b enough room e =
    let many : place + 4 * count - place ≡ 4 * count = omega arith in
    let long : at + 4 * count - at ≡ 4 * count = omega arith in
    let left : 4 * count ≤ length (drop place l) = omega (arith, length-drop place l) in
    let same : words_bytes (words_of count (drop place l)) ≡ take (4 * count) (drop place l) =
    words_bytes_lem count (drop place l) (drop_bytes place l b) left in
    let size : length (take (4 * count) (drop place l)) ≡ 4 * count = length-take-le (4 * count) (drop place l) left in
    let whole = sets-eq (take (4 * count) (drop place l)) out at (omega (arith, size)) in
    rw (same, e, many, long, whole, size, drop-drop (4 * count) at out, append_assoc)
