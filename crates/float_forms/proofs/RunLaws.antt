-- Runs of floats and of u32: read back what was written, and write what was read. Assumes nothing.
use Prim.Native.Nat.{ℕ, zero, suc, ◌+◌, ◌*◌, ◌<◌, ◌≤◌}
use mathlib.Core.Path.{◌≡◌, refl, sym, ap}
use mathlib.Core.Bool.{Bool, not}
use mathlib.Core.List.{List, [], ◌∷◌, ◌++◌, append_assoc}
use native.Mathlib.Nat.{mul-zero, mul-suc}
use native.Mathlib.Omega.{arith}
use lib.Dec.{T}
use lib.Ieee.{Float, fits, is_nan}
use lib.Ieee.Fits.{and_l, and_r}
use lib.ListN.{length, take, drop, length-drop, length-append}
use lib.Seq.{take-add, drop_at}
use Rattle.float_forms.specs.declared.forms.Form.{Form}
use Rattle.float_forms.specs.Forms.{size_of, format_of}
use Rattle.float_forms.specs.Bytes.{IsBytes, word_of, word_bytes, number_of, number_bytes, numbers_of, numbers_bytes, words_of, words_bytes}
use Rattle.float_forms.specs.Representable.{every, is_number, fits_in, representable}
use Rattle.float_forms.proofs.Numbers.{drop_bytes, word_back, word_length, word_below, word_bytes_lem, number_length, number_back}
use Rattle.float_forms.proofs.Numbers.{number_bytes_lem}

-- ---- lengths

pub numbers_count : (form : Form) (n : ℕ) (l : List ℕ) → length (numbers_of form n l) ≡ n
unfolding numbers_of
numbers_count form zero l = refl
numbers_count form (suc n) l = ap suc (numbers_count form n (drop (size_of form) l))

pub words_count : (n : ℕ) (l : List ℕ) → length (words_of n l) ≡ n
unfolding words_of
words_count zero l = refl
words_count (suc n) l = ap suc (words_count n (drop 4 l))

pub numbers_length : (form : Form) (xs : List Float) → length (numbers_bytes form xs) ≡ size_of form * length xs
unfolding numbers_bytes
numbers_length form [] = sym (mul-zero (size_of form))
numbers_length form (x ∷ xs) =
    let here : length (number_bytes form x ++ numbers_bytes form xs) ≡ length (number_bytes form x) + length (numbers_bytes form xs) =
    length-append (number_bytes form x) (numbers_bytes form xs) in
    omega (arith, here, number_length form x, numbers_length form xs, mul-suc (size_of form) (length xs))

pub words_length : (ws : List ℕ) → length (words_bytes ws) ≡ 4 * length ws
unfolding words_bytes
words_length [] = refl
words_length (w ∷ ws) = omega (arith, length-append (word_bytes w) (words_bytes ws), word_length w, words_length ws)

-- ---- what is representable

pub number_representable : (form : Form) (x : Float) → T (representable form x) → T (not (is_nan x))
unfolding representable
number_representable form x h = and_l (not (is_nan x)) (fits (format_of form) x) h

pub fits_representable : (form : Form) (x : Float) → T (representable form x) → T (fits (format_of form) x)
unfolding representable
fits_representable form x h = and_r (not (is_nan x)) (fits (format_of form) x) h

module _ (test : Float → Bool) (x : Float) (xs : List Float) (h : T (every test (x ∷ xs))) where
  pub first_of : T (test x)
  unfolding every
  first_of = and_l (test x) (every test xs) h

  pub rest_of : T (every test xs)
  unfolding every
  rest_of = and_r (test x) (every test xs) h

-- ---- floats

-- read what was written, whatever follows
pub numbers_back : (form : Form) (xs : List Float) (rest : List ℕ) → T (every (fits_in form) xs)
    → numbers_of form (length xs) (numbers_bytes form xs ++ rest) ≡ xs
unfolding numbers_of numbers_bytes
numbers_back form [] rest h = refl
numbers_back form (x ∷ xs) rest h =
    let after : drop (size_of form) (number_bytes form x ++ (numbers_bytes form xs ++ rest)) ≡ numbers_bytes form xs ++ rest
    = drop_at (number_bytes form x) (numbers_bytes form xs ++ rest) (size_of form) (number_length form x) in
    let fit : T (fits (format_of form) x) = first_of (fits_in form) x xs h in
    rw (
      append_assoc (number_bytes form x) (numbers_bytes form xs) rest,
      after,
      number_back form x (numbers_bytes form xs ++ rest) fit,
      numbers_back form xs rest (rest_of (fits_in form) x xs h),
    )

-- write what was read: the same bytes, where no float is NaN
pub numbers_bytes_lem : (form : Form) (n : ℕ) (l : List ℕ) → IsBytes l → size_of form * n ≤ length l
    → T (every is_number (numbers_of form n l))
    → numbers_bytes form (numbers_of form n l) ≡ take (size_of form * n) l
unfolding numbers_of numbers_bytes
numbers_bytes_lem form zero l b m h = rw mul-zero
numbers_bytes_lem form (suc n) l b m h =
    let s = size_of form in
    let longer : s * suc n ≡ s + s * n = omega (arith, mul-suc s n) in
    let enough : s * n ≤ length (drop s l) = omega (arith, longer, m, length-drop s l) in
    let here : number_bytes form (number_of form l) ≡ take s l
    = number_bytes_lem form l b (omega (arith, longer, m))
    (first_of is_number (number_of form l) (numbers_of form n (drop s l)) h) in
    let there : numbers_bytes form (numbers_of form n (drop s l)) ≡ take (s * n) (drop s l)
    = numbers_bytes_lem form n (drop s l) (drop_bytes s l b) enough
    (rest_of is_number (number_of form l) (numbers_of form n (drop s l)) h) in
    rw (here, there, longer) (sym (take-add s (s * n) l))

-- ---- u32

pub data AllWords : List ℕ → Type 0 where
  none : AllWords []
  more : {w : ℕ} {ws : List ℕ} → w < 0x1_0000_0000 → AllWords ws → AllWords (w ∷ ws)

pub words_below : (n : ℕ) (l : List ℕ) → IsBytes l → AllWords (words_of n l)
unfolding words_of
words_below zero l b = none
words_below (suc n) l b = more (word_below l b) (words_below n (drop 4 l) (drop_bytes 4 l b))

pub words_back : (ws : List ℕ) (rest : List ℕ) → AllWords ws → words_of (length ws) (words_bytes ws ++ rest) ≡ ws
unfolding words_of words_bytes
words_back [] rest none = refl
words_back (w ∷ ws) rest (more h hs) =
    let after : drop 4 (word_bytes w ++ (words_bytes ws ++ rest)) ≡ words_bytes ws
    ++ rest = drop_at (word_bytes w) (words_bytes ws ++ rest) 4
    (word_length w) in
    rw (append_assoc (word_bytes w) (words_bytes ws) rest, after, word_back w (words_bytes ws ++ rest) h, words_back ws rest hs)

pub words_bytes_lem : (n : ℕ) (l : List ℕ) → IsBytes l → 4 * n ≤ length l → words_bytes (words_of n l) ≡ take (4 * n) l
unfolding words_of words_bytes
words_bytes_lem zero l b m = refl
words_bytes_lem (suc n) l b m =
    let longer : 4 * suc n ≡ 4 + 4 * n = omega arith in
    let here : word_bytes (word_of l) ≡ take 4 l = word_bytes_lem l b (omega (arith, longer, m)) in
    let there : words_bytes (words_of n (drop 4 l)) ≡ take (4 * n) (drop 4 l) = words_bytes_lem n (drop 4 l) (drop_bytes 4 l b)
    (omega (arith, length-drop 4 l, m)) in
    rw (here, there, longer) (sym (take-add 4 (4 * n) l))

-- ---- the same, where a run stands at the front of a list

pub numbers_read : (form : Form) (xs : List Float) (rest l : List ℕ) (n : ℕ) → l ≡ numbers_bytes form xs ++ rest → length xs ≡ n
    → T (every (fits_in form) xs) → numbers_of form n l ≡ xs
numbers_read form xs rest l n e m h = rw (e, ← m) (numbers_back form xs rest h)

pub words_read : (ws rest l : List ℕ) (n : ℕ) → l ≡ words_bytes ws ++ rest → length ws ≡ n → AllWords ws → words_of n l ≡ ws
words_read ws rest l n e m h = rw (e, ← m) (words_back ws rest h)
