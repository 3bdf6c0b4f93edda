-- Numbers from bytes and bytes from numbers are each other's inverse. Assumes nothing.
use Prim.Native.Nat.{ℕ, ◌+◌, ◌*◌, ◌/◌, ◌%◌, ◌<◌, ◌≤◌}
use mathlib.Core.Path.{◌≡◌, refl, sym, ap, ◌∙◌}
use mathlib.Core.Bool.{not}
use mathlib.Core.List.{List, [], ◌∷◌, ◌++◌, append_assoc}
use native.Mathlib.Omega.{arith}
use lib.Dec.{T}
use lib.Ieee.{Float, top, binary64, of_bits, to_bits, fits, is_nan}
use lib.Ieee.Bits.{of_bits-to_bits, to_bits-of_bits, to_bits-lt, of_bits-fits}
use lib.ListN.{length, take, drop, length-drop}
use lib.Seq.{get_or-drop, take-add, drop_at}
use Rattle.float_forms.specs.declared.forms.Form.{Form}
use Rattle.float_forms.specs.declared.forms.Form.TheVariants.{First, Long, Short}
use Rattle.float_forms.specs.Forms.{size_of, format_of}
use Rattle.float_forms.specs.Bytes.{IsBytes, word_of, word_bytes, pattern_of, pattern_bytes, number_of, number_bytes}

pub drop_bytes : (n : ℕ) (l : List ℕ) → IsBytes l → IsBytes (drop n l)
drop_bytes n l b = record { below = λ i. rw get_or-drop (b.below (n + i)) }

-- ---- four bytes

pub word_back : (n : ℕ) (rest : List ℕ) → n < 0x1_0000_0000 → word_of (word_bytes n ++ rest) ≡ n
unfolding word_of word_bytes
word_back n rest h = omega arith

pub word_length : (n : ℕ) → length (word_bytes n) ≡ 4
unfolding word_bytes
word_length n = refl

pub word_below : (l : List ℕ) → IsBytes l → word_of l < 0x1_0000_0000
unfolding word_of
word_below l b = omega (arith, b.below 0, b.below 1, b.below 2, b.below 3)

four : {a b c d x y z w : ℕ} → a ≡ x → b ≡ y → c ≡ z → d ≡ w → ◌≡◌ {A = List ℕ} (a ∷ (b ∷ (c ∷ (d ∷ [])))) (x ∷ (y ∷ (z ∷ (w ∷ []))))
four p q r s = cc

first_four : (a b c d : ℕ) (l : List ℕ) → a < 256 → b < 256 → c < 256 → d < 256
    → word_bytes (word_of (a ∷ (b ∷ (c ∷ (d ∷ l))))) ≡ a ∷ (b ∷ (c ∷ (d ∷ [])))
unfolding word_of word_bytes
first_four a b c d l ha hb hc hd = four (omega arith) (omega arith) (omega arith) (omega arith)

pub word_bytes_lem : (l : List ℕ) → IsBytes l → 4 ≤ length l → word_bytes (word_of l) ≡ take 4 l
word_bytes_lem [] g n = absurd (omega (arith, n))
word_bytes_lem (a ∷ []) g n = absurd (omega (arith, n))
word_bytes_lem (a ∷ (b ∷ [])) g n = absurd (omega (arith, n))
word_bytes_lem (a ∷ (b ∷ (c ∷ []))) g n = absurd (omega (arith, n))
word_bytes_lem (a ∷ (b ∷ (c ∷ (d ∷ l)))) g n = first_four a b c d l (g.below 0) (g.below 1) (g.below 2) (g.below 3)

-- ---- a float's pattern

pub pattern_length : (form : Form) (n : ℕ) → length (pattern_bytes form n) ≡ size_of form
unfolding pattern_bytes word_bytes
pattern_length First n = refl
pattern_length Long n = refl
pattern_length Short n = refl

two_below : (l : List ℕ) → IsBytes l → word_of l * 0x1_0000_0000 + word_of (drop 4 l) < 2 * top binary64
two_below l b = omega (arith, word_below l b, word_below (drop 4 l) (drop_bytes 4 l b))

pub pattern_below : (form : Form) (l : List ℕ) → IsBytes l → pattern_of form l < 2 * top (format_of form)
unfolding pattern_of
pattern_below First l b = two_below l b
pattern_below Long l b = two_below l b
pattern_below Short l b = word_below l b

halves : (n : ℕ) (rest : List ℕ) → n < 2 * top binary64
    → word_of ((word_bytes (n / 0x1_0000_0000) ++ word_bytes (n % 0x1_0000_0000)) ++ rest) * 0x1_0000_0000
    + word_of (drop 4 ((word_bytes (n / 0x1_0000_0000) ++ word_bytes (n % 0x1_0000_0000)) ++ rest)) ≡ n
halves n rest h =
    let high = word_bytes (n / 0x1_0000_0000) in
    let low = word_bytes (n % 0x1_0000_0000) in
    let upper : n / 0x1_0000_0000 < 0x1_0000_0000 = omega (arith, h) in
    let lower : n % 0x1_0000_0000 < 0x1_0000_0000 = omega arith in
    let behind : drop 4 (high ++ (low ++ rest)) ≡ low ++ rest = drop_at high (low ++ rest) 4 (word_length (n / 0x1_0000_0000)) in
    rw (append_assoc high low rest, behind, word_back (n / 0x1_0000_0000) (low ++ rest) upper, word_back (n % 0x1_0000_0000) rest lower)
    (omega arith)

pub pattern_back : (form : Form) (n : ℕ) (rest : List ℕ) → n < 2 * top (format_of form) → pattern_of form (pattern_bytes form n ++ rest) ≡ n
unfolding pattern_of pattern_bytes
pattern_back First n rest h = halves n rest h
pattern_back Long n rest h = halves n rest h
pattern_back Short n rest h = word_back n rest h

two_bytes : (l : List ℕ) → IsBytes l → 8 ≤ length l
    → word_bytes ((word_of l * 0x1_0000_0000 + word_of (drop 4 l)) / 0x1_0000_0000) ++ word_bytes
    ((word_of l * 0x1_0000_0000 + word_of (drop 4 l)) % 0x1_0000_0000) ≡ take 8 l
two_bytes l b n =
    let high : word_of l < 0x1_0000_0000 = word_below l b in
    let low : word_of (drop 4 l) < 0x1_0000_0000 = word_below (drop 4 l) (drop_bytes 4 l b) in
    let upper : (word_of l * 0x1_0000_0000 + word_of (drop 4 l)) / 0x1_0000_0000 ≡ word_of l = omega arith in
    let lower : (word_of l * 0x1_0000_0000 + word_of (drop 4 l)) % 0x1_0000_0000 ≡ word_of (drop 4 l) = omega arith in
    let enough : 4 ≤ length (drop 4 l) = omega (arith, n, length-drop 4 l) in
    rw (upper, lower, word_bytes_lem l b (omega (arith, n)), word_bytes_lem (drop 4 l) (drop_bytes 4 l b) enough) (sym (take-add 4 4 l))

pub pattern_bytes_lem : (form : Form) (l : List ℕ) → IsBytes l → size_of form ≤ length l
    → pattern_bytes form (pattern_of form l) ≡ take (size_of form) l
unfolding pattern_of pattern_bytes
pattern_bytes_lem First l b n = two_bytes l b n
pattern_bytes_lem Long l b n = two_bytes l b n
pattern_bytes_lem Short l b n = word_bytes_lem l b n

-- ---- a float

pub number_length : (form : Form) (x : Float) → length (number_bytes form x) ≡ size_of form
unfolding number_bytes
number_length form x = pattern_length form (to_bits (format_of form) x)

-- read what was written
pub number_back : (form : Form) (x : Float) (rest : List ℕ) → T (fits (format_of form) x) → number_of form (number_bytes form x ++ rest) ≡ x
unfolding number_of number_bytes
number_back form x rest f =
    ap (of_bits (format_of form)) (pattern_back form (to_bits (format_of form) x) rest (to_bits-lt (format_of form) x f)) ∙ of_bits-to_bits
    (format_of form) x f

-- write what was read: the same bytes, but for a NaN
pub number_bytes_lem : (form : Form) (l : List ℕ) → IsBytes l → size_of form ≤ length l → T (not (is_nan (number_of form l)))
    → number_bytes form (number_of form l) ≡ take (size_of form) l
unfolding number_of number_bytes
number_bytes_lem form l b n f =
    ap (pattern_bytes form) (to_bits-of_bits (format_of form) (pattern_of form l) (pattern_below form l b) f) ∙ pattern_bytes_lem form l b n

pub number_fits : (form : Form) (l : List ℕ) → T (fits (format_of form) (number_of form l))
unfolding number_of
number_fits form l = of_bits-fits (format_of form) (pattern_of form l)
