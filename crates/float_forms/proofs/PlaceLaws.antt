-- Numbers at a place of a list. Assumes nothing.
use Prim.Native.Nat.{ℕ, ◌+◌, ◌*◌, ◌/◌, ◌%◌, ◌<◌}
use native.Mathlib.Nat.{add_assoc}
use mathlib.Core.Path.{◌≡◌, refl, sym, ap, ◌∙◌}
use mathlib.Core.List.{List}
use native.Mathlib.Omega.{arith}
use lib.Ieee.{binary32, binary64, of_bits, div}
use lib.ListN.{get_or, drop}
use lib.Seq.{get_or-drop, drop-drop, sets}
use Rattle.lists.proofs.Runs.{sets_append}
use Rattle.arithmetic.proofs.RootCases.{zero_over_zero}
use Rattle.float_forms.specs.declared.forms.Form.TheVariants.{First, Long, Short}
use Rattle.float_forms.specs.Words.{byte_at, value_at}
use Rattle.float_forms.specs.Bytes.{word_of, word_bytes, pattern_of, pattern_bytes, number_of}
use Rattle.float_forms.proofs.Numbers.{word_length}
use Rattle.float_forms.proofs.Patterns.{nan_pattern, number_pattern}
use Rattle.float_forms.proofs.WordLaws.{bits_there, never_nothing}

pub word_at_place : (l : List ℕ) (p : ℕ)
    → word_of (drop p l) ≡ ((get_or l p 0 * 256 + get_or l (p + 1) 0) * 256 + get_or l (p + 2) 0) * 256 + get_or l (p + 3) 0
unfolding word_of
word_at_place l p = let here : p + 0 ≡ p = omega arith in simp (get_or-drop, here)

pub short_number_lem : (l : List ℕ) (p : ℕ) → number_of Short (drop p l) ≡ of_bits binary32 (word_of (drop p l))
unfolding number_of pattern_of
short_number_lem l p = refl

-- the value of eight bytes is the pattern of their two halves
pub value_is_pattern : (l : List ℕ) (p : ℕ) → value_at l p ≡ pattern_of Long (drop p l)
unfolding value_at pattern_of
value_is_pattern l p =
    let e : byte_at l (p + 4 + 1) ≡ byte_at l (p + 5) = ap (byte_at l) (add_assoc p 4 1) in
    let f : byte_at l (p + 4 + 2) ≡ byte_at l (p + 6) = ap (byte_at l) (add_assoc p 4 2) in
    let g : byte_at l (p + 4 + 3) ≡ byte_at l (p + 7) = ap (byte_at l) (add_assoc p 4 3) in
    rw (drop-drop 4 p l) (omega (arith, word_at_place l p, word_at_place l (p + 4), e, f, g))

pub long_read : (l : List ℕ) (p bits : ℕ) → bits ≡ value_at l p → of_bits binary64 bits ≡ number_of Long (drop p l)
unfolding number_of
long_read l p bits e = ap (of_bits binary64) (e ∙ value_is_pattern l p)

pub nan_read : (l : List ℕ) (p bits : ℕ) → bits ≡ value_at l p → 0x7ff0_0000_0000_0000 < bits % 0x8000_0000_0000_0000
    → div binary64 (of_bits binary64 0) (of_bits binary64 0) ≡ number_of Long (drop p l)
nan_read l p bits e h = zero_over_zero ∙ (sym (nan_pattern binary64 bits h) ∙ long_read l p bits e)

-- a float of version 1 is read, and written, as one of version 2
pub first_number : (l : List ℕ) → number_of Long l ≡ number_of First l
unfolding number_of pattern_of
first_number l = refl

pub first_bytes : (bits : ℕ) → pattern_bytes Long bits ≡ pattern_bytes First bits
unfolding pattern_bytes
first_bytes bits = refl

-- ---- writing

pub put_long : (l after last : List ℕ) (p n : ℕ) → after ≡ sets l p (word_bytes (n / 0x1_0000_0000))
    → last ≡ sets after (p + 4) (word_bytes (n % 0x1_0000_0000))
    → last ≡ sets l p (pattern_bytes Long n)
unfolding pattern_bytes
put_long l after last p n e f =
    f ∙ (rw (e, ← word_length (n / 0x1_0000_0000)) (sym (sets_append l p (word_bytes (n / 0x1_0000_0000))
    (word_bytes (n % 0x1_0000_0000)))))

pub put_short : (l last : List ℕ) (p n : ℕ) → last ≡ sets l p (word_bytes n) → last ≡ sets l p (pattern_bytes Short n)
unfolding pattern_bytes
put_short l last p n e = e

-- ---- for `float_forms::bytes::long_at`

pub ruleset long_reads = (bits_there, never_nothing, number_pattern, long_read, nan_read)
