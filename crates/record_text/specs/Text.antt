-- Numbers as text in ASCII, and a run of bytes stored in an area. Definitions only. Assumes nothing.
use Rattle.std.specs.Prelude.{ℕ, zero, suc, ◌+◌, ◌/◌, ◌%◌, ◌≡◌, cond, List, [], ◌∷◌, ◌++◌, ltb, Float, length}
use Rattle.std.specs.Float.{binary64}
use Rattle.std.specs.Float.Ieee.{to_bits, is_nan}
use Rattle.std.proofs.lemmas.List.Edits.{sets}

-- a digit below 16: `0` to `9`, then `a` to `f`
unfoldable pub glyph : ℕ → ℕ
glyph d = cond (ltb d 10) (48 + d) (87 + d)

-- the last k digits of n in a base, the most significant first
unfoldable pub digits : ℕ → ℕ → ℕ → List ℕ
digits base zero n = []
digits base (suc k) n = digits base k (n / base) ++ (glyph (n % base) ∷ [])

-- how many decimal digits n has, if no more than `most`
unfoldable pub places_of : ℕ → ℕ → ℕ
places_of zero n = 0
places_of (suc most) n = cond (ltb n 10) 1 (suc (places_of most (n / 10)))

-- in decimal; 20 digits hold every u64
unfoldable pub decimal : ℕ → List ℕ
decimal n = digits 10 (places_of 20 n) n

-- "hexadecimal bits": 16 digits
unfoldable pub hexadecimal : ℕ → List ℕ
hexadecimal n = digits 16 16 n

-- "`probe` prints the sign of zero."; "NaN as 7ff8000000000000", and else the bits
unfoldable pub printed_bits : Float → ℕ
printed_bits x = cond (is_nan x) 0x7ff8_0000_0000_0000 (to_bits binary64 x)

-- a text stored in an area from a place on, and the place behind it
pub record Put (area : List ℕ) (at : ℕ) (text : List ℕ) (after : List ℕ) (next : ℕ) : Type 0 where
  pub stored : after ≡ sets area at text
  pub behind : next ≡ at + length text
