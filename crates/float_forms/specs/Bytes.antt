-- "Floats are 8 bytes and u32 4, all big-endian.": numbers at the front of a list of bytes, and the bytes of numbers. Definitions only.
-- Assumes nothing.
use Rattle.std.specs.Prelude.{ℕ, zero, suc, ◌+◌, ◌*◌, ◌/◌, ◌%◌, ◌<◌, List, [], ◌∷◌, ◌++◌, Float, get_or, drop}
use Rattle.std.specs.Float.Ieee.{of_bits, to_bits}
use Rattle.float_forms.specs.declared.forms.Form.{Form}
use Rattle.float_forms.specs.declared.forms.Form.TheVariants.{First, Long, Short}
use Rattle.float_forms.specs.Forms.{size_of, format_of}

-- every element is a byte
pub record IsBytes (bytes : List ℕ) : Type 0 where
  pub below : (i : ℕ) → get_or bytes i 0 < 256

-- a u32: four bytes
unfoldable pub word_of : List ℕ → ℕ
word_of bytes = ((get_or bytes 0 0 * 256 + get_or bytes 1 0) * 256 + get_or bytes 2 0) * 256 + get_or bytes 3 0

unfoldable pub word_bytes : ℕ → List ℕ
word_bytes n = n / 256 / 256 / 256 % 256 ∷ (n / 256 / 256 % 256 ∷ (n / 256 % 256 ∷ (n % 256 ∷ [])))

-- a float's bit pattern: one u32 or two
unfoldable pub pattern_of : Form → List ℕ → ℕ
pattern_of First bytes = word_of bytes * 0x1_0000_0000 + word_of (drop 4 bytes)
pattern_of Long bytes = word_of bytes * 0x1_0000_0000 + word_of (drop 4 bytes)
pattern_of Short bytes = word_of bytes

unfoldable pub pattern_bytes : Form → ℕ → List ℕ
pattern_bytes First n = word_bytes (n / 0x1_0000_0000) ++ word_bytes (n % 0x1_0000_0000)
pattern_bytes Long n = word_bytes (n / 0x1_0000_0000) ++ word_bytes (n % 0x1_0000_0000)
pattern_bytes Short n = word_bytes n

-- a float
unfoldable pub number_of : Form → List ℕ → Float
number_of form bytes = of_bits (format_of form) (pattern_of form bytes)

unfoldable pub number_bytes : Form → Float → List ℕ
number_bytes form x = pattern_bytes form (to_bits (format_of form) x)

-- so many floats, one behind another
unfoldable pub numbers_of : Form → ℕ → List ℕ → List Float
numbers_of form zero bytes = []
numbers_of form (suc n) bytes = number_of form bytes ∷ numbers_of form n (drop (size_of form) bytes)

unfoldable pub numbers_bytes : Form → List Float → List ℕ
numbers_bytes form [] = []
numbers_bytes form (x ∷ xs) = number_bytes form x ++ numbers_bytes form xs

-- so many u32
unfoldable pub words_of : ℕ → List ℕ → List ℕ
words_of zero bytes = []
words_of (suc n) bytes = word_of bytes ∷ words_of n (drop 4 bytes)

unfoldable pub words_bytes : List ℕ → List ℕ
words_bytes [] = []
words_bytes (w ∷ ws) = word_bytes w ++ words_bytes ws
