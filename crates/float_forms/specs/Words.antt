-- "the big-endian value of the eight bytes there, and nothing exactly where fewer are left" (document 02, M-108). Definitions only. Assumes
-- nothing.
use Rattle.std.specs.Prelude.{ℕ, ◌+◌, ◌*◌, cond, List, Option, Some, None, leb, get_or, length}

-- what each case of the code's answer says: the value, or nothing
pub data Read : Type 0 where
  value : ℕ → Read
  nothing : Read

abbrev pub says : Option ℕ → Read
says (Some bits) = value bits
says None = nothing

abbrev pub byte_at : List ℕ → ℕ → ℕ
byte_at bytes place = get_or bytes place 0

-- the sum of the eight bytes' values from a place on: the first counts 2^56, the last 1
unfoldable pub value_at : List ℕ → ℕ → ℕ
value_at bytes place =
    byte_at bytes place * 0x100_0000_0000_0000 + byte_at bytes (place + 1) * 0x1_0000_0000_0000
    + byte_at bytes (place + 2) * 0x100_0000_0000 + byte_at bytes (place + 3) * 0x1_0000_0000
    + byte_at bytes (place + 4) * 0x100_0000 + byte_at bytes (place + 5) * 0x1_0000
    + byte_at bytes (place + 6) * 0x100 + byte_at bytes (place + 7)

unfoldable pub word_at : List ℕ → ℕ → Read
word_at bytes place = cond (leb (place + 8) (length bytes)) (value (value_at bytes place)) nothing
