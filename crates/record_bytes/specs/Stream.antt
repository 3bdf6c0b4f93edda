-- A stream of records: where the first one ends. Definitions only. Assumes nothing.
use Rattle.std.specs.Prelude.{ℕ, ◌+◌, cond, List, ltb, eqb, length}
use Rattle.float_forms.specs.Bytes.{word_of}
use Rattle.record_bytes.specs.Records.{longest}
use Rattle.record_bytes.specs.declared.stream.Found.{Found}
use Rattle.record_bytes.specs.declared.stream.Found.TheVariants.{Record, Cut, End}

-- "4-byte big-endian length of the rest (at most 8,192)": no record, one that is "cut short, over length", or one of so many bytes, its
-- length's four among them
unfoldable pub next_of : List ℕ → Found
next_of bytes =
    cond (eqb (length bytes) 0) End
    (cond (ltb (length bytes) 4) Cut
    (cond (ltb longest (word_of bytes)) Cut
    (cond (ltb (length bytes) (4 + word_of bytes)) Cut (Record (4 + word_of bytes)))))
