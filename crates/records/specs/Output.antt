-- A stream of records: the whole output. Definitions only. Assumes nothing.
use Rattle.std.specs.Prelude.{ℕ, zero, suc, cond, List, [], ◌++◌, length, take, drop}
use Rattle.record_bytes.specs.Records.{is_record}
use Rattle.record_bytes.specs.Stream.{next_of}
use Rattle.record_bytes.specs.declared.stream.Found.{Found}
use Rattle.record_bytes.specs.declared.stream.Found.TheVariants.{Record, Cut, End}
use Rattle.records.specs.Lines.{line_of, bad_line}

-- the lines from a record number on, and none after a malformed record; each record takes four bytes at least, so `most` runs out last
unfoldable pub lines_from : ℕ → ℕ → List ℕ → Found → List ℕ
lines_from zero number bytes found = []
lines_from (suc most) number bytes End = []
lines_from (suc most) number bytes Cut = bad_line number
lines_from (suc most) number bytes (Record end) =
    cond (is_record (take end bytes))
    (line_of number (take end bytes) ++ lines_from most (suc number) (drop end bytes) (next_of (drop end bytes)))
    (bad_line number)

-- "Whole output": what `probe` writes for its standard input
unfoldable pub output_of : List ℕ → List ℕ
output_of bytes = lines_from (length bytes) 1 bytes (next_of bytes)
