-- What is written for the input so far, and what for the bytes that follow. Definitions only. Assumes nothing.
use Rattle.std.specs.Prelude.{ℕ, ◌+◌, ◌≤◌, ◌≡◌, Bool, true, false, not, ◌&&◌, ◌||◌, leb, List, [], ◌++◌, length, take, drop}
use Rattle.record_bytes.specs.Records.{is_record}
use Rattle.record_text.specs.Text.{Put}
use Rattle.records.specs.Lines.{line_of, bad_line}
use Rattle.record_bytes.specs.Stream.{next_of}
use Rattle.records.specs.Output.{lines_from}
use Rattle.record_bytes.specs.declared.stream.Found.{Found}
use Rattle.record_bytes.specs.declared.stream.Found.TheVariants.{Record, Cut, End}
use Rattle.record_stream.specs.declared.answers.Progress.{Progress}

-- the whole output for a stream whose first record has that number; document 01's `output_of` is the one from 1
unfoldable pub output_from : ℕ → List ℕ → List ℕ
output_from number bytes = lines_from (length bytes) number bytes (next_of bytes)

-- and nothing after a run that is over
unfoldable pub output_after : Bool → ℕ → List ℕ → List ℕ
output_after true number bytes = []
output_after false number bytes = output_from number bytes

-- where the input has ended, nothing more comes
abbrev pub MayCome : Bool → List ℕ → Type 0
MayCome ended more = ended ≡ true → more ≡ []

-- a line has at most 114 bytes, a record at most 8,196
abbrev pub longest_line : ℕ
longest_line = 114

abbrev pub longest_record : ℕ
longest_record = 8196

-- one record at the front of the input: its line, the bytes that it takes, the next number, and whether no record follows
pub record Step : Type 0 where
  pub line : List ℕ
  pub taken : ℕ
  pub number : ℕ
  pub last : Bool

unfoldable pub step_of : ℕ → List ℕ → Found → Step
step_of number input End = record { line = []; taken = 0; number = number; last = true }
step_of number input Cut = record { line = bad_line number; taken = 0; number = number; last = true }
step_of number input (Record end) = record {
  line = line_of number (take end input);
  taken = end;
  number = number + 1;
  last = not (is_record (take end input));
}

-- what a step does to the progress and to the output area
pub record Stepped (t : Step) (before after : Progress) (out last : List ℕ) : Type 0 where
  pub put : Put out before.filled t.line last after.filled
  pub used : after.used ≡ before.used + t.taken
  pub next : after.next ≡ t.number
  pub over : after.over ≡ t.last

-- The input, from a record number on, is answered: whatever comes, the output for all is the lines followed by the output for what
-- is left. No line is made of nothing: where no byte is used and the run goes on, there is none.
pub record Answered (input : List ℕ) (ended : Bool) (number room : ℕ) (lines : List ℕ) (used next : ℕ) (over : Bool) : Type 0 where
  pub within : used ≤ length input
  pub fits : length lines ≤ room
  pub begun : over ≡ false → used ≡ 0 → lines ≡ []
  pub output : (more : List ℕ) → MayCome ended more
      → output_from number (input ++ more) ≡ lines ++ output_after over next (drop used input ++ more)

-- whether another record is answered
unfoldable pub goes_on : Progress → Bool → ℕ → ℕ → Bool
goes_on s ended length room =
    not s.over && (leb (s.filled + longest_line) room && (ended || leb (s.used + longest_record) length))
