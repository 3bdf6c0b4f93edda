-- What `probe` does between its reads and its writes: the run, one step, and all steps. Definitions only. Assumes nothing.
use Rattle.std.specs.Prelude.{ℕ, suc, ◌+◌, ◌-◌, ◌<◌, ◌≤◌, min, ◌≡◌, Bool, true, false, not, ◌&&◌, List, [], ◌++◌, ltb, eqb}
use Rattle.std.specs.Prelude.{Option, Some, None, length, take, drop, IfSome}
use Rattle.std.specs.Io.KnownBytes.{Consumes, Appends, IsAtEnd}
use Rattle.records.specs.Output.{output_of}
use Rattle.record_stream.specs.declared.answers.Progress.{Progress}
use Rattle.record_stream.specs.Progress.{longest_record, MayCome, Answered, goes_on}
use Rattle.probe.specs.declared.runs.Run.{Run}

-- the length of the input area and of the output area
abbrev pub area_length : ℕ
area_length = 65536

-- no run reaches this record number
abbrev pub last_number : ℕ
last_number = 18446744073709486079

-- nor makes so many steps
abbrev pub most_steps : ℕ
most_steps = 18446744073709551615

-- ---- the run, carried from one call to the next

abbrev pub start_run : Run
start_run = record { held = 0; next = 1; filled = 0; ended = false; over = false; failed = false }

-- the input has not ended, and what is held may be less than a record
unfoldable pub reads_more : Run → Bool
reads_more run = not run.ended && ltb run.held longest_record

abbrev pub failed_run : Run → Run
failed_run run = record { held = run.held; next = run.next; filled = 0; ended = run.ended; over = true; failed = true }

-- By what a read into so many places answered: nothing where it failed, else how many bytes it gave. One that gives no byte is the end of
-- the input, and one that fails is not.
unfoldable pub after_read : Run → Option ℕ → ℕ → Run
after_read run None room = failed_run run
after_read run (Some k) room = record {
  held = run.held + min k room;
  next = run.next;
  filled = 0;
  ended = eqb (min k room) 0;
  over = false;
  failed = false;
}

abbrev pub next_run : Run → Progress → Run
next_run run done = record {
  held = run.held - done.used;
  next = done.next;
  filled = done.filled;
  ended = run.ended;
  over = done.over;
  failed = false;
}

abbrev pub after_write : Run → Bool → Run
after_write run true = run
after_write run false = failed_run run

-- ---- one step

-- the bytes that are held, at the front of the input area
abbrev pub held_of : Run → List ℕ → List ℕ
held_of run input = take run.held input

-- What reading does: nothing where enough is held or the input has ended. Else a read into the places behind what is held answers, and the
-- run goes by its answer.
pub data ReadOn (run : Run) (input : List ℕ) (ready : Run) (area : List ℕ) : Type 0 where
  idle : reads_more run ≡ false → ready ≡ run → area ≡ input → ReadOn run input ready area
  asked : (got : Option ℕ) → reads_more run ≡ true → ready ≡ after_read run got (length input - run.held)
      → held_of run area ≡ held_of run input → ReadOn run input ready area

-- the bytes that it read
abbrev pub read_bytes : Run → Run → List ℕ → List ℕ
read_bytes run ready area = take (ready.held - run.held) (drop run.held area)

-- What answering does: `lines` are made of what is held, as many as can be, and what is left is held.
pub data Answers (run : Run) (input : List ℕ) (answered : Run) (last lines : List ℕ) : Type 0 where
  spent : last_number ≤ run.next → answered ≡ failed_run run → lines ≡ [] → Answers run input answered last lines
  made : (done : Progress) → run.next < last_number
      → Answered (held_of run input) run.ended run.next area_length lines done.used done.next done.over
      → length lines ≡ done.filled → goes_on done run.ended (length (held_of run input)) area_length ≡ false
      → answered ≡ next_run run done → held_of answered last ≡ drop done.used (held_of run input)
      → Answers run input answered last lines

-- what the function that writes is called with: the lines that an answer made, all of them
pub record LinesOf (run : Run) (lines : List ℕ) : Type 0 where
  pub before : Run
  pub input : List ℕ
  pub last : List ℕ
  pub answers : Answers before input run last lines

pub record AfterWrite (run after : Run) : Type 0 where
  pub written : Bool
  pub is : after ≡ after_write run written

-- One step: `bytes` are read, and `lines` are handed to a write. After a read that failed nothing is.
pub data Stepped (run : Run) (input : List ℕ) (after : Run) (last bytes lines : List ℕ) : Type 0 where
  unread : ReadOn run input after last → after.failed ≡ true → bytes ≡ [] → lines ≡ [] → Stepped run input after last bytes lines
  stepped : (ready answered : Run) (area : List ℕ) → ReadOn run input ready area → ready.failed ≡ false
      → bytes ≡ read_bytes run ready area → Answers ready area answered last lines → AfterWrite answered after
      → Stepped run input after last bytes lines

pub record Step (run : Run) (input : List ℕ) (after : Run) (last : List ℕ) : Type 0 where
  pub bytes : List ℕ
  pub lines : List ℕ
  pub stepped : Stepped run input after last bytes lines

-- ---- where the bytes of the reader and of the writer are known

-- a run for which the input has ended left no byte of the reader's
abbrev pub AtEnd : Run → Option (List ℕ) → Type 0
AtEnd run ahead = run.ended ≡ true → IsAtEnd ahead

-- what a step does to a reader and a writer: its bytes are the reader's next ones, and its lines, unless it failed, are what the writer
-- took
pub record StepMoves (run : Run) (input : List ℕ) (after : Run) (last : List ℕ) (ahead left before written : Option (List ℕ)) : Type 0 where
  pub step : Step run input after last
  pub reads : Consumes ahead left step.bytes
  pub writes : after.failed ≡ false → Appends before written step.lines

-- A run that is over and that no failure ended has put out the output for all that the reader had, also for what it left behind a malformed
-- record.
abbrev pub PutsOut : Run → Option (List ℕ) → Option (List ℕ) → Option (List ℕ) → Type 0
PutsOut run ahead before written =
    run.over ≡ true → run.failed ≡ false → IfSome ahead (λ bytes. Appends before written (output_of bytes))

-- ---- all steps

-- so many steps from the start, all the bytes that they read, and all the lines that they handed to writes
pub data Steps : ℕ → List ℕ → List ℕ → Run → List ℕ → Type 0 where
  none : {input : List ℕ} → Steps 0 [] [] start_run input
  more : {count : ℕ} {bytes lines : List ℕ} {run : Run} {input : List ℕ} {after : Run} {last : List ℕ}
      → Steps count bytes lines run input → run.over ≡ false → (s : Step run input after last)
      → Steps (suc count) (bytes ++ s.bytes) (lines ++ s.lines) after last

-- one text is the front of another
pub record Front (front whole : List ℕ) : Type 0 where
  pub rest : List ℕ
  pub is : whole ≡ front ++ rest

-- What a whole run does: it takes steps until it is over. Where nothing failed, the lines are the output for all that was read. In any case
-- they are the front of the output for what was read and whatever may follow it.
pub record Finished (run : Run) : Type 0 where
  pub count : ℕ
  pub bytes : List ℕ
  pub lines : List ℕ
  pub input : List ℕ
  pub steps : Steps count bytes lines run input
  pub ends : run.over ≡ false → most_steps ≤ count
  pub whole : run.over ≡ true → run.failed ≡ false → lines ≡ output_of bytes
  pub front : (following : List ℕ) → MayCome run.ended following → Front lines (output_of (bytes ++ following))
