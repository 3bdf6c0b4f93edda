-- What the functions over a run return, as their contracts say it. Assumes nothing.
use Prim.Native.Nat.{ℕ, ◌+◌, ◌-◌, ◌<◌, ◌≤◌}
use mathlib.Core.Path.{◌≡◌, refl, sym, ap, ◌∙◌}
use mathlib.Core.Bool.{Bool, true, false}
use mathlib.Core.List.{List, ◌++◌}
use native.Mathlib.Nat.{min-le_right}
use native.Mathlib.Omega.{arith}
use Rattle.std.specs.Prelude.{Option, Some, None}
use lib.ListN.{length, take, drop, length-drop}
use lib.Seq.{take-add, take_at, drop_at, length-take-le}
use borrow.Rule.Slice.PartMut.{mid_of, put_mid, take_put, same_len_mid}
use Rattle.record_stream.specs.declared.answers.Progress.{Progress}
use Rattle.record_stream.specs.Progress.{Answered, goes_on}
use Rattle.probe.specs.declared.runs.Run.{Run}
use Rattle.probe.specs.Runs.{last_number, reads_more, after_read, next_run, after_write, held_of, ReadOn, asked}
use Rattle.probe.specs.Runs.{Answers, made, AfterWrite}

read_held : (run ready : Run) (got : Option ℕ) (room most : ℕ) → ready ≡ after_read run got room → run.held + room ≤ most
    → ready.held ≤ most
unfolding after_read
read_held run ready None room most e h = omega (arith, ap (λ (r : Run). r.held) e)
read_held run ready (Some k) room most e h = omega (arith, ap (λ (r : Run). r.held) e, min-le_right k room)

rest_length : (area input : List ℕ) (held : ℕ) → length area ≡ length input
    → length (take (length area - held) (drop held area)) ≡ length input - held
rest_length area input held e = length-take-le _ _ (omega (arith, length-drop held area)) ∙ ap (λ (n : ℕ). n - held) e

-- the input area, with what a read left in its rest
abbrev pub area_after : Run → List ℕ → List ℕ → List ℕ
area_after run input rest = put_mid run.held (length input - run.held) input rest

-- A read was made, whatever it answered: what was held stays, and the run goes by the answer.
module _ (run ready : Run) (input rest : List ℕ) (got : Option ℕ) (held_in : run.held ≤ length input)
    (same : length rest ≡ length (mid_of run.held (length input - run.held) input))
    (is : ready ≡ after_read run got (length (take (length (area_after run input rest) - run.held)
    (drop run.held (area_after run input rest))))) where
  pub goes : ready ≡ after_read run got (length input - run.held)
  goes = is ∙ ap (after_read run got) (rest_length (area_after run input rest) input run.held
      (same_len_mid {X = ℕ} run.held (length input - run.held) input rest same))

  pub read_made : reads_more run ≡ true → ReadOn run input ready (area_after run input rest)
  read_made more = asked got more goes (take_put {X = ℕ} run.held (length input - run.held) input rest held_in)

  pub read_bound : length input ≡ 65536 → ready.held ≤ 65536
  read_bound whole = read_held run ready got (length input - run.held) 65536 goes (omega arith)

-- what is moved to the front is what was not used
front_left : (input : List ℕ) (held used : ℕ) → used ≤ held → held ≤ length input
    → take (held - used) (take (held - used) (drop used input) ++ drop (held - used) input) ≡ drop used (take held input)
front_left input held used low high =
    let n : held ≡ used + (held - used) = omega arith in
    let part = take (held - used) (drop used input) in
    let size : length part ≡ held - used = length-take-le (held - used) (drop used input) (omega (arith, length-drop used input)) in
    let whole : take held input ≡ take used input ++ part
    = ap (λ (k : ℕ). take k input) n ∙ take-add used (held - used) input in
    take_at part (drop (held - used) input) (held - used) size
    ∙ sym (ap (drop used) whole ∙ drop_at (take used input) part used (length-take-le used input (omega arith)))

module _ (run : Run) (input : List ℕ) (done : Progress) (out : List ℕ) (held_in : run.held ≤ length input) (whole : length out ≡ 65536)
    (a : Answered (held_of run input) run.ended run.next 65536 (take done.filled out) done.used done.next done.over) where
  pub used_held : done.used ≤ run.held
  used_held = omega (arith, a.within, length-take-le run.held input held_in)

  pub answers_made : (answered : Run) (last : List ℕ) → run.next < last_number → done.filled ≤ 65536
      → goes_on done run.ended (length (held_of run input)) 65536 ≡ false → answered ≡ next_run run done
      → last ≡ take (run.held - done.used) (drop done.used input) ++ drop (run.held - done.used) input
      → Answers run input answered last (take answered.filled out)
  answers_made answered last n f g e l =
      rw (e, l)
      (made done n a (length-take-le done.filled out (omega arith)) g refl
      (front_left input run.held done.used used_held held_in))

pub write_held : {run after : Run} → AfterWrite run after → after.held ≡ run.held
write_held {run} {after} w = go w.written w.is
  where
    go : (written : Bool) → after ≡ after_write run written → after.held ≡ run.held
    go true e = ap (λ (r : Run). r.held) e
    go false e = ap (λ (r : Run). r.held) e
