-- What the steps of `probe` hand to its writes is the output for what its reads gave. Assumes nothing.
use Prim.Native.Nat.{ℕ, min, ◌+◌, ◌-◌, ◌<◌, ◌≤◌}
use mathlib.Core.Path.{◌≡◌, refl, sym, ap, subst, ◌∙◌}
use mathlib.Core.Bool.{Bool, true, false, not, ◌&&◌, false≢true, true≢false}
use mathlib.Core.List.{List, [], ◌++◌, append_assoc, append-nil}
use native.Mathlib.Omega.{arith}
use lib.Dec.{ltb}
use borrow.Author.Tests.{ltb-true}
use Rattle.std.specs.Prelude.{Option, Some, None}
use lib.ListN.{length, take, drop}
use lib.Seq.{take-add}
use Rattle.records.specs.Output.{output_of}
use Rattle.record_stream.specs.declared.answers.Progress.{Progress}
use Rattle.record_stream.specs.Progress.{output_from, output_after, MayCome, Answered}
use Rattle.record_stream.proofs.StreamLaws.{output_is}
use Rattle.probe.specs.declared.runs.Run.{Run}
use Rattle.probe.specs.Runs.{most_steps, reads_more, failed_run, after_read, next_run, after_write, held_of}
use Rattle.probe.specs.Runs.{ReadOn, idle, asked, read_bytes, Answers, spent, made, AfterWrite, Stepped, unread, stepped}
use Rattle.probe.specs.Runs.{Steps, none, more, Front, Finished}

-- ---- what is left to do

-- the output for all that was read and what follows is the lines, and the output for what is held and what follows
pub record Exact (bytes lines : List ℕ) (run : Run) (left : List ℕ) : Type 0 where
  pub output : (following : List ℕ) → MayCome run.ended following
      → output_from 1 (bytes ++ following) ≡ lines ++ output_after run.over run.next (left ++ following)

-- the lines are its front
pub record Fronts (bytes lines : List ℕ) (ended : Bool) : Type 0 where
  pub front : (following : List ℕ) → MayCome ended following → Front lines (output_from 1 (bytes ++ following))

pub record Sound (bytes lines : List ℕ) (run : Run) (left : List ℕ) : Type 0 where
  pub fronts : Fronts bytes lines run.ended
  pub exact : run.failed ≡ false → Exact bytes lines run left
  pub untouched : run.over ≡ false → run.failed ≡ false

exact_fronts : {bytes lines : List ℕ} {run : Run} {left : List ℕ} → Exact bytes lines run left → Fronts bytes lines run.ended
exact_fronts x = record { front = λ following m. record { rest = _; is = x.output following m } }

-- nothing failed
goes_on : {bytes lines : List ℕ} {run : Run} {left : List ℕ} → Exact bytes lines run left → run.failed ≡ false
    → Sound bytes lines run left
goes_on x f = record { fronts = exact_fronts x; exact = λ h. x; untouched = λ h. f }

-- something failed: the lines are a front still
fails : {bytes lines : List ℕ} (run : Run) (left : List ℕ) → Fronts bytes lines run.ended → Sound bytes lines (failed_run run) left
fails run left f = record { fronts = f; exact = λ h. absurd (true≢false h); untouched = λ h. absurd (true≢false h) }

-- ---- reading

pub not_ended : (run : Run) → reads_more run ≡ true → run.ended ≡ false
unfolding reads_more
not_ended run h = go run.ended refl h
  where
    go : (b : Bool) → run.ended ≡ b → (not b && ltb run.held 8196) ≡ true → run.ended ≡ false
    go true e h = absurd (false≢true h)
    go false e h = e

pub few_held : (run : Run) → reads_more run ≡ true → run.held < 8196
unfolding reads_more
few_held run h = go run.ended (ltb run.held 8196) (ltb-true run.held 8196) h
  where
    go : (e b : Bool) → (b ≡ true → run.held < 8196) → (not e && b) ≡ true → run.held < 8196
    go true b f h = absurd (false≢true h)
    go false true f h = f refl
    go false false f h = absurd (false≢true h)

-- what a read gave stands behind what was held
held_grows : (held count : ℕ) (area input : List ℕ) → take held area ≡ take held input
    → take (held + count) area ≡ take held input ++ take (held + count - held) (drop held area)
held_grows held count area input e =
    let n : held + count - held ≡ count = omega arith in
    take-add held count area ∙ (rw (n, e))

-- a read that did not fail
pub record Given (run ready : Run) (count : ℕ) : Type 0 where
  pub grown : ready.held ≡ run.held + count
  pub same : ready.next ≡ run.next
  pub untouched : ready.over ≡ false

-- how many bytes it gave
read_count : Option ℕ → ℕ → ℕ
read_count (Some k) room = min k room
read_count None room = 0

given : (run ready : Run) (got : Option ℕ) (room : ℕ) → ready ≡ after_read run got room → ready.failed ≡ false
    → Given run ready (read_count got room)
unfolding after_read read_count
given run ready None room e f = absurd (true≢false (sym (ap (λ (r : Run). r.failed) e) ∙ f))
given run ready (Some k) room e f =
    record { grown = ap (λ (r : Run). r.held) e; same = ap (λ (r : Run). r.next) e; untouched = ap (λ (r : Run). r.over) e }

-- and one that did
not_given : (run ready : Run) (got : Option ℕ) (room : ℕ) → ready ≡ after_read run got room → ready.failed ≡ true
    → ready ≡ failed_run run
unfolding after_read
not_given run ready None room e f = e
not_given run ready (Some k) room e f = absurd (false≢true (sym (ap (λ (r : Run). r.failed) e) ∙ f))

module _ (bytes lines : List ℕ) (run : Run) (input : List ℕ) (x : Exact bytes lines run (held_of run input)) (o : run.over ≡ false) where
  read_none : Exact (bytes ++ read_bytes run run input) lines run (held_of run input)
  read_none =
      let n : run.held - run.held ≡ 0 = omega arith in
      let e : bytes ++ read_bytes run run input ≡ bytes
      = ap (λ (k : ℕ). bytes ++ take k (drop run.held input)) n ∙ append-nil bytes in
      subst (λ (z : List ℕ). Exact z lines run (held_of run input)) (sym e) x

  read_some : (area : List ℕ) (ready : Run) (count : ℕ) → run.ended ≡ false → Given run ready count → held_of run area ≡ held_of run input
      → Exact (bytes ++ read_bytes run ready area) lines ready (held_of ready area)
  read_some area ready count untouched g kept = record {
    output = λ following m.
        let new = read_bytes run ready area in
        let e : held_of ready area ≡ held_of run input ++ new = rw g.grown (held_grows run.held count area input kept) in
        let all : output_from 1 (bytes ++ (new ++ following))
        ≡ lines ++ output_after run.over run.next (held_of run input ++ (new ++ following))
        = x.output (new ++ following) (λ k. absurd (false≢true (sym untouched ∙ k))) in
        let held : held_of run input ++ (new ++ following) ≡ held_of ready area ++ following
        = sym (append_assoc (held_of run input) new following) ∙ ap (λ (z : List ℕ). z ++ following) (sym e) in
        let left : output_after run.over run.next (held_of run input ++ (new ++ following))
        ≡ output_after ready.over ready.next (held_of ready area ++ following)
        = ap (λ (b : Bool). output_after b run.next (held_of run input ++ (new ++ following))) (o ∙ sym g.untouched)
        ∙ (ap (λ (n : ℕ). output_after ready.over n (held_of run input ++ (new ++ following))) (sym g.same)
        ∙ ap (output_after ready.over ready.next) held) in
        ap (output_from 1) (append_assoc bytes new following) ∙ (all ∙ ap (λ (z : List ℕ). lines ++ z) left);
  }

  read_step : {ready : Run} {area : List ℕ} → ReadOn run input ready area → ready.failed ≡ false
      → Exact (bytes ++ read_bytes run ready area) lines ready (held_of ready area)
  read_step (idle h e a) f = rw (e, a) read_none
  read_step {ready} {area} (asked got h e k) f =
      read_some area ready _ (not_ended run h) (given run ready got (length input - run.held) e f) k

  read_untouched : {ready : Run} {area : List ℕ} → ReadOn run input ready area → ready.failed ≡ false → ready.over ≡ false
  read_untouched (idle h e a) f = ap (λ (r : Run). r.over) e ∙ o
  read_untouched {ready} (asked got h e k) f = (given run ready got (length input - run.held) e f).untouched

-- ---- answering

module _ (bytes lines : List ℕ) (run : Run) (input : List ℕ) (x : Exact bytes lines run (held_of run input)) (o : run.over ≡ false) where
  answered_exact : (done : Progress) (text : List ℕ)
      → Answered (held_of run input) run.ended run.next 65536 text done.used done.next done.over
      → Exact bytes (lines ++ text) (next_run run done) (drop done.used (held_of run input))
  unfolding output_after
  answered_exact done text a = record {
    output = λ following m.
        let held = held_of run input in
        let left : output_after run.over run.next (held ++ following)
        ≡ text ++ output_after done.over done.next (drop done.used held ++ following)
        = ap (λ (b : Bool). output_after b run.next (held ++ following)) o ∙ a.output following m in
        x.output following m ∙ (ap (λ (z : List ℕ). lines ++ z) left ∙ sym (append_assoc lines text _));
  }

  answer_step : {answered : Run} {last text : List ℕ} → Answers run input answered last text
      → Sound bytes (lines ++ text) answered (held_of answered last)
  answer_step (spent n e t) = rw (t, append-nil lines, e) (fails run _ (exact_fronts x))
  answer_step {answered} {last} {text} (made done n a c g e l) = rw (l, e) (goes_on (answered_exact done text a) refl)

-- ---- writing

write_step : (bytes lines last : List ℕ) (run after : Run) → Sound bytes lines run (held_of run last) → AfterWrite run after
    → Sound bytes lines after (held_of after last)
write_step bytes lines last run after p w = go w.written w.is
  where
    go : (written : Bool) → after ≡ after_write run written → Sound bytes lines after (held_of after last)
    go true e = rw e p
    go false e = rw e (fails run _ p.fronts)

-- ---- a step

-- a read that failed leaves the run but for its end
unread_is : (run : Run) (input : List ℕ) (after : Run) (last : List ℕ) → ReadOn run input after last → run.failed ≡ false
    → after.failed ≡ true → after ≡ failed_run run
unread_is run input after last (idle h e a) f t = absurd (false≢true (sym (ap (λ (r : Run). r.failed) e ∙ f) ∙ t))
unread_is run input after last (asked got h e k) f t = not_given run after got (length input - run.held) e t

step_progress : (bytes lines : List ℕ) (run : Run) (input : List ℕ) (after : Run) (last new text : List ℕ)
    → Sound bytes lines run (held_of run input) → run.over ≡ false → Stepped run input after last new text
    → Sound (bytes ++ new) (lines ++ text) after (held_of after last)
step_progress bytes lines run input after last new text p o (unread r f b t) =
    rw (b, t, append-nil bytes, append-nil lines, unread_is run input after last r (p.untouched o) f) (fails run _ p.fronts)
step_progress bytes lines run input after last new text p o (stepped ready answered area r f b a w) =
    let x : Exact (bytes ++ read_bytes run ready area) lines ready (held_of ready area)
    = read_step bytes lines run input (p.exact (p.untouched o)) o r f in
    let untouched : ready.over ≡ false = read_untouched bytes lines run input (p.exact (p.untouched o)) o r f in
    rw b
    (write_step (bytes ++ read_bytes run ready area) (lines ++ text) last answered after
    (answer_step (bytes ++ read_bytes run ready area) lines ready area x untouched a) w)

-- ---- all steps

pub steps_progress : {count : ℕ} {bytes lines : List ℕ} {run : Run} {input : List ℕ} → Steps count bytes lines run input
    → Sound bytes lines run (held_of run input)
unfolding output_after
steps_progress none = goes_on record { output = λ following m. refl } refl
steps_progress (more {count} {bytes} {lines} {run} {input} {after} {last} s o t) =
    step_progress bytes lines run input after last t.bytes t.lines (steps_progress s) o t.stepped

module _ {count : ℕ} {bytes lines : List ℕ} {run : Run} {input : List ℕ} (s : Steps count bytes lines run input) where
  -- also for what may follow, as behind a malformed record
  pub whole_following : run.over ≡ true → run.failed ≡ false → (following : List ℕ) → MayCome run.ended following
      → lines ≡ output_of (bytes ++ following)
  unfolding output_after
  whole_following o f following m =
      let done : output_from 1 (bytes ++ following) ≡ lines ++ output_after true run.next (held_of run input ++ following)
      = rw o at (((steps_progress s).exact f).output following m) in
      sym (sym (output_is (bytes ++ following)) ∙ (done ∙ append-nil lines))

  -- document 01's 'Whole output'
  pub whole_output : run.over ≡ true → run.failed ≡ false → lines ≡ output_of bytes
  whole_output o f = whole_following o f [] (λ e. refl) ∙ ap output_of (append-nil bytes)

  pub front_output : (following : List ℕ) → MayCome run.ended following → Front lines (output_of (bytes ++ following))
  front_output following m = subst (Front lines) (output_is (bytes ++ following)) ((steps_progress s).fronts.front following m)

  pub finished : (run.over ≡ false → most_steps ≤ count) → Finished run
  finished e = record {
    count = count;
    bytes = bytes;
    lines = lines;
    input = input;
    steps = s;
    ends = e;
    whole = whole_output;
    front = front_output;
  }

-- a run that is not over has made 2^64 - 1 steps, more than any that a machine makes
pub never_cut_short : (run : Run) (f : Finished run) → run.over ≡ false → 18446744073709551615 ≤ f.count
never_cut_short run f = f.ends
