-- What `probe` does where the bytes of the reader and of the writer are known. Assumes nothing.
use Rattle.std.proofs.Common.{◌≡◌, ℕ, ◌+◌, ◌-◌, ◌≤◌, min, Bool, true, false, List, [], ◌++◌, length, take, drop, None, Some}
use Rattle.std.proofs.Common.{IfSome, Ok, Err, sym, ap, subst, ◌∙◌, true≢false, arith, length-drop, length-take-le, drop_at}
use borrow.Author.Tests.{eqb-true}
use Rattle.std.proofs.Math.Nat.{min-eq_left}
use Rattle.std.proofs.lemmas.List.{take-append-le}
use Rattle.std.proofs.KnownBytes.{Consumes-nil, Appends-nil, Appends-trans, Consumes-trans}
use native.Mathlib.Numerals.{add-one}
use Rattle.std.specs.declared.option.Option.{Option}
use Rattle.std.specs.declared.result.Result.{Result}
use Rattle.std.specs.Result.{result_ok}
use borrow.Rule.Slice.PartMut.{post_of, mid_of}
use Rattle.std.specs.Io.{ReadsAtMost}
use Rattle.std.specs.Io.KnownBytes.{Consumes, Appends, Keeps, IsAtEnd, ReadConsumes}
use Rattle.records.specs.Output.{output_of}
use Rattle.probe.specs.declared.runs.Run.{Run}
use Rattle.probe.specs.Runs.{start_run, reads_more, after_read, after_write, read_bytes}
use Rattle.probe.specs.Runs.{ReadOn, idle, asked, Answers, spent, made, AfterWrite, AtEnd, StepMoves, PutsOut, Steps, none, more, Finished}
use Rattle.probe.proofs.Returns.{area_after}
use Rattle.probe.proofs.RunLaws.{not_ended, few_held, steps_progress, whole_following, finished}

-- ---- reading

-- nothing was read
keeps_none : (a b : Option (List ℕ)) → Keeps a b → Consumes a b []
keeps_none None b h = tt
keeps_none (Some xs) None h = absurd h
keeps_none (Some xs) (Some ys) h = sym h

none_read : (run ready : Run) (area : List ℕ) → ready.held ≡ run.held → read_bytes run ready area ≡ []
none_read run ready area e =
    let n : ready.held - run.held ≡ 0 = omega (arith, e) in
    ap (λ (k : ℕ). take k (drop run.held area)) n

-- a read that failed gave nothing
pub failed_reads_none : (run ready : Run) (input area : List ℕ) → ReadOn run input ready area → ready.failed ≡ true
    → read_bytes run ready area ≡ []
unfolding after_read
failed_reads_none run ready input area (idle h e a) f = none_read run ready area (ap (λ (r : Run). r.held) e)
failed_reads_none run ready input area (asked None h e a) f = none_read run ready area (ap (λ (r : Run). r.held) e)
failed_reads_none run ready input area (asked (Some k) h e a) f =
    absurd (true≢false (sym f ∙ ap (λ (r : Run). r.failed) e))

module _ (run ready : Run) (input rest : List ℕ) (held_in : run.held ≤ length input)
    (same : length rest ≡ length (mid_of run.held (length input - run.held) input)) where
  rest_size : length rest ≡ length input - run.held
  rest_size = same ∙ length-take-le _ _ (omega (arith, length-drop run.held input))

  -- it gave the first bytes of what stands in the rest
  given_bytes : (count : ℕ) → count ≤ length rest → ready ≡ after_read run (Some count) (length input - run.held)
      → read_bytes run ready (area_after run input rest) ≡ take count rest
  unfolding after_read
  given_bytes count fits e =
      let all : min count (length input - run.held) ≡ count = min-eq_left (omega (arith, rest_size)) in
      let size : ready.held - run.held ≡ count = omega (arith, ap (λ (r : Run). r.held) e, all) in
      let tail : List ℕ = rest ++ post_of run.held (length input - run.held) input in
      ap (λ (k : ℕ). take k (drop run.held (area_after run input rest))) size
      ∙ ap (take count) (drop_at (take run.held input) tail run.held (length-take-le run.held input held_in))
      ∙ take-append-le count rest (post_of run.held (length input - run.held) input) fits

  -- and none but at the end of the input
  given_none : (count : ℕ) → count ≤ length rest → ready ≡ after_read run (Some count) (length input - run.held)
      → ready.ended ≡ true → count ≡ 0
  unfolding after_read
  given_none count fits e h =
      let all : min count (length input - run.held) ≡ count = min-eq_left (omega (arith, rest_size)) in
      sym all ∙ eqb-true _ 0 (sym (ap (λ (r : Run). r.ended) e) ∙ h)

  module _ {E : Type 0} (r : Result ℕ E) (ahead left : Option (List ℕ)) (fits : ReadsAtMost r rest) (c : ReadConsumes ahead left r rest)
      (is : ready ≡ after_read run (result_ok r) (length input - run.held)) where
    pub read_consumes : Consumes ahead left (read_bytes run ready (area_after run input rest))
    unfolding after_read
    read_consumes = go r fits c is
      where
        go : (r : Result ℕ E) → ReadsAtMost r rest → ReadConsumes ahead left r rest
            → ready ≡ after_read run (result_ok r) (length input - run.held)
            → Consumes ahead left (read_bytes run ready (area_after run input rest))
        go (Ok count) f c is = subst (Consumes ahead left) (sym (given_bytes count f.0 is)) c.0
        go (Err e) f c is =
            subst (Consumes ahead left) (sym (none_read run ready _ (ap (λ (r : Run). r.held) is))) (keeps_none ahead left c)

    pub read_ends : reads_more run ≡ true → length input ≡ 65536 → AtEnd ready left
    unfolding after_read
    read_ends reads whole h = go r fits c is
      where
        go : (r : Result ℕ E) → ReadsAtMost r rest → ReadConsumes ahead left r rest
            → ready ≡ after_read run (result_ok r) (length input - run.held) → IsAtEnd left
        go (Ok count) f c is = c.1 (given_none count f.0 is h) (omega (arith, rest_size, whole, few_held run reads))
        go (Err e) f c is = absurd (true≢false (sym h ∙ ap (λ (r : Run). r.ended) is ∙ not_ended run reads))

-- ---- a step

-- answering and writing leave the end as it is
pub answers_ended : {run : Run} {input : List ℕ} {answered : Run} {last lines : List ℕ} → Answers run input answered last lines
    → answered.ended ≡ run.ended
answers_ended (spent h e t) = ap (λ (r : Run). r.ended) e
answers_ended (made done h a c g e l) = ap (λ (r : Run). r.ended) e

pub write_ended : {run after : Run} → AfterWrite run after → after.ended ≡ run.ended
write_ended {run} {after} w = go w.written w.is
  where
    go : (written : Bool) → after ≡ after_write run written → after.ended ≡ run.ended
    go true e = ap (λ (r : Run). r.ended) e
    go false e = ap (λ (r : Run). r.ended) e

pub same_end : (run after : Run) (left : Option (List ℕ)) → after.ended ≡ run.ended → AtEnd run left → AtEnd after left
same_end run after left e a h = a (sym e ∙ h)

-- ---- all steps

-- so many steps were made: what they read and wrote
pub record Moves (count : ℕ) (run : Run) (input : List ℕ) (ahead left before written : Option (List ℕ)) : Type 0 where
  pub bytes : List ℕ
  pub lines : List ℕ
  pub steps : Steps count bytes lines run input
  pub reads : Consumes ahead left bytes
  pub writes : run.failed ≡ false → Appends before written lines
  pub end : AtEnd run left

pub moves_none : (run : Run) (input : List ℕ) (ahead before : Option (List ℕ)) → run ≡ start_run
    → Moves 0 run input ahead ahead before before
moves_none run input ahead before e = rw e record {
  bytes = [];
  lines = [];
  steps = none;
  reads = Consumes-nil ahead;
  writes = λ h. Appends-nil before;
  end = λ h. absurd (true≢false (sym h));
}

pub moves_more : {count : ℕ} {run after : Run} {input last : List ℕ} {ahead between left before amid written : Option (List ℕ)}
    → Moves count run input ahead between before amid → run.over ≡ false
    → StepMoves run input after last between left amid written → (AtEnd run between → AtEnd after left)
    → Moves (count + 1) after last ahead left before written
moves_more {count} {run} {after} {input} {last} {ahead} {between} {left} {before} {amid} {written} m o s e = rw (add-one count) record {
  bytes = m.bytes ++ s.step.bytes;
  lines = m.lines ++ s.step.lines;
  steps = more m.steps o s.step;
  reads = Consumes-trans ahead between left m.bytes s.step.bytes m.reads s.reads;
  writes = λ h. Appends-trans before amid written m.lines s.step.lines
      (m.writes ((steps_progress m.steps).untouched o)) (s.writes h);
  end = e m.end;
}

pub moves_finished : {count : ℕ} {run : Run} {input : List ℕ} {ahead left before written : Option (List ℕ)}
    → Moves count run input ahead left before written → (run.over ≡ false → 18446744073709551615 ≤ count) → Finished run
moves_finished m e = finished m.steps e

-- the lines are the output for all that the reader had
pub moves_output : {count : ℕ} {run : Run} {input : List ℕ} {ahead left before written : Option (List ℕ)}
    → Moves count run input ahead left before written → PutsOut run ahead before written
moves_output {count} {run} {input} {ahead} {left} {before} {written} m o f = go ahead left m.reads m.end
  where
    go : (ahead left : Option (List ℕ)) → Consumes ahead left m.bytes → AtEnd run left
        → IfSome ahead (λ bytes. Appends before written (output_of bytes))
    go None left c e = tt
    go (Some all) None c e = absurd c
    go (Some all) (Some behind) c e =
        subst (Appends before written) (whole_following m.steps o f behind e ∙ ap output_of (sym c)) (m.writes f)
