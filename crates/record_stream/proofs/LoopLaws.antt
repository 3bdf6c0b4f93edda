-- The loop over the records of the input: each step keeps what is written, and what is left gives the whole. Assumes nothing.
use Prim.Native.Nat.{ℕ, suc, ◌+◌, ◌-◌, ◌<◌, ◌≤◌}
use mathlib.Core.Path.{◌≡◌, refl, sym, ap, subst, ◌∙◌}
use mathlib.Core.Bool.{Bool, true, false, not, cond, ◌&&◌, ◌||◌, false≢true, true≢false}
use mathlib.Core.List.{List, ◌++◌, append_assoc}
use native.Mathlib.Omega.{arith}
use borrow.Author.Tests.{leb-true}
use lib.Dec.{leb}
use lib.ListN.{length, take, drop, length-append, length-drop}
use lib.Seq.{length-take-le, take_at, sets-eq, drop-drop}
use Rattle.record_bytes.specs.Stream.{next_of}
use Rattle.record_bytes.specs.declared.stream.Found.{Found}
use Rattle.record_bytes.specs.declared.stream.Found.TheVariants.{Record, Cut, End}
use Rattle.record_bytes.proofs.Frames.{next_within}
use Rattle.records.proofs.Lengths.{length_line, length_bad_line}
use Rattle.record_stream.specs.declared.answers.Progress.{Progress}
use Rattle.record_stream.specs.Progress.{output_from, output_after, MayCome, Step, step_of, Stepped, goes_on, Answered}
use Rattle.record_stream.proofs.StreamLaws.{Enough, all, long}
use Rattle.record_stream.proofs.StepLaws.{step_output}

-- ---- what a step takes and writes

pub record Fair (number : ℕ) (input : List ℕ) (t : Step) : Type 0 where
  pub short : length t.line ≤ 114
  pub inside : t.taken ≤ length input
  pub grows : t.last ≡ false → (4 ≤ t.taken) × (t.number ≡ number + 1)

pub step_fair : (number : ℕ) (input : List ℕ) (found : Found) → next_of input ≡ found → Fair number input (step_of number input found)
unfolding step_of
step_fair number input End e = record { short = omega arith; inside = omega arith; grows = λ h. absurd (true≢false h) }
step_fair number input Cut e = record { short = length_bad_line number; inside = omega arith; grows = λ h. absurd (true≢false h) }
step_fair number input (Record end) e =
    let w : (4 ≤ end) × (end ≤ length input) = next_within input end e in
    record { short = length_line number _; inside = w.1; grows = λ h. (w.0, refl) }

-- ---- whether it goes on

pub record Goes (s : Progress) (ended : Bool) (input : List ℕ) (room : ℕ) : Type 0 where
  pub untold : s.over ≡ false
  pub roomy : s.filled + 114 ≤ room
  pub enough : Enough ended (drop s.used input)

pub goes : (s : Progress) (ended : Bool) (input : List ℕ) (room : ℕ) → s.used ≤ length input → goes_on s ended (length input) room ≡ true
    → Goes s ended input room
unfolding goes_on
goes s ended input room w h =
    go s.over refl (leb (s.filled + 114) room) (leb-true (s.filled + 114) room) ended refl (leb (s.used + 8196) (length input))
    (leb-true (s.used + 8196) (length input)) h
  where
    go : (o : Bool) → s.over ≡ o → (b : Bool) → (b ≡ true → s.filled + 114 ≤ room) → (e : Bool) → ended ≡ e → (d : Bool)
        → (d ≡ true → s.used + 8196 ≤ length input)
        → (not o && (b && (e || d))) ≡ true → Goes s ended input room
    go true oe b p e ee d q h = absurd (false≢true h)
    go false oe false p e ee d q h = absurd (false≢true h)
    go false oe true p true ee d q h = record { untold = oe; roomy = p refl; enough = all ee }
    go false oe true p false ee true q h = record {
      untold = oe;
      roomy = p refl;
      enough = long (omega (
        arith,
        q refl,
        length-drop s.used
            input,
      ));
    }
    go false oe true p false ee false q h = absurd (false≢true h)

-- ---- the loop

pub record Going (input : List ℕ) (ended : Bool) (number size : ℕ) (out : List ℕ) (s : Progress) : Type 0 where
  pub within : s.used ≤ length input
  pub fits : s.filled ≤ length out
  pub kept : length out ≡ size
  pub counted : s.over ≡ false → s.next ≤ number + s.used
  pub begun : s.over ≡ false → s.used ≡ 0 → s.filled ≡ 0
  pub output : (more : List ℕ) → MayCome ended more
      → output_from number (input ++ more) ≡ take s.filled out ++ output_after s.over s.next (drop s.used input ++ more)

pub measure : List ℕ → Progress → ℕ
measure input s = cond s.over 0 (suc (length input - s.used))

pub going_start : (input : List ℕ) (ended : Bool) (number : ℕ) (out : List ℕ)
    → Going input ended number (length out) out record { used = 0; filled = 0; next = number; over = false }
unfolding output_after
going_start input ended number out =
    record {
      within = omega arith;
      fits = omega arith;
      kept = refl;
      counted = λ h. omega arith;
      begun = λ h e. refl;
      output = λ more m. refl;
    }

not_over : (number : ℕ) (bytes : List ℕ) → output_after false number bytes ≡ output_from number bytes
unfolding output_after
not_over number bytes = refl

module _ (input : List ℕ) (ended : Bool) (number size : ℕ) (out last : List ℕ) (s r : Progress) (g : Going input ended number size out s)
    (h : goes_on s ended (length input) (length out) ≡ true)
    (t : Stepped (step_of s.next (drop s.used input) (next_of (drop s.used input))) s r out last) where
  abbrev taken : Step
  taken = step_of s.next (drop s.used input) (next_of (drop s.used input))

  pub open_still : Goes s ended input (length out)
  open_still = goes s ended input (length out) g.within h

  fair : Fair s.next (drop s.used input) taken
  fair = step_fair s.next (drop s.used input) (next_of (drop s.used input)) refl

  front : take r.filled last ≡ take s.filled out ++ taken.line
  front =
      let room : s.filled + length taken.line ≤ length out = omega (arith, fair.short, open_still.roomy) in
      let e : last ≡ (take s.filled out ++ taken.line) ++ drop (s.filled + length taken.line) out
      = t.put.stored ∙ sets-eq taken.line out s.filled room in
      let n : length (take s.filled out ++ taken.line) ≡ r.filled
      = length-append (take s.filled out) taken.line ∙
      (ap (λ (k : ℕ). k + length taken.line) (length-take-le s.filled out g.fits) ∙ sym t.put.behind) in
      ap (take r.filled) e ∙ take_at (take s.filled out ++ taken.line) (drop (s.filled + length taken.line) out) r.filled n

  output_next : (more : List ℕ) → MayCome ended more
      → output_from number (input ++ more) ≡ take r.filled last ++ output_after r.over r.next (drop r.used input ++ more)
  output_next more m =
      let before : output_from number (input ++ more) ≡ take s.filled out ++ output_after false s.next (drop s.used input ++ more)
      = subst (λ (b : Bool). output_from number (input ++ more) ≡ take s.filled out ++ output_after b s.next
      (drop s.used input ++ more)) open_still.untold (g.output more m) in
      let now' : output_after false s.next (drop s.used input ++ more) ≡ taken.line ++ output_after taken.last taken.number
      (drop taken.taken (drop s.used input) ++ more)
      = not_over s.next (drop s.used input ++ more) ∙ step_output s.next (drop s.used input) more ended
      (next_of (drop s.used input)) open_still.enough m refl in
      let after : drop taken.taken (drop s.used input) ≡ drop r.used input = drop-drop taken.taken s.used input ∙ ap
      (λ (k : ℕ). drop k input) (sym t.used) in
      before
      ∙ (ap (λ (z : List ℕ). take s.filled out ++ z) now'
      ∙ (sym (append_assoc (take s.filled out) taken.line _)
      ∙ (rw (sym front, after, sym t.over, sym t.next))))

  pub going_next : length last ≡ length out → Going input ended number size last r
  going_next k = record {
    within = omega (arith, t.used, fair.inside, length-drop s.used input, g.within);
    fits = omega (arith, k, t.put.behind, fair.short, open_still.roomy);
    kept = k ∙ g.kept;
    counted = λ o. omega (
      arith,
      t.used,
      t.next,
      (fair.grows (sym t.over ∙ o)).0,
      (fair.grows (sym t.over ∙ o)).1,
      g.counted
          open_still.untold,
    );
    begun = λ o e. absurd (omega (arith, t.used, (fair.grows (sym t.over ∙ o)).0));
    output = output_next;
  }

  pub going_less : measure input r < measure input s
  unfolding measure
  going_less =
      rw open_still.untold (go r.over refl)
    where
      go : (b : Bool) → r.over ≡ b → cond b 0 (suc (length input - r.used)) < suc (length input - s.used)
      go true e = omega arith
      go false e =
          omega (arith, t.used, (fair.grows (sym t.over ∙ e)).0, fair.inside, length-drop s.used input, g.within)

pub going_done : (input : List ℕ) (ended : Bool) (number size : ℕ) (out : List ℕ) (s : Progress) → Going input ended number size out s
    → Answered input ended number size (take s.filled out) s.used s.next s.over
going_done input ended number size out s g = record {
  within = g.within;
  fits = omega (arith, g.fits, g.kept, length-take-le s.filled out g.fits);
  begun = λ o e. ap (λ (k : ℕ). take k out) (g.begun o e);
  output = g.output;
}
