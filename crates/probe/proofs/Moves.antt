-- No run hangs between its reads: a step that reads nothing ends the run or holds fewer bytes than before. Assumes nothing.
use Prim.Native.Nat.{ℕ, zero, suc, ◌-◌, ◌<◌, ◌≤◌}
use mathlib.Core.Path.{◌≡◌, refl, sym, ap, ◌∙◌}
use mathlib.Core.Bool.{Bool, true, false, not, ◌&&◌, ◌||◌, false≢true, true≢false}
use mathlib.Core.List.{List, []}
use native.Mathlib.Omega.{arith}
use borrow.Author.Tests.{ltb-false, le-leb}
use lib.Dec.{ltb}
use lib.ListN.{length}
use lib.Seq.{length-take-le}
use Rattle.record_stream.specs.declared.answers.Progress.{Progress}
use Rattle.record_stream.specs.Progress.{Answered, goes_on}
use Rattle.probe.specs.declared.runs.Run.{Run}
use Rattle.probe.specs.Runs.{reads_more, after_write, held_of, idle, asked, Answers, spent, made}
use Rattle.probe.specs.Runs.{AfterWrite, Stepped, unread, stepped}

-- where nothing is read, a whole record is held or the input has ended
pub data Enough (run : Run) : Type 0 where
  all : run.ended ≡ true → Enough run
  long : 8196 ≤ run.held → Enough run

enough : (run : Run) → reads_more run ≡ false → Enough run
unfolding reads_more
enough run h = go run.ended refl (ltb run.held 8196) (ltb-false run.held 8196) h
  where
    go : (e : Bool) → run.ended ≡ e → (b : Bool) → (b ≡ false → 8196 ≤ run.held) → (not e && b) ≡ false → Enough run
    go true e b f h = all e
    go false e true f h = absurd (true≢false h)
    go false e false f h = long (f refl)

-- then one more record would have been answered, if none was
pub answering : (run : Run) (input : List ℕ) (done : Progress) → run.held ≤ length input → Enough run → done.over ≡ false
    → done.used ≡ 0 → done.filled ≡ 0 → goes_on done run.ended (length (held_of run input)) 65536 ≡ true
unfolding goes_on
answering run input done fits (all e) o u f =
    rw (o, u, f, e)
answering run input done fits (long h) o u f =
    rw (o, u, f, length-take-le run.held input fits, le-leb 8196 run.held h) (go run.ended)
  where
    go : (b : Bool) → (b || true) ≡ true
    go true = refl
    go false = refl

module _ (run : Run) (input : List ℕ) (fits : run.held ≤ length input) (n : Enough run) where
  uses : (done : Progress) (lines : List ℕ)
      → Answered (held_of run input) run.ended run.next 65536 lines done.used done.next done.over
      → length lines ≡ done.filled → goes_on done run.ended (length (held_of run input)) 65536 ≡ false → done.over ≡ false
      → run.held - done.used < run.held
  uses done lines a c g o = go done.used refl
    where
      go : (used : ℕ) → done.used ≡ used → run.held - done.used < run.held
      go zero u =
          let none : lines ≡ [] = a.begun o u in
          let empty : done.filled ≡ 0 = sym c ∙ ap length none in
          absurd (true≢false (sym (answering run input done fits n o u empty) ∙ g))
      go (suc k) u = omega (arith, a.within, length-take-le run.held input fits)

  answer_moves : (answered : Run) (last lines : List ℕ) → Answers run input answered last lines → answered.over ≡ false
      → answered.held < run.held
  answer_moves answered last lines (spent h e t) o = absurd (true≢false (sym (ap (λ (r : Run). r.over) e) ∙ o))
  answer_moves answered last lines (made done h a c g e l) o =
      rw e (uses done lines a c g (sym (ap (λ (r : Run). r.over) e) ∙ o))

-- a write keeps what is held
kept : (run after : Run) → AfterWrite run after → after.over ≡ false → after ≡ run
kept run after w o = go w.written w.is
  where
    go : (written : Bool) → after ≡ after_write run written → after ≡ run
    go true e = e
    go false e = absurd (true≢false (sym (ap (λ (r : Run). r.over) e) ∙ o))

pub step_moves : (run : Run) (input : List ℕ) (after : Run) (last bytes lines : List ℕ) → Stepped run input after last bytes lines
    → run.held ≤ length input → run.failed ≡ false → reads_more run ≡ false → after.over ≡ false → after.held < run.held
step_moves run input after last bytes lines (unread (idle h e a) t b l) fits f r o =
    absurd (false≢true (sym (ap (λ (s : Run). s.failed) e ∙ f) ∙ t))
step_moves run input after last bytes lines (unread (asked got h e k) t b l) fits f r o =
    absurd (false≢true (sym r ∙ h))
step_moves run input after last bytes lines (stepped ready answered area (idle h e i) g b a w) fits f r o =
    let is : after ≡ answered = kept answered after w o in
    let from : Answers run input answered last lines = rw (e, i) at a in
    rw is (answer_moves run input fits (enough run r) answered last lines from (sym (ap (λ (s : Run). s.over) is) ∙ o))
step_moves run input after last bytes lines (stepped ready answered area (asked got h e k) g b a w) fits f r o =
    absurd (false≢true (sym r ∙ h))
