-- The output, record by record; and what comes later changes no record that is there. Assumes nothing.
use Prim.Native.Nat.{ℕ, zero, suc, ◌-◌, ◌≤◌}
use mathlib.Core.Path.{◌≡◌, refl, sym, ap, ◌∙◌}
use mathlib.Core.Bool.{Bool, true, false, cond}
use mathlib.Core.List.{List, [], ◌++◌, append-nil}
use native.Mathlib.Omega.{arith}
use borrow.Author.Tests.{eq-eqb}
use lib.ListN.{length, take, drop, length-drop}
use lib.Seq.{take-append-le, drop-append-le}
use Rattle.record_bytes.specs.Records.{is_record}
use Rattle.records.specs.Lines.{line_of, bad_line}
use Rattle.record_bytes.specs.Stream.{next_of}
use Rattle.records.specs.Output.{lines_from, output_of}
use Rattle.record_bytes.specs.declared.stream.Found.{Found}
use Rattle.record_bytes.specs.declared.stream.Found.TheVariants.{Record, Cut, End}
use Rattle.record_bytes.proofs.Frames.{next_within, next_stays}
use Rattle.record_stream.specs.Progress.{output_from, MayCome}

-- ---- as many rounds as there are bytes are enough

next_empty : (bytes : List ℕ) → length bytes ≤ 0 → next_of bytes ≡ End
unfolding next_of
next_empty bytes h = rw (eq-eqb (length bytes) 0 (omega (arith, h)))

rounds : (f g number : ℕ) (bytes : List ℕ) → length bytes ≤ f → length bytes ≤ g
    → lines_from f number bytes (next_of bytes) ≡ lines_from g number bytes (next_of bytes)
unfolding lines_from
rounds zero zero number bytes h k = refl
rounds zero (suc g) number bytes h k = rw (next_empty bytes h)
rounds (suc f) zero number bytes h k = rw (next_empty bytes k)
rounds (suc f) (suc g) number bytes h k = go (next_of bytes) (λ end e. next_within bytes end e)
    (λ end low p q. rounds f g (suc number) (drop end bytes) p q)
  where
    go : (found : Found) → ((end : ℕ) → found ≡ Record end → (4 ≤ end) × (end ≤ length bytes))
        → ((end : ℕ) → 4 ≤ end → length (drop end bytes) ≤ f → length (drop end bytes) ≤ g
        → lines_from f (suc number) (drop end bytes) (next_of (drop end bytes)) ≡ lines_from g (suc number) (drop end bytes)
        (next_of (drop end bytes)))
        → lines_from (suc f) number bytes found ≡ lines_from (suc g) number bytes found
    go End w ih = refl
    go Cut w ih = refl
    go (Record end) w ih =
        let low : 4 ≤ end = (w end refl).0 in
        let high : end ≤ length bytes = (w end refl).1 in
        let p : length (drop end bytes) ≤ f = omega (arith, low, high, h, length-drop end bytes) in
        let q : length (drop end bytes) ≤ g = omega (arith, low, high, k, length-drop end bytes) in
        ap (λ (rest : List ℕ). cond (is_record (take end bytes)) (line_of number (take end bytes) ++ rest) (bad_line number))
        (ih end low p q)

-- ---- the output, by what stands at the front

some : (bytes : List ℕ) (found : Found) → next_of bytes ≡ found → (found ≡ End → ⊥) → 1 ≤ length bytes
some bytes found e n = go (length bytes) refl
  where
    go : (k : ℕ) → length bytes ≡ k → 1 ≤ k
    go zero h = absurd (n (sym e ∙ next_empty bytes (omega (arith, h))))
    go (suc k) h = omega arith

one_step : (number : ℕ) (bytes : List ℕ) → 1 ≤ length bytes
    → output_from number bytes ≡ lines_from (suc (length bytes - 1)) number bytes (next_of bytes)
unfolding output_from
one_step number bytes h = rounds (length bytes) (suc (length bytes - 1)) number bytes (omega arith) (omega (arith, h))

pub output_end : (number : ℕ) (bytes : List ℕ) → next_of bytes ≡ End → output_from number bytes ≡ []
unfolding output_from lines_from
output_end number bytes e = rounds (length bytes) (suc (length bytes)) number bytes (omega arith) (omega arith) ∙ (rw e)

pub output_cut : (number : ℕ) (bytes : List ℕ) → next_of bytes ≡ Cut → output_from number bytes ≡ bad_line number
unfolding output_from lines_from
output_cut number bytes e = rounds (length bytes) (suc (length bytes)) number bytes (omega arith) (omega arith) ∙ (rw e)

record_step : (number : ℕ) (bytes : List ℕ) (end : ℕ) → next_of bytes ≡ Record end
    → output_from number bytes ≡ cond (is_record (take end bytes))
    (line_of number (take end bytes) ++ output_from (suc number) (drop end bytes)) (bad_line number)
unfolding output_from lines_from
record_step number bytes end e =
    let w : (4 ≤ end) × (end ≤ length bytes) = next_within bytes end e in
    let rest = drop end bytes in
    let less : length rest ≤ length bytes = omega (arith, length-drop end bytes) in
    rounds (length bytes) (suc (length bytes)) number bytes (omega arith) (omega arith)
    ∙ (rw (e, rounds (length bytes) (length rest) (suc number) rest less (omega arith)))

pub output_good : (number : ℕ) (bytes : List ℕ) (end : ℕ) → next_of bytes ≡ Record end → is_record (take end bytes) ≡ true
    → output_from number bytes ≡ line_of number (take end bytes) ++ output_from (suc number) (drop end bytes)
output_good number bytes end e w = record_step number bytes end e ∙ (rw w)

pub output_bad : (number : ℕ) (bytes : List ℕ) (end : ℕ) → next_of bytes ≡ Record end → is_record (take end bytes) ≡ false
    → output_from number bytes ≡ bad_line number
output_bad number bytes end e w = record_step number bytes end e ∙ (rw w)

pub output_is : (bytes : List ℕ) → output_from 1 bytes ≡ output_of bytes
unfolding output_from output_of
output_is bytes = refl

-- ---- what comes later

-- enough is there: nothing more comes, or a longest record would fit
pub data Enough (ended : Bool) (input : List ℕ) : Type 0 where
  all : ended ≡ true → Enough ended input
  long : 8196 ≤ length input → Enough ended input

pub next_kept : (input more : List ℕ) (ended : Bool) → Enough ended input → MayCome ended more → next_of (input ++ more) ≡ next_of input
next_kept input more ended (all e) m = ap (λ (z : List ℕ). next_of (input ++ z)) (m e) ∙ ap next_of (append-nil input)
next_kept input more ended (long h) m = next_stays input more h

-- ---- the next record, for each answer

module _ (number : ℕ) (input more : List ℕ) (ended : Bool) (n : Enough ended input) (m : MayCome ended more) where
  pub input_end : next_of input ≡ End → output_from number (input ++ more) ≡ []
  input_end e = output_end number (input ++ more) (next_kept input more ended n m ∙ e)

  pub input_cut : next_of input ≡ Cut → output_from number (input ++ more) ≡ bad_line number
  input_cut e = output_cut number (input ++ more) (next_kept input more ended n m ∙ e)

  pub input_good : (end : ℕ) → next_of input ≡ Record end → is_record (take end input) ≡ true
      → output_from number (input ++ more) ≡ line_of number (take end input) ++ output_from (suc number) (drop end input ++ more)
  input_good end e w =
      let within : (4 ≤ end) × (end ≤ length input) = next_within input end e in
      let kept : take end (input ++ more) ≡ take end input = take-append-le end input more within.1 in
      output_good number (input ++ more) end (next_kept input more ended n m ∙ e) (ap is_record kept ∙ w)
      ∙ (rw (kept, drop-append-le end input more within.1))

  pub input_bad : (end : ℕ) → next_of input ≡ Record end → is_record (take end input) ≡ false
      → output_from number (input ++ more) ≡ bad_line number
  input_bad end e w =
      let within : (4 ≤ end) × (end ≤ length input) = next_within input end e in
      let kept : take end (input ++ more) ≡ take end input = take-append-le end input more within.1 in
      output_bad number (input ++ more) end (next_kept input more ended n m ∙ e) (ap is_record kept ∙ w)
