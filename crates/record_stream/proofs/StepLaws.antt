-- One step of the loop over the input, for each return. Assumes nothing.
use Prim.Native.Nat.{ℕ, ◌+◌, ◌-◌}
use mathlib.Core.Path.{◌≡◌, refl, sym, ap, subst, ◌∙◌}
use mathlib.Core.Bool.{Bool, true, false, not}
use mathlib.Core.List.{List, ◌++◌, append-nil}
use native.Mathlib.Omega.{arith}
use native.Mathlib.Numerals.{add-one}
use lib.ListN.{length, take, drop}
use Rattle.record_bytes.specs.Records.{is_record}
use Rattle.record_bytes.specs.Stream.{next_of}
use Rattle.record_bytes.specs.declared.stream.Found.{Found}
use Rattle.record_bytes.specs.declared.stream.Found.TheVariants.{Record, Cut, End}
use Rattle.record_text.specs.Text.{Put}
use Rattle.records.specs.Shapes.{parse}
use Rattle.records.specs.Lines.{line_of, bad_line, parsed_text}
use Rattle.records.proofs.Answers.{rest_is}
use Rattle.record_stream.specs.declared.answers.Progress.{Progress}
use Rattle.record_stream.specs.Progress.{output_from, output_after, MayCome, step_of, Stepped}
use Rattle.record_stream.proofs.StreamLaws.{Enough, input_end, input_cut, input_good, input_bad}

-- ---- the steps

pub record_stepped : (s : Progress) (rest out last : List ℕ) (end filled : ℕ) (malformed : Bool)
    → Put out s.filled (line_of s.next (take end rest)) last filled → malformed ≡ not (is_record (take end rest))
    → Stepped (step_of s.next rest (Record end)) s
    record { used = s.used + end; filled = filled; next = s.next + 1; over = malformed } out last
unfolding step_of
record_stepped s rest out last end filled malformed p m = record { put = p; used = refl; next = refl; over = m }

pub cut_stepped : (s : Progress) (rest out last : List ℕ) (filled : ℕ) → Put out s.filled (bad_line s.next) last filled
    → Stepped (step_of s.next rest Cut) s record { used = s.used; filled = filled; next = s.next; over = true } out last
unfolding step_of
cut_stepped s rest out last filled p = record { put = p; used = omega arith; next = refl; over = refl }

pub end_stepped : (s : Progress) (rest out : List ℕ)
    → Stepped (step_of s.next rest End) s record { used = s.used; filled = s.filled; next = s.next; over = true } out out
unfolding step_of
end_stepped s rest out = record { put = record { stored = refl; behind = omega arith }; used = omega arith; next = refl; over = refl }

-- ---- a step and the output

bad_is : (number : ℕ) (bytes : List ℕ) → is_record bytes ≡ false → line_of number bytes ≡ bad_line number
unfolding parse parsed_text
bad_is number bytes w = rw w

step_record : (number : ℕ) (input more : List ℕ) (ended : Bool) (end : ℕ) → Enough ended input → MayCome ended more
    → next_of input ≡ Record end → (good : Bool) → is_record (take end input) ≡ good
    → output_from number (input ++ more) ≡ line_of number (take end input) ++ output_after (not good) (number + 1) (drop end input ++ more)
unfolding output_after
step_record number input more ended end n m e true w = input_good number input more ended n m end e w ∙ (rw (add-one number))
step_record number input more ended end n m e false w =
    input_bad number input more ended n m end e w
    ∙ (sym (bad_is number (take end input) w) ∙ sym (append-nil (line_of number (take end input))))

pub step_output : (number : ℕ) (input more : List ℕ) (ended : Bool) (found : Found) → Enough ended input → MayCome ended more
    → next_of input ≡ found
    → output_from number (input ++ more)
    ≡ (step_of number input found).line ++ output_after (step_of number input found).last (step_of number input found).number
    (drop (step_of number input found).taken input ++ more)
unfolding step_of output_after
step_output number input more ended End n m e = input_end number input more ended n m e
step_output number input more ended Cut n m e = input_cut number input more ended n m e ∙ sym (append-nil (bad_line number))
step_output number input more ended (Record end) n m e = step_record number input more ended end n m e (is_record (take end input)) refl

-- ---- what is left of the input

pub found_is : (l : List ℕ) (k : ℕ) (r found : Found) → r ≡ next_of (take (length l - k) (drop k l)) → r ≡ found → next_of (drop k l)
    ≡ found
found_is l k r found e f = ap next_of (sym (rest_is l k)) ∙ (sym e ∙ f)

pub stepped_by : (s r : Progress) (l out last : List ℕ) (found : Found) → next_of (drop s.used l) ≡ found
    → Stepped (step_of s.next (drop s.used l) found) s r out last
    → Stepped (step_of s.next (drop s.used l) (next_of (drop s.used l))) s r out last
stepped_by s r l out last found e t = rw e t

pub stepped_rest : (s r : Progress) (l out last : List ℕ) (found : Found)
    → Stepped (step_of s.next (take (length l - s.used) (drop s.used l)) found) s r out last
    → Stepped (step_of s.next (drop s.used l) found) s r out last
stepped_rest s r l out last found t = subst (λ (z : List ℕ). Stepped (step_of s.next z found) s r out last) (rest_is l s.used) t
