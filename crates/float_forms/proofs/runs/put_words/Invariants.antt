-- What is left gives the whole.
use Rattle.std.proofs.Common.{◌+◌, ◌-◌, ◌*◌, length, drop}
use Rattle.std.proofs.lemmas.List.Edits.{sets}
use Rattle.float_forms.specs.Bytes.{words_of, words_bytes}
use Rattle.float_forms.proofs.RunSteps.{Copying}
use Rattle.float_forms.proofs.runs.put_words.Given as goal

abbrev pub invariant-loop-i : goal.invariant-loop-i
invariant-loop-i l =
    Copying l.source (sets l.initial.out l.at (words_bytes (words_of l.count (drop l.place l.source)))) (length l.initial.out) l.out
    (l.place + 4 * l.i) (l.at + 4 * l.i) (l.count - l.i)
