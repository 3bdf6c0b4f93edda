-- i words are read, and what is left gives the whole.
use Rattle.std.proofs.Common.{◌+◌, ◌*◌, length, drop}
use Rattle.std.proofs.lemmas.List.Edits.{sets}
use Rattle.float_forms.specs.Bytes.{words_of}
use Rattle.float_forms.proofs.RunSteps.{Reading}
use Rattle.float_forms.proofs.runs.read_words.Given as goal

abbrev pub invariant-loop-i : goal.invariant-loop-i
invariant-loop-i l =
    Reading words_of 4 l.source (sets l.initial.out 0 (words_of l.count (drop l.place l.source))) (length l.initial.out) l.count l.out
    (l.place + 4 * l.i) l.i
