-- i floats are read, and what is left gives the whole.
use Rattle.std.proofs.Common.{◌+◌, ◌*◌, length, drop}
use Rattle.std.proofs.lemmas.List.Edits.{sets}
use Rattle.float_forms.specs.Forms.{size_of}
use Rattle.float_forms.specs.Bytes.{numbers_of}
use Rattle.float_forms.proofs.RunSteps.{Reading}
use Rattle.float_forms.proofs.runs.read_floats.Given as goal

abbrev pub invariant-loop-i : goal.invariant-loop-i
invariant-loop-i l =
    Reading (numbers_of l.form) (size_of l.form) l.source (sets l.initial.out 0 (numbers_of l.form l.count (drop l.place l.source)))
    (length l.initial.out) l.count l.out (l.place + size_of l.form * l.i) l.i
