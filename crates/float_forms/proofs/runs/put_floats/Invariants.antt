-- What is left gives the whole.
use Rattle.std.proofs.Common.{◌-◌, length, drop}
use Rattle.std.proofs.lemmas.List.Edits.{sets}
use Rattle.float_forms.specs.Bytes.{numbers_of, numbers_bytes}
use Rattle.float_forms.proofs.RunSteps.{Writing}
use Rattle.float_forms.proofs.runs.put_floats.Given as goal

abbrev pub invariant-loop-i : goal.invariant-loop-i
invariant-loop-i l =
    Writing l.p l.q l.source (sets l.initial.out l.at (numbers_bytes l.q (numbers_of l.p l.count (drop l.place l.source))))
    (length l.initial.out) l.out l.from l.to (l.count - l.i)
