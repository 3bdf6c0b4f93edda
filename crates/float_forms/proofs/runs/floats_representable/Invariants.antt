-- What is left decides.
use Rattle.std.proofs.Common.{◌-◌, drop}
use Rattle.float_forms.specs.Bytes.{numbers_of}
use Rattle.float_forms.specs.Representable.{every, representable}
use Rattle.float_forms.proofs.RunSteps.{Scanning}
use Rattle.float_forms.proofs.runs.floats_representable.Given as goal

abbrev pub invariant-loop-i : goal.invariant-loop-i
invariant-loop-i l =
    Scanning l.p l.q l.source (every (representable l.q) (numbers_of l.p l.count (drop l.place l.source)))
    l.from (l.count - l.i)
