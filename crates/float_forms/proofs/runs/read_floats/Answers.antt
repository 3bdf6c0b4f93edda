-- Each turn reads the next float.
use Rattle.std.proofs.Common.{arith}
use Rattle.float_forms.specs.Forms.{size_of}
use Rattle.float_forms.specs.Bytes.{number_of, numbers_of}
use Rattle.float_forms.proofs.RunSteps.{numbers_run, first_place, next_place, read_start, read_next, read_done}
use Rattle.float_forms.proofs.runs.read_floats.Goals as goal

pub loop-i-init : goal.loop-i-init
loop-i-init c =
    let f = c.args.form in
    rw first_place
    (read_start (number_of f) (size_of f) (numbers_of f) (numbers_run f) c.args.source.now c.args.out.now c.args.place c.args.count
    c.requires.0 c.requires.1)

pub loop-i-preserved : goal.loop-i-preserved
loop-i-preserved c =
    let f = c.args.form in
    rw next_place
    (read_next (number_of f) (size_of f) (numbers_of f) (numbers_run f) c.args.source.now _ _ _ _ _ _ c.loop-i.invariant _
    (omega arith) (rw c.size_of-size.ensures at c.number_at.ensures))

pub returns : goal.returns
returns c =
    let f = c.args.form in
    read_done (number_of f) (size_of f) (numbers_of f) (numbers_run f) c.args.source.now _ _ _ _ _ _ c.loop-i.invariant (omega arith)
