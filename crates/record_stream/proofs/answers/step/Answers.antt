-- For each of the things that may stand at the front.
use Rattle.std.proofs.Common.{◌≡◌, ◌-◌, ◌≤◌, sym, ap, ◌∙◌, refl, true, length, take, drop, length-drop, arith}
use Rattle.record_bytes.specs.declared.stream.Found.TheVariants.{Record, Cut, End}
use Rattle.record_bytes.proofs.Frames.{next_within}
use Rattle.records.proofs.Answers.{rest_is}
use Rattle.record_stream.proofs.StepLaws.{found_is, stepped_by, stepped_rest, cut_stepped, end_stepped}
use Rattle.record_stream.proofs.answers.step.Goals as goal

pub record_step-requires : goal.record_step-requires
record_step-requires c =
    let input = c.args.input.now in
    let used = c.args.s.used in
    let rest = take (length input - used) (drop used input) in
    let end = c.in-Record.end in
    let w : (4 ≤ end) × (end ≤ length rest) = next_within rest end (sym c.in-Record.ensures) in
    let n : length rest ≡ length input - used = ap length (rest_is input used) ∙ length-drop used input in
    ((w.1, c.requires.0.1), (c.requires.1, omega (arith, w.1, n, c.requires.0.0)))

pub returns-in-Record : goal.returns-in-Record
returns-in-Record c =
    let a = c.args in
    let found = Record c.in-Record.end in
    stepped_by a.s c.record_step.result a.input.now a.output.now c.record_step.new.output found
    (found_is a.input.now a.s.used found found c.in-Record.ensures refl)
    (stepped_rest a.s c.record_step.result a.input.now a.output.now c.record_step.new.output found c.record_step.ensures)

pub returns-in-Cut : goal.returns-in-Cut
returns-in-Cut c =
    let a = c.args in
    stepped_by a.s record { used = a.s.used; filled = c.bad_line.result; next = a.s.next; over = true } a.input.now a.output.now
    c.bad_line.new.output Cut (found_is a.input.now a.s.used Cut Cut c.in-Cut.ensures refl)
    (cut_stepped a.s (drop a.s.used a.input.now) a.output.now c.bad_line.new.output c.bad_line.result c.bad_line.ensures)

pub returns-in-End : goal.returns-in-End
returns-in-End c =
    let a = c.args in
    stepped_by a.s record { used = a.s.used; filled = a.s.filled; next = a.s.next; over = true } a.input.now a.output.now a.output.now End
    (found_is a.input.now a.s.used End End c.in-End.ensures refl) (end_stepped a.s (drop a.s.used a.input.now) a.output.now)
