use Rattle.std.proofs.Common.{◌≡◌, ℕ, length, take, false, subst, arith}
use Rattle.record_stream.specs.Progress.{Answered, goes_on}
use Rattle.probe.specs.Runs.{held_of}
use Rattle.probe.proofs.Returns.{answers_made}
use Rattle.probe.proofs.answer.Goals as goal

-- the lines are made, and the run goes by what was used
pub returns-clause-answers : goal.returns-clause-answers
returns-clause-answers c =
    let run = c.args.run in
    let done = c.answer_records-done.result in
    let out = c.answer_records-done.new.output in
    let held = held_of run c.args.input.now in
    let room : length c.args.output.now ≡ 65536 = c.requires.1.1 in
    let answered : Answered held run.ended run.next 65536 (take done.filled out) done.used done.next done.over
    = subst (λ (n : ℕ). Answered held run.ended run.next n (take done.filled out) done.used done.next done.over) room
    c.answer_records-done.ensures.answered in
    let stopped : goes_on done run.ended (length held) 65536 ≡ false
    = subst (λ (n : ℕ). goes_on done run.ended (length held) n ≡ false) room c.answer_records-done.ensures.output_value in
    answers_made run c.args.input.now done out (omega arith) (omega (arith, c.answer_records-done.auto.output)) answered
    c.next_run.result c.move_front.new.input (omega arith) (omega arith) stopped c.next_run.ensures c.move_front.ensures
