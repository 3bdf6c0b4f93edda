use Rattle.std.proofs.Common.{take, [], refl, sym, subst, ◌∙◌, true≢false}
use Rattle.std.specs.Io.KnownBytes.{Consumes}
use Rattle.probe.specs.Runs.{read_bytes, unread, stepped, Step}
use Rattle.probe.proofs.Known.{failed_reads_none, answers_ended, write_ended, same_end}
use Rattle.probe.proofs.step.Goals as goal

-- the read failed
unread_step : (g : _) (c : goal.Then-ready g) → Step c.args.run c.args.input.now c.read_on-ready.result c.read_on-ready.new.input
unread_step g c =
    record { bytes = []; lines = []; stepped = unread c.read_on-ready.ensures.read_on c.if-ready.true refl refl }

pub returns-then-ready-clause-step : goal.returns-then-ready-clause-step
returns-then-ready-clause-step g c = unread_step g c

pub returns-then-ready-clause-moves : goal.returns-then-ready-clause-moves
unfolding unread_step
returns-then-ready-clause-moves g c = record {
  step = unread_step g c;
  reads =
      subst
      (Consumes (g.R.Read.remaining c.args.stdin.now) (g.R.Read.remaining c.read_on-ready.new.stdin))
      (failed_reads_none c.args.run c.read_on-ready.result c.args.input.now c.read_on-ready.new.input
      c.read_on-ready.ensures.read_on c.if-ready.true) c.read_on-ready.ensures.bytes;
  writes = λ h. absurd (true≢false (sym c.if-ready.true ∙ h));
}

-- each of the three calls did its part
whole_step : (g : _) (c : goal.After-write_lines g) → Step c.args.run c.args.input.now c.write_lines.result c.answer-answered.new.input
whole_step g c =
    let ready = c.read_on-ready.result in
    let answered = c.answer-answered.result in
    let area = c.read_on-ready.new.input in
    record {
      bytes = read_bytes c.args.run ready area;
      lines = take answered.filled c.answer-answered.new.output;
      stepped =
          stepped ready answered area c.read_on-ready.ensures.read_on c.if-ready.false refl c.answer-answered.ensures.answers
          c.write_lines.ensures.after_write;
    }

pub returns-clause-step : goal.returns-clause-step
returns-clause-step g c = whole_step g c

pub returns-clause-moves : goal.returns-clause-moves
unfolding whole_step
returns-clause-moves g c = record {
  step = whole_step g c;
  reads = c.read_on-ready.ensures.bytes;
  writes = c.write_lines.ensures.lines;
}

pub returns-clause-end : goal.returns-clause-end
returns-clause-end g c before =
    same_end c.read_on-ready.result c.write_lines.result (g.R.Read.remaining c.read_on-ready.new.stdin)
    (write_ended c.write_lines.ensures.after_write ∙ answers_ended c.answer-answered.ensures.answers)
    (c.read_on-ready.ensures.end before)
