use Rattle.std.proofs.Common.{◌≡◌, ◌-◌, length, arith, sym, ◌∙◌}
use Rattle.std.specs.Result.{result_ok}
use Rattle.probe.specs.Runs.{after_read}
use Rattle.probe.proofs.Returns.{goes, read_made, read_bound}
use Rattle.probe.proofs.Known.{read_consumes, read_ends}
use Rattle.probe.proofs.read_on.Goals as goal

-- the run goes by what the read answered
went : (g : _) (c : goal.After-say_if g)
    → c.after_read-given.result ≡ after_read c.args.run (result_ok c.read-got.result) (length c.args.input.now - c.args.run.held)
went g c =
    goes c.args.run c.after_read-given.result c.args.input.now c.read-got.new.buf _ (omega arith) c.read-got.auto.buf
    c.after_read-given.ensures

pub returns-clause-read_on : goal.returns-clause-read_on
returns-clause-read_on g c =
    read_made c.args.run c.after_read-given.result c.args.input.now c.read-got.new.buf _ (omega arith) c.read-got.auto.buf
    c.after_read-given.ensures (sym c.reads_more.ensures ∙ c.if-not-reads_more.false)

pub returns-clause-held_bound : goal.returns-clause-held_bound
returns-clause-held_bound g c =
    read_bound c.args.run c.after_read-given.result c.args.input.now c.read-got.new.buf _ (omega arith) c.read-got.auto.buf
    c.after_read-given.ensures c.requires.1

pub returns-clause-bytes : goal.returns-clause-bytes
returns-clause-bytes g c =
    read_consumes c.args.run c.after_read-given.result c.args.input.now c.read-got.new.buf (omega arith) c.read-got.auto.buf
    c.read-got.result (g.R.Read.remaining c.args.stdin.now) (g.R.Read.remaining c.read-got.new.self)
    c.read-got.ensures.bound c.read-got.ensures.bytes (went g c)

pub returns-clause-end : goal.returns-clause-end
returns-clause-end g c before =
    read_ends c.args.run c.after_read-given.result c.args.input.now c.read-got.new.buf (omega arith) c.read-got.auto.buf
    c.read-got.result (g.R.Read.remaining c.args.stdin.now) (g.R.Read.remaining c.read-got.new.self)
    c.read-got.ensures.bound c.read-got.ensures.bytes (went g c)
    (sym c.reads_more.ensures ∙ c.if-not-reads_more.false) c.requires.1
