-- By the line of the record at the front.
use Rattle.record_stream.proofs.StepLaws.{record_stepped}
use Rattle.record_stream.proofs.answers.record_step.Goals as goal

pub returns : goal.returns
returns c =
    record_stepped c.args.s c.args.rest.now c.args.output.now c.line-printed.new.output c.args.end _ _ c.line-printed.ensures.put
    c.line-printed.ensures.malformed_value
