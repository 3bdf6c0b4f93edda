-- A record that is not framed has no plan; the fields decide of another.
use Rattle.record_bytes.proofs.ShapeLaws.{unplanned, planned_by_fields}
use Rattle.std.proofs.Common.{◌∙◌}
use Rattle.record_bytes.proofs.shape.plan_of.Goals as goal

pub returns-in_err-kind : goal.returns-in_err-kind
returns-in_err-kind c = c.from_residual.ensures ∙ unplanned c.args.form c.args.source.now c.in_err-kind.ensures

pub returns : goal.returns
returns c = c.filled_by.ensures ∙ planned_by_fields c.args.form c.args.source.now c.in_ok-kind.ensures.0
