use Rattle.std.proofs.Common.{◌∙◌}
use Rattle.float_forms.proofs.FormLaws.{form_or_long}
use Rattle.float_forms.proofs.forms.form_of.Goals as goal

pub returns : goal.returns
returns c = c.unwrap_or.ensures ∙ form_or_long c.args.version c.try_from.result c.try_from.ensures
