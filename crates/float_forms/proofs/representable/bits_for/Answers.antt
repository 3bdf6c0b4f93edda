-- Of the floats of the form's format only NaN has no pattern.
use Rattle.std.proofs.Common.{sym}
use Rattle.float_forms.proofs.RepresentableLaws.{nan_stands}
use Rattle.float_forms.proofs.representable.bits_for.Goals as goal

pub returns-in-None : goal.returns-in-None
returns-in-None c = nan_stands c.args.form c.args.x _ c.requires (sym c.in-None.ensures) c.nan_bits.ensures
