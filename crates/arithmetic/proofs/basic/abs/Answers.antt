-- Without its sign's bit a number has its sign cleared.
use Rattle.std.proofs.Common.{T, sym, ◌∙◌, subst}
use Rattle.arithmetic.proofs.SignBit.{nan_absolute, cleared_is_number, absolute_of_bits}
use Rattle.arithmetic.proofs.basic.abs.Goals as goal

pub returns-then-is_nan : goal.returns-then-is_nan
returns-then-is_nan c = nan_absolute _ (sym c.is_nan.ensures.value ∙ c.if-is_nan.true)

pub float_from_bits-result : goal.float_from_bits-result
float_from_bits-result c =
    cleared_is_number c.args.x (subst T (sym c.well_formed.0.1) tt) (sym c.is_nan.ensures.value ∙ c.if-is_nan.false)

pub returns : goal.returns
returns c = absolute_of_bits c.args.x (subst T (sym c.well_formed.0.1) tt) (sym c.is_nan.ensures.value ∙ c.if-is_nan.false)
