-- The two exponents' fields add up to 2046, and 2^-1023 is the subnormal pattern.
use Rattle.std.proofs.Common.{T, sym, subst}
use Rattle.arithmetic.proofs.RootCases.{above_no_nan}
use Rattle.arithmetic.proofs.ScalingLaws.{is_normal, power_told, last_power_told, pattern_number}
use Rattle.arithmetic.proofs.scaling.power_for.Goals as goal

pub float_to_bits-field : goal.float_to_bits-field
float_to_bits-field c = above_no_nan c.args.x c.requires.0

pub float_from_bits-result : goal.float_from_bits-result
float_from_bits-result c =
    let normal = is_normal c.args.x (subst T (sym c.well_formed.0.1) tt) c.requires.0 c.requires.1.0 c.requires.1.1 in
    pattern_number _ _ _ _ (power_told c.args.x normal c.if-field-lt2046.true)

pub returns-then-field-lt2046 : goal.returns-then-field-lt2046
returns-then-field-lt2046 c =
    let normal = is_normal c.args.x (subst T (sym c.well_formed.0.1) tt) c.requires.0 c.requires.1.0 c.requires.1.1 in
    power_told c.args.x normal c.if-field-lt2046.true

pub float_from_bits-result-2 : goal.float_from_bits-result-2
float_from_bits-result-2 c =
    let normal = is_normal c.args.x (subst T (sym c.well_formed.0.1) tt) c.requires.0 c.requires.1.0 c.requires.1.1 in
    pattern_number _ _ _ _ (last_power_told c.args.x normal c.if-field-lt2046.false)

pub returns : goal.returns
returns c =
    let normal = is_normal c.args.x (subst T (sym c.well_formed.0.1) tt) c.requires.0 c.requires.1.0 c.requires.1.1 in
    last_power_told c.args.x normal c.if-field-lt2046.false
