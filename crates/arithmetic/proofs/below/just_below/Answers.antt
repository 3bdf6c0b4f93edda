-- Above zero the pattern one less, and else the pattern of the size, one more; where no number lies below, it stays.
use Rattle.std.proofs.Common.{◌+◌, ◌^◌, ◌<◌, not, T, sym, ◌∙◌, subst, rules}
use lib.Ieee.{Float, binary64, is_nan, nan_bits, to_bits}
use Rattle.arithmetic.specs.Below.{just_below}
use Rattle.arithmetic.proofs.Numbers.{number_passes}
use Rattle.arithmetic.proofs.BelowLaws.{above_number, above_bits, lower_pattern, higher_pattern, higher_fits, absolute_number}
use Rattle.arithmetic.proofs.below.just_below.Goals as goal

pub float_to_bits-result : goal.float_to_bits-result
float_to_bits-result c = number_passes c.args.x (above_number c.args.x c.if-x.true)

pub overflow_sub-result : goal.overflow_sub-result
overflow_sub-result c = above_bits c.args.x (subst T (sym c.well_formed.0.1) tt) c.if-x.true

pub float_from_bits-result : goal.float_from_bits-result
float_from_bits-result c = lower_pattern c.args.x (subst T (sym c.well_formed.0.1) tt) c.if-x.true

pub returns-then-x : goal.returns-then-x
unfolding just_below
returns-then-x c = simp c.if-x.true

-- finite and not above zero
pub float_to_bits-result-then-is_finite : goal.float_to_bits-result-then-is_finite
float_to_bits-result-then-is_finite c =
    subst (λ (z : Float). T (not (is_nan z))) (sym c.abs.ensures)
    (absolute_number c.args.x (sym c.is_finite.ensures ∙ c.if-is_finite.true))

pub overflow_add-result : goal.overflow_add-result
overflow_add-result c =
    let l : to_bits binary64 c.abs.result + 1 < 2 ^ 64 =
    subst (λ (z : Float). to_bits binary64 z + 1 < 2 ^ 64) (sym c.abs.ensures)
    (higher_fits c.args.x (subst T (sym c.well_formed.0.1) tt) (sym c.is_finite.ensures ∙ c.if-is_finite.true)) in
    search rules

pub float_from_bits-result-then-is_finite : goal.float_from_bits-result-then-is_finite
float_from_bits-result-then-is_finite c =
    subst (λ (z : Float). T (not (nan_bits binary64 (to_bits binary64 z + 1)))) (sym c.abs.ensures)
    (higher_pattern c.args.x (subst T (sym c.well_formed.0.1) tt) (sym c.is_finite.ensures ∙ c.if-is_finite.true))

pub returns-then-is_finite : goal.returns-then-is_finite
unfolding just_below
returns-then-is_finite c = simp (c.if-x.false, sym c.is_finite.ensures ∙ c.if-is_finite.true, sym c.abs.ensures)

pub returns : goal.returns
unfolding just_below
returns c = simp (c.if-x.false, sym c.is_finite.ensures ∙ c.if-is_finite.false)
