-- The doubled number is exact, and half of its whole part and one is the nearest whole number.
use Rattle.std.proofs.Common.{ℕ, ◌+◌, ◌/◌, T, pos, sym, ap, ◌∙◌, subst, arith}
use lib.Ieee.{binary64, of_bits, of_int}
use Rattle.arithmetic.proofs.Exactness.{small_in_float}
use Rattle.arithmetic.proofs.Steps.{doubled_in_range, halves_small, nearest_is}
use Rattle.arithmetic.proofs.rounding.nearest.Goals as goal

pub truncating_f64_to_u64-halves-requires : goal.truncating_f64_to_u64-halves-requires
unfolding of_bits
truncating_f64_to_u64-halves-requires c =
    let within = doubled_in_range c.args.a c.requires.0 c.requires.1 (subst T (sym c.well_formed.0.1) tt) in
    record { lower_bound = within.0; upper_bound = within.1 }

pub overflow_add-result : goal.overflow_add-result
unfolding of_bits
overflow_add-result c =
    let small = halves_small c.args.a c.requires.0 c.requires.1 (subst T (sym c.well_formed.0.1) tt) in
    let same = c.truncating_f64_to_u64-halves.ensures in
    omega arith

pub int_to_float-result : goal.int_to_float-result
unfolding of_bits
int_to_float-result c =
    let small = halves_small c.args.a c.requires.0 c.requires.1 (subst T (sym c.well_formed.0.1) tt) in
    let same = c.truncating_f64_to_u64-halves.ensures in
    small_in_float ((c.truncating_f64_to_u64-halves.result + 1) / 2) (omega arith)

pub returns : goal.returns
unfolding of_bits
returns c =
    ap (λ (n : ℕ). of_int binary64 (pos n))
    (ap (λ (n : ℕ). (n + 1) / 2) c.truncating_f64_to_u64-halves.ensures
    ∙ nearest_is c.args.a c.requires.0 c.requires.1 (subst T (sym c.well_formed.0.1) tt))
