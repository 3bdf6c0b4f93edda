-- Below 2^52 the cast neither saturates nor loses a digit.
use Rattle.std.proofs.Common.{ℕ, pos, ap, ◌∙◌, arith}
use lib.Ieee.{binary64, of_int}
use Rattle.arithmetic.proofs.Exactness.{small_in_float}
use Rattle.arithmetic.proofs.Steps.{small_in_range, cut_is, cut_small}
use Rattle.arithmetic.proofs.rounding.cut.Goals as goal

pub truncating_f64_to_u64-requires : goal.truncating_f64_to_u64-requires
truncating_f64_to_u64-requires c =
    let within = small_in_range c.args.a c.requires.0 c.requires.1 in
    record { lower_bound = within.0; upper_bound = within.1 }

pub int_to_float-result : goal.int_to_float-result
int_to_float-result c =
    let small = cut_small c.args.a c.requires.0 c.requires.1 in
    let same = c.truncating_f64_to_u64.ensures in
    small_in_float c.truncating_f64_to_u64.result (omega arith)

pub returns : goal.returns
returns c =
    ap (λ (n : ℕ). of_int binary64 (pos n)) (c.truncating_f64_to_u64.ensures ∙ cut_is c.args.a c.requires.0 c.requires.1)
