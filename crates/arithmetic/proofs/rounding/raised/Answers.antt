-- The whole part is below the number exactly where there is a fraction.
use Rattle.std.proofs.Common.{◌≡◌, ℕ, ◌+◌, true, false, pos, sym, ap, ◌∙◌, subst, arith}
use lib.Ieee.{binary64, lt, of_int}
use Rattle.arithmetic.proofs.Exactness.{small_in_float}
use Rattle.arithmetic.proofs.Steps.{small_in_range, cut_small, raised_one, raised_none}
use Rattle.arithmetic.proofs.rounding.raised.Goals as goal

pub truncating_f64_to_u64-whole-requires : goal.truncating_f64_to_u64-whole-requires
truncating_f64_to_u64-whole-requires c =
    let within = small_in_range c.args.a c.requires.0 c.requires.1 in
    record { lower_bound = within.0; upper_bound = within.1 }

pub int_to_float-whole : goal.int_to_float-whole
int_to_float-whole c =
    let small = cut_small c.args.a c.requires.0 c.requires.1 in
    let same = c.truncating_f64_to_u64-whole.ensures in
    small_in_float c.truncating_f64_to_u64-whole.result (omega arith)

pub overflow_add-result : goal.overflow_add-result
overflow_add-result c =
    let small = cut_small c.args.a c.requires.0 c.requires.1 in
    let same = c.truncating_f64_to_u64-whole.ensures in
    omega arith

pub int_to_float-result : goal.int_to_float-result
int_to_float-result c =
    let small = cut_small c.args.a c.requires.0 c.requires.1 in
    let same = c.truncating_f64_to_u64-whole.ensures in
    small_in_float (c.truncating_f64_to_u64-whole.result + 1) (omega arith)

pub returns-then-whole-a : goal.returns-then-whole-a
returns-then-whole-a c =
    let whole = c.truncating_f64_to_u64-whole in
    let test = subst (λ (n : ℕ). lt (of_int binary64 (pos n)) c.args.a ≡ true) whole.ensures c.if-whole-a.true in
    ap (λ (n : ℕ). of_int binary64 (pos n))
    (ap (λ (n : ℕ). n + 1) whole.ensures ∙ sym (raised_one c.args.a c.requires.0 c.requires.1 test))

pub int_to_float-result-2 : goal.int_to_float-result-2
int_to_float-result-2 c =
    let small = cut_small c.args.a c.requires.0 c.requires.1 in
    let same = c.truncating_f64_to_u64-whole.ensures in
    small_in_float c.truncating_f64_to_u64-whole.result (omega arith)

pub returns : goal.returns
returns c =
    let whole = c.truncating_f64_to_u64-whole in
    let test = subst (λ (n : ℕ). lt (of_int binary64 (pos n)) c.args.a ≡ false) whole.ensures c.if-whole-a.false in
    ap (λ (n : ℕ). of_int binary64 (pos n)) (whole.ensures ∙ sym (raised_none c.args.a c.requires.0 c.requires.1 test))
