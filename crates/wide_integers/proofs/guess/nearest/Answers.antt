-- `wide_integers::guess::nearest` meets its contract. Assumes nothing.
use Rattle.std.proofs.Common.{ℕ, false, sym, ap, ◌∙◌, arith}
use lib.Ieee.{binary64, round, of_bits, div}
use Rattle.wide_integers.specs.Value.{value}
use Rattle.wide_integers.specs.Division.{magnitude, Positive}
use Rattle.wide_integers.proofs.NaturalLaws.{whole_positive, fraction_negative, fraction_none, fraction_is, none_above}
use Rattle.wide_integers.proofs.RoundLaws.{round_zero}
use Rattle.wide_integers.proofs.guess.nearest.Goals as goal
use Rattle.wide_integers.proofs.guess.nearest.Goals.{Then-is_positive, Then-is_positive-2}

-- t is below 0
pub returns-then-is_negative : goal.returns-then-is_negative
unfolding of_bits div
returns-then-is_negative c = fraction_negative (value c.args.t) (value c.args.w) (sym c.if-is_negative.ensures)

-- both are above 0
whole : (c : Then-is_positive) → Positive c.args.w
whole c =
    whole_positive c.args.w (record { high = omega arith; middle = omega arith; low = omega arith }) (sym c.if-is_positive.ensures)

both : (c : Then-is_positive-2) → Positive c.args.t × Positive c.args.w
both c = (
  whole_positive c.args.t (record { high = omega arith; middle = omega arith; low = omega arith }) (sym c.if-is_positive-2.ensures),
  whole (goal.at.quick-requires c).Then-is_positive,
)

pub quick-requires : goal.quick-requires
quick-requires c = both c

pub careful-requires : goal.careful-requires
careful-requires c = both (goal.at.careful-requires c).Then-is_positive-2

-- t is 0
pub returns-then-is_positive : goal.returns-then-is_positive
unfolding of_bits
returns-then-is_positive c =
    let z = none_above (value c.args.t) (sym c.if-is_negative.ensures) (sym c.if-is_positive-2.ensures) in
    sym (round_zero (magnitude c.args.w) (whole (goal.at.returns-then-is_positive c).Then-is_positive).positive)
    ∙ sym (ap (λ (k : ℕ). round binary64 false k (magnitude c.args.w)) z)
    ∙ fraction_is (value c.args.t) (value c.args.w) (sym c.if-is_negative.ensures) (sym c.if-is_positive.ensures)

-- w is not above 0
pub returns : goal.returns
unfolding of_bits div
returns c = fraction_none (value c.args.t) (value c.args.w) (sym c.if-is_negative.ensures) (sym c.if-is_positive.ensures)
