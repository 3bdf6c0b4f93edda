-- The size rounded to the nearest on either side of zero, and the number itself where every float is whole.
use Rattle.std.proofs.Common.{T, sym, ap, ◌∙◌, subst}
use lib.Ieee.{of_bits, neg}
use Rattle.arithmetic.specs.Rounding.{ties_away, round_of}
use Rattle.arithmetic.proofs.WholeNumbers.{ties_away_exact, whole_above_zero, whole_below_zero, kept_above_zero}
use Rattle.arithmetic.proofs.WholeNumbers.{kept_below_zero, kept_off_order}
use Rattle.arithmetic.proofs.rounding.round.Goals as goal

pub nearest-requires : goal.nearest-requires
unfolding of_bits
nearest-requires c = (c.if-x.true, c.if-x-2.true)

pub returns-then-x-2 : goal.returns-then-x-2
unfolding of_bits round_of
returns-then-x-2 c = c.nearest.ensures ∙ sym (whole_above_zero ties_away c.args.x c.if-x.true c.if-x-2.true)

pub nearest-requires-then-a-2 : goal.nearest-requires-then-a-2
unfolding of_bits
nearest-requires-then-a-2 c = (c.if-a.true, c.if-a-2.true)

pub returns-then-a-2 : goal.returns-then-a-2
unfolding of_bits round_of
returns-then-a-2 c = ap neg c.nearest-then-a-2.ensures ∙ sym (whole_below_zero ties_away c.args.x c.if-a.true c.if-a-2.true)

pub returns-then-x : goal.returns-then-x
unfolding of_bits round_of
returns-then-x c =
    sym (kept_above_zero ties_away ties_away_exact c.args.x (subst T (sym c.well_formed.0.1) tt) c.if-x.true c.if-x-2.false)

pub returns-then-a : goal.returns-then-a
unfolding of_bits round_of
returns-then-a c =
    sym (kept_below_zero ties_away ties_away_exact c.args.x (subst T (sym c.well_formed.0.1) tt) c.if-a.true c.if-a-2.false)

pub returns : goal.returns
unfolding of_bits round_of
returns c = sym (kept_off_order ties_away ties_away_exact c.args.x (subst T (sym c.well_formed.0.1) tt) c.if-x.false c.if-a.false)
