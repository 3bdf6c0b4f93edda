-- The whole part above zero, the size rounded up below it, and the number itself where every float is whole.
use Rattle.std.proofs.Common.{T, sym, ap, ◌∙◌, subst}
use lib.Ieee.{of_bits, neg}
use Rattle.arithmetic.specs.Rounding.{toward_negative, floor_of}
use Rattle.arithmetic.proofs.WholeNumbers.{toward_negative_exact, whole_above_zero, whole_below_zero, kept_above_zero}
use Rattle.arithmetic.proofs.WholeNumbers.{kept_below_zero, kept_off_order}
use Rattle.arithmetic.proofs.rounding.floor.Goals as goal

pub cut-requires : goal.cut-requires
unfolding of_bits
cut-requires c = (c.if-x.true, c.if-x-2.true)

pub returns-then-x-2 : goal.returns-then-x-2
unfolding of_bits floor_of
returns-then-x-2 c = c.cut.ensures ∙ sym (whole_above_zero toward_negative c.args.x c.if-x.true c.if-x-2.true)

pub raised-requires : goal.raised-requires
unfolding of_bits
raised-requires c = (c.if-a.true, c.if-a-2.true)

pub returns-then-a-2 : goal.returns-then-a-2
unfolding of_bits floor_of
returns-then-a-2 c = ap neg c.raised.ensures ∙ sym (whole_below_zero toward_negative c.args.x c.if-a.true c.if-a-2.true)

pub returns-then-x : goal.returns-then-x
unfolding of_bits floor_of
returns-then-x c =
    sym (kept_above_zero toward_negative toward_negative_exact c.args.x (subst T (sym c.well_formed.0.1) tt) c.if-x.true c.if-x-2.false)

pub returns-then-a : goal.returns-then-a
unfolding of_bits floor_of
returns-then-a c =
    sym (kept_below_zero toward_negative toward_negative_exact c.args.x (subst T (sym c.well_formed.0.1) tt) c.if-a.true c.if-a-2.false)

pub returns : goal.returns
unfolding of_bits floor_of
returns c =
    sym (kept_off_order toward_negative toward_negative_exact c.args.x (subst T (sym c.well_formed.0.1) tt) c.if-x.false c.if-a.false)
