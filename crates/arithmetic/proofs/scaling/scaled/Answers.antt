-- Below 1 by two products, of which the first is exact, and else by one.
use Rattle.std.proofs.Common.{T, sym, subst}
use Rattle.arithmetic.proofs.ScalingLaws.{sized, large_normal, large_scaled, lifted_normal, lifted_finite, lifted_above}
use Rattle.arithmetic.proofs.ScalingLaws.{small_scaled}
use Rattle.arithmetic.proofs.scaling.scaled.Goals as goal

pub power_for-requires : goal.power_for-requires
power_for-requires c =
    let f = subst T (sym c.well_formed.1.0.1) tt in
    let k = sized c.args.x c.args.largest (subst T (sym c.well_formed.0.1) tt) f c.requires.0 c.requires.1.0 c.requires.1.1 in
    let small = c.if-largest.true in
    (lifted_above _ _ k f small, (lifted_finite _ _ k f small, lifted_normal _ _ k f small))

pub returns-then-largest : goal.returns-then-largest
returns-then-largest c =
    let g = subst T (sym c.well_formed.0.1) tt in
    let f = subst T (sym c.well_formed.1.0.1) tt in
    let k = sized c.args.x c.args.largest g f c.requires.0 c.requires.1.0 c.requires.1.1 in
    small_scaled _ _ k f c.if-largest.true _ g c.power_for.ensures

pub power_for-requires-2 : goal.power_for-requires-2
power_for-requires-2 c =
    let f = subst T (sym c.well_formed.1.0.1) tt in
    let k = sized c.args.x c.args.largest (subst T (sym c.well_formed.0.1) tt) f c.requires.0 c.requires.1.0 c.requires.1.1 in
    (c.requires.0, (c.requires.1.0, large_normal _ _ k c.if-largest.false))

pub returns : goal.returns
returns c =
    let f = subst T (sym c.well_formed.1.0.1) tt in
    let k = sized c.args.x c.args.largest (subst T (sym c.well_formed.0.1) tt) f c.requires.0 c.requires.1.0 c.requires.1.1 in
    large_scaled _ _ k _ c.power_for-2.ensures
