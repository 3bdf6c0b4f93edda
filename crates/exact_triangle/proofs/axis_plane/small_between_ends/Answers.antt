-- `exact_triangle::axis_plane::small_between_ends` meets its contract. Assumes nothing.
use Rattle.std.proofs.Common.{◌≡◌, pos, refl, ◌∙◌, subst, lit≤}
use lib.Ieee.{Float, binary64, div, of_int}
use Rattle.wide_integers.specs.Division.{fraction_of}
use Rattle.wide_integers.proofs.Reading.{bits, plain, widen, below_read}
use Rattle.exact_triangle.specs.CrossingDistance.{AgainstEnds, below, rounded}
use Rattle.exact_triangle.proofs.SmallQuotients.{small_quotient}
use Rattle.exact_triangle.proofs.UnitLaws.{in_float_lem}
use Rattle.exact_triangle.proofs.axis_plane.small_between_ends.Goals as goal

-- below 0
pub returns-then-t-lt0 : goal.returns-then-t-lt0
returns-then-t-lt0 c = below (below_read {Y = pos 0} (plain (widen c.requires.0 (lit≤ tt))) refl c.if-t-lt0.true) refl

pub int_to_float-t : goal.int_to_float-t
int_to_float-t c = in_float_lem c.requires.0 (lit≤ tt)

pub int_to_float-w : goal.int_to_float-w
int_to_float-w c = in_float_lem c.requires.1.0 (lit≤ tt)

-- by the rounded distance
pub returns : goal.returns
returns c =
    let quotient_is : div binary64 (of_int binary64 (bits c.args.t)) (of_int binary64 (bits c.args.w)) ≡ fraction_of c.args.t c.args.w =
    (λ i. div binary64 (of_int binary64 (plain (widen c.requires.0 (lit≤ tt)) i))
    (of_int binary64 (plain (widen c.requires.1.0 (lit≤ tt)) i)))
    ∙ small_quotient c.args.t c.args.w c.requires.0 c.requires.1.0
    (below_read {Y = pos 0} (plain (widen c.requires.0 (lit≤ tt))) refl c.if-t-lt0.false) c.requires.1.1 in
    rounded (subst (λ (y : Float). AgainstEnds y c.args.start c.args.finish c.against_ends.result) quotient_is
    c.against_ends.ensures)
