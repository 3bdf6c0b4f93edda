-- Each of the tests singles out a case of the definition.
use Rattle.std.proofs.Common.{T, sym, ap, ◌∙◌, subst, arith}
use lib.Ieee.{binary64}
use lib.Ieee.Bits.{of_bits-to_bits}
use Rattle.arithmetic.specs.Root.{root_of}
use Rattle.arithmetic.proofs.RootCases.{above_no_nan, above_pattern, highest_is_root, zero_is_root, quotient_is_root}
use Rattle.arithmetic.proofs.square_root.root.Goals as goal

pub float_to_bits-b : goal.float_to_bits-b
float_to_bits-b c = above_no_nan c.args.x c.if-x.true

pub careful_root-requires : goal.careful_root-requires
careful_root-requires c = (above_pattern c.args.x (subst T (sym c.well_formed.0.1) tt) c.if-x.true, omega arith)

pub returns-then-b-lt4503599627370496 : goal.returns-then-b-lt4503599627370496
returns-then-b-lt4503599627370496 c =
    c.careful_root.ensures ∙ ap root_of (of_bits-to_bits binary64 c.args.x (subst T (sym c.well_formed.0.1) tt))

pub returns-then-b-lt9218868437227405312 : goal.returns-then-b-lt9218868437227405312
returns-then-b-lt9218868437227405312 c =
    c.normal_root.ensures ∙ ap root_of (of_bits-to_bits binary64 c.args.x (subst T (sym c.well_formed.0.1) tt))

pub returns-then-x : goal.returns-then-x
returns-then-x c =
    highest_is_root c.args.x (subst T (sym c.well_formed.0.1) tt) c.if-x.true c.if-b-lt9218868437227405312.false

pub returns-then-x-2 : goal.returns-then-x-2
returns-then-x-2 c = zero_is_root c.args.x c.if-x-2.true

pub returns : goal.returns
returns c = quotient_is_root c.args.x c.if-x.false c.if-x-2.false
