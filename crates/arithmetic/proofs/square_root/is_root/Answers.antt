-- A guess that passes the test is close, and then its digits tell.
use Rattle.std.proofs.Common.{◌+◌, ◌^◌, T, sym, subst, arith}
use lib.Ieee.{binary64, of_bits}
use Rattle.arithmetic.proofs.RootScaled.{no_nan}
use Rattle.arithmetic.proofs.RootClose.{passed_number, passed_close}
use Rattle.arithmetic.proofs.square_root.is_root.Goals as goal

pub float_from_bits-off : goal.float_from_bits-off
float_from_bits-off c = no_nan c.args.b (omega (arith, c.requires))

pub float_to_bits-guess : goal.float_to_bits-guess
float_to_bits-guess c = passed_number (of_bits binary64 c.args.b) c.args.guess c.if-off.true

pub is_nearest-requires : goal.is_nearest-requires
is_nearest-requires c =
    let passed = passed_close (of_bits binary64 c.args.b) c.args.guess c.args.m c.wrapping_sub_u64-digits.result c.requires.4
    c.requires.0 c.requires.1 (subst T (sym c.well_formed.1.1.0.1) tt) c.if-off.true
    (omega (arith, c.wrapping_sub_u64-digits.ensures.value, c.if-digits-lt4503599627370496.true))
    (omega (arith, c.if-digits-lt4503599627370496.true)) in
    (omega arith, passed.close)

-- the guess has the digits that are nearest
pub returns-then-digits-lt4503599627370496 : goal.returns-then-digits-lt4503599627370496
returns-then-digits-lt4503599627370496 c h =
    let passed = passed_close (of_bits binary64 c.args.b) c.args.guess c.args.m c.wrapping_sub_u64-digits.result c.requires.4
    c.requires.0 c.requires.1 (subst T (sym c.well_formed.1.1.0.1) tt) c.if-off.true
    (omega (arith, c.wrapping_sub_u64-digits.ensures.value, c.if-digits-lt4503599627370496.true))
    (omega (arith, c.if-digits-lt4503599627370496.true)) in
    record {
      digits = c.wrapping_sub_u64-digits.result + 2 ^ 52;
      value = passed.value;
      nearest_root = c.is_nearest.ensures h;
    }
