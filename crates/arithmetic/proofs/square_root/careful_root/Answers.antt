-- It hands on the digits and half of the exponent.
use Rattle.std.proofs.Common.{ℕ, ◌+◌, ◌*◌, ◌/◌, ◌%◌, ◌^◌, false, sym, refl, subst, arith}
use lib.Ieee.{binary64, of_bits}
use lib.Ieee.Exact.{HasValue}
use Rattle.arithmetic.proofs.RootPatterns.{normal_scaled, even_digits}
use Rattle.arithmetic.proofs.square_root.careful_root.Goals as goal

pub scaled_root-requires : goal.scaled_root-requires
scaled_root-requires c =
    let d = even_digits ((c.args.b + 1021 * 2 ^ 52) % 2 ^ 53) c.even_digits.result (omega arith) c.even_digits.ensures in
    (d.least, d.most, omega (arith, c.requires))

pub returns : goal.returns
returns c =
    let r = c.args.b + 1021 * 2 ^ 52 in
    c.scaled_root.ensures (of_bits binary64 c.args.b)
    (subst (λ (m : ℕ). HasValue (of_bits binary64 c.args.b) false (m * 2 ^ 52 * (2 ^ (r / 2 ^ 53) * 2 ^ (r / 2 ^ 53))) (2 ^ 2148))
    (sym c.even_digits.ensures)
    (normal_scaled c.args.b r c.if-b-lt4503599627370496.false c.requires.1 refl))
