-- By the guess and a power of two, or by `careful_root`.
use Rattle.std.proofs.Common.{ℕ, ◌+◌, ◌*◌, ◌/◌, ◌%◌, ◌^◌, false, sym, refl, subst, arith}
use lib.Ieee.{binary64, of_bits}
use lib.Ieee.Exact.{HasValue}
use Rattle.arithmetic.proofs.RootPatterns.{normal_scaled, even_digits, from_one_value}
use Rattle.arithmetic.proofs.RootProduct.{product_is_root}
use Rattle.arithmetic.proofs.RootScaled.{no_nan}
use Rattle.arithmetic.proofs.square_root.normal_root.Goals as goal

pub is_root-requires : goal.is_root-requires
is_root-requires c =
    let low = (c.args.b + 1021 * 2 ^ 52) % 2 ^ 53 in
    let d = even_digits low c.even_digits.result (omega arith) c.even_digits.ensures in (
      d.least,
      omega (arith, d.most),
      omega arith,
      omega arith,
      subst (λ (m : ℕ). HasValue (of_bits binary64 (low + 1023 * 2 ^ 52)) false m (2 ^ 52)) (sym c.even_digits.ensures)
          (from_one_value low (omega arith)),
    )

pub float_from_bits-result : goal.float_from_bits-result
float_from_bits-result c = no_nan (((c.args.b + 1021 * 2 ^ 52) / 2 ^ 53 + 1) * 2 ^ 52) (omega (arith, c.requires))

-- the guess is the root but for a power of two
pub returns-then-is_root : goal.returns-then-is_root
returns-then-is_root c =
    let r = c.args.b + 1021 * 2 ^ 52 in
    let m = c.even_digits.result in
    let d = even_digits (r % 2 ^ 53) m (omega arith) c.even_digits.ensures in
    product_is_root m (r / 2 ^ 53) c.guessed_root-guess.result (of_bits binary64 c.args.b) d.least d.most
    (omega (arith, c.requires)) (c.is_root.ensures c.if-is_root.true)
    (subst (λ (m : ℕ). HasValue (of_bits binary64 c.args.b) false (m * 2 ^ 52 * (2 ^ (r / 2 ^ 53) * 2 ^ (r / 2 ^ 53))) (2 ^ 2148))
    (sym c.even_digits.ensures)
    (normal_scaled c.args.b r c.requires.0 c.requires.1 refl))
