-- `wide_integers::division::assembled` meets its contract. Assumes nothing.
use Rattle.std.proofs.Common.{ℕ, ◌+◌, ◌*◌, ◌^◌, ◌<◌, ◌≤◌, sym, ap, ◌∙◌, subst, le_trans, arith}
use Prim.Native.Nat.{compare}
use lib.Ieee.{binary64, units}
use lib.Ieee.Nearest.{nearest-ge}
use lib.Ieee.Fits.{nearest-le}
use Rattle.arithmetic.proofs.RootScaled.{no_nan}
use Rattle.wide_integers.specs.Division.{magnitude}
use Rattle.wide_integers.proofs.RoundLaws.{digits_pattern}
use Rattle.wide_integers.proofs.division.assembled.Statement.{statement}
use Rattle.wide_integers.proofs.division.assembled.Tie as tie

-- the rounded digits
least : (r : tie.After-rounded) → 2 ^ 52 ≤ r.rounded.result
least r =
    let s : tie.Start = search in
    subst (λ (n : ℕ). 2 ^ 52 ≤ n) (sym r.rounded.ensures)
    (le_trans s.requires.0.least (nearest-ge s.args.at.word
    (compare (magnitude s.args.at.rest * 2) (magnitude s.args.whole))))

most : (r : tie.After-rounded) → r.rounded.result ≤ 2 ^ 53
most r =
    let s : tie.Start = search in
    subst (λ (n : ℕ). n ≤ 2 ^ 53) (sym r.rounded.ensures)
    (le_trans (nearest-le s.args.at.word (compare (magnitude s.args.at.rest * 2) (magnitude s.args.whole))) s.requires.0.most)

small : (r : tie.After-rounded) → let s = r.args in s.k * 2 ^ 52 + r.rounded.result < 2047 * 2 ^ 52
small r = let m = most r in let k = r.requires.1 in plain r.args.k r.rounded.result m k
  where
    plain : (k n : ℕ) → n ≤ 2 ^ 53 → k ≤ 1500 → k * 2 ^ 52 + n < 2047 * 2 ^ 52
    plain k n m l = omega (arith, m, l)

add-result : tie.Need-overflow_add-result
add-result c = let f = small c in record { fits = omega (arith, f) }

float-from-bits-result : tie.Need-float_from_bits-result
float-from-bits-result c = no_nan _ (small c)

returns : tie.Need-returns
returns c =
    sym (digits_pattern c.rounded.result c.args.k (least c) (most c) c.requires.1)
    ∙ ap (λ (n : ℕ). units binary64 _ n c.args.k) c.rounded.ensures

pub assembled_spec : {M : Type 1} → statement M
assembled_spec =
    tie.close
    (tie.spec
    (λ c. let l = c.requires.1 in record { fits = omega (arith, l) })  -- overflow_mul-result
    (λ c κs. c.requires.0)  -- rounded-requires
    add-result
    float-from-bits-result
    returns)
