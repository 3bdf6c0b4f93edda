-- `wide_integers::triples::times_add` meets its contract. Assumes nothing.
use Rattle.std.proofs.Common.{◌*◌, ◌/◌, ◌%◌, ◌≤◌, refl, arith, rules}
use Rattle.wide_integers.proofs.WordLaws.{halves}
use Rattle.wide_integers.proofs.Rows.{times_added}
use Rattle.wide_integers.proofs.triples.times_add.Statement.{statement}
use Rattle.wide_integers.proofs.triples.times_add.Tie as tie

-- the products of the halves
low-low : (s : tie.Start) → s.args.a % 4294967296 * (s.args.b % 4294967296) ≤ 18446744065119617025
low-low s = halves (omega arith) (omega arith)

high-low : (s : tie.Start) → s.args.a / 4294967296 * (s.args.b % 4294967296) ≤ 18446744065119617025
high-low s = halves (omega arith) (omega arith)

low-high : (s : tie.Start) → s.args.a % 4294967296 * (s.args.b / 4294967296) ≤ 18446744065119617025
low-high s = halves (omega arith) (omega arith)

high-high : (s : tie.Start) → s.args.a / 4294967296 * (s.args.b / 4294967296) ≤ 18446744065119617025
high-high s = halves (omega arith) (omega arith)

mul-first : tie.Need-overflow_mul-first
mul-first c = omega (arith, low-low c)

add-first : tie.Need-overflow_add-first
add-first c = omega (arith, low-low c)

add-first-2 : tie.Need-overflow_add-first-2
add-first-2 c = omega (arith, low-low c)

mul-second : tie.Need-overflow_mul-second
mul-second c = omega (arith, high-low c)

add-second : tie.Need-overflow_add-second
add-second c = omega (arith, low-low c, high-low c)

add-second-2 : tie.Need-overflow_add-second-2
add-second-2 c = omega (arith, low-low c, high-low c)

mul-third : tie.Need-overflow_mul-third
mul-third c = omega (arith, low-high c)

add-third : tie.Need-overflow_add-third
add-third c = omega (arith, low-high c)

add-third-2 : tie.Need-overflow_add-third-2
add-third-2 c = omega (arith, low-high c)

mul-t12 : tie.Need-overflow_mul-result
mul-t12 c = omega (arith, high-high c)

add-t14 : tie.Need-overflow_add-result
add-t14 c = omega (arith, low-low c, high-low c, high-high c)

add-t16 : tie.Need-overflow_add-result-2
add-t16 c = omega (arith, low-low c, high-low c, low-high c, high-high c)

returns : tie.Need-returns
returns c =
    times_added c.args.a c.args.b c.args.c c.args.d _ _ _ refl refl refl
    (omega (arith, low-low c, high-low c, low-high c, high-high c))

pub times_add_spec : {M : Type 1} → statement M
times_add_spec =
    tie.close
    (tie.spec
    mul-first
    add-first
    add-first-2
    mul-second
    add-second
    add-second-2
    mul-third
    add-third
    add-third-2
    mul-t12
    add-t14
    add-t16
    (search rules)  -- overflow_mul-result-2
    (search rules)  -- overflow_add-result-3
    returns)
