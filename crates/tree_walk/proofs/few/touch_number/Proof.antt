-- `tree_walk::few::touch_number` meets its contract. Assumes nothing.
use lib.Ieee.{le}
use Rattle.geometry.specs.Box.{touches}
use mathlib.Core.Bool.{◌&&◌}
use native.Mathlib.Omega.{arith}
use Rattle.tree_walk.proofs.FewPlaces.{number_small, numbers_joined, four_joined, touch_number_is}
use borrow.Author.Rules.{rules}
use Rattle.tree_walk.proofs.few.touch_number.Statement.{statement}
use Rattle.tree_walk.proofs.few.touch_number.Tie as tie

mul_low : tie.Need-overflow_mul-low
mul_low c =
    let s : tie.Start = search in
    let a = s.args.near in
    let b = s.args.bounds in
    let p = le a.min.x b.max.x in
    let q = le a.min.y b.max.y in
    omega (arith, numbers_joined p q, number_small (p && q))

mul-high : tie.Need-overflow_mul-high
mul-high c =
    let s : tie.Start = search in
    let a = s.args.near in
    let b = s.args.bounds in
    let p = le b.min.y a.max.y in
    let q = le b.min.z a.max.z in
    omega (arith, numbers_joined p q, number_small (p && q))

mul-rest : tie.Need-overflow_mul-rest
mul-rest c =
    let s : tie.Start = search in
    let a = s.args.near in
    let b = s.args.bounds in
    let p = le a.min.z b.max.z in
    let q = le b.min.x a.max.x in
    omega (arith, numbers_joined p q, number_small (p && q))

mul-result : tie.Need-overflow_mul-result
mul-result c =
    let s : tie.Start = search in
    let a = s.args.near in
    let b = s.args.bounds in
    let p = le a.min.x b.max.x in
    let q = le a.min.y b.max.y in
    let r = le b.min.y a.max.y in
    let t = le b.min.z a.max.z in
    omega (arith, four_joined p q r t, number_small ((p && q) && (r && t)))

mul-result-2 : tie.Need-overflow_mul-result-2
mul-result-2 c =
    let s : tie.Start = search in
    omega (arith, touch_number_is s.args.near s.args.bounds, number_small (touches s.args.near s.args.bounds))

returns : tie.Need-returns
returns c =
    let s : tie.Start = search in
    touch_number_is s.args.near s.args.bounds

pub touch_number_spec : {M : Type 1} → statement M
touch_number_spec =
    tie.close
    (tie.spec
    (search rules)  -- overflow_cast-low
    (search rules)  -- overflow_cast-low-2
    mul_low
    (search rules)  -- overflow_cast-high
    (search rules)  -- overflow_cast-high-2
    mul-high
    (search rules)  -- overflow_cast-rest
    (search rules)  -- overflow_cast-rest-2
    mul-rest
    mul-result
    mul-result-2
    returns)
