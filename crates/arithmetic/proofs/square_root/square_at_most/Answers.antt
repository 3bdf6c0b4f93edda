-- `arithmetic::square_root::square_at_most` meets its contract: the products of the halves fit, and they make the square. Assumes nothing.
use Rattle.std.proofs.Common.{◌*◌, ◌/◌, ◌%◌, ◌^◌, arith}
use Rattle.arithmetic.proofs.RootHalves.{parts_small, square_of_parts, cover_at_most}
use Rattle.arithmetic.proofs.square_root.square_at_most.Goals as goal

pub overflow_mul-cross : goal.overflow_mul-cross
overflow_mul-cross c = omega (arith, parts_small c.args.t c.requires)

pub overflow_mul-low-2 : goal.overflow_mul-low-2
overflow_mul-low-2 c = omega (arith, parts_small c.args.t c.requires)

pub overflow_add-low : goal.overflow_add-low
overflow_add-low c = omega (arith, parts_small c.args.t c.requires)

pub overflow_mul-units : goal.overflow_mul-units
overflow_mul-units c = omega (arith, parts_small c.args.t c.requires)

pub overflow_add-units : goal.overflow_add-units
overflow_add-units c = omega (arith, parts_small c.args.t c.requires)

pub overflow_add-units-2 : goal.overflow_add-units-2
overflow_add-units-2 c = omega (arith, parts_small c.args.t c.requires)

pub overflow_add-units-3 : goal.overflow_add-units-3
overflow_add-units-3 c = omega (arith, parts_small c.args.t c.requires)

pub returns : goal.returns
returns c =
    let t = c.args.t in
    cover_at_most (t * t) c.args.m (t / 2 ^ 27 * (t / 2 ^ 27)) (t / 2 ^ 27 * (t % 2 ^ 27)) (t % 2 ^ 27 * (t % 2 ^ 27))
    (square_of_parts t)
