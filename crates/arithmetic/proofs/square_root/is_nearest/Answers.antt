-- Of a close q the rest modulo 2 ^ 64 tells.
use Rattle.std.proofs.Common.{◌*◌, arith, ltb-true}
use Rattle.arithmetic.proofs.RootHalves.{words_small, rest_nearest}
use Rattle.arithmetic.proofs.square_root.is_nearest.Goals as goal

pub overflow_mul-a : goal.overflow_mul-a
overflow_mul-a c = omega (arith, words_small c.args.q c.requires.1.small)

pub overflow_mul-b : goal.overflow_mul-b
overflow_mul-b c = omega (arith, words_small c.args.q c.requires.1.small)

pub overflow_mul-result : goal.overflow_mul-result
overflow_mul-result c = omega (arith, c.requires.1.small)

pub returns : goal.returns
returns c h =
    rest_nearest c.args.m c.args.q c.wrapping_add_u64-square.result c.wrapping_sub_u64-rest.result
    c.wrapping_add_u64.result c.requires.0 c.requires.1 c.wrapping_add_u64-square.ensures.value
    c.wrapping_sub_u64-rest.ensures.value c.wrapping_add_u64.ensures.value
    (ltb-true c.wrapping_add_u64.result (2 * c.args.q) h)
