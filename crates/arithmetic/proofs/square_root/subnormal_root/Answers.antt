-- `arithmetic::square_root::subnormal_root` meets its contract. The loop's invariant: m * 4 ^ k stays the number's value. The measure is k.
use Rattle.std.proofs.Common.{arith}
use lib.Ieee.{binary64, of_bits}
use Rattle.arithmetic.proofs.RootPatterns.{lifted_at_first, lifted_left, lifted_again, lifted_scaled}
use Rattle.arithmetic.proofs.square_root.subnormal_root.Goals as goal

pub loop-m-init : goal.loop-m-init
loop-m-init c = lifted_at_first c.args.b c.requires.1

pub overflow_sub-k : goal.overflow_sub-k
overflow_sub-k c = lifted_left c.args.b c.loop-m.m c.loop-m.k c.requires.0 c.loop-m.invariant c.loop-m-test.true

pub loop-m-smaller : goal.loop-m-smaller
loop-m-smaller c =
    omega (
      arith,
      lifted_left c.args.b c.loop-m.m c.loop-m.k c.requires.0 c.loop-m.invariant
          c.loop-m-test.true,
    )

pub loop-m-preserved : goal.loop-m-preserved
loop-m-preserved c =
    lifted_again c.args.b c.loop-m.m c.loop-m.k
    (lifted_left c.args.b c.loop-m.m c.loop-m.k c.requires.0 c.loop-m.invariant c.loop-m-test.true)
    c.loop-m.invariant
    c.loop-m-test.true

pub returns : goal.returns
returns c =
    c.scaled_root.ensures (of_bits binary64 c.args.b)
    (lifted_scaled c.args.b c.loop-m.m c.loop-m.k c.requires.1 c.loop-m.invariant)
