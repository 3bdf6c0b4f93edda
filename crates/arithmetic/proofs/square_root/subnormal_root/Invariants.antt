-- `arithmetic::square_root::subnormal_root` meets its contract. The loop's invariant: m * 4 ^ k stays the number's value. The measure is k.
use Rattle.arithmetic.proofs.RootPatterns.{Lifted}
use Rattle.arithmetic.proofs.square_root.subnormal_root.Given as goal

abbrev pub invariant-loop-m : goal.invariant-loop-m
invariant-loop-m l = Lifted l.b l.m l.k

abbrev pub decreases-loop-m : goal.decreases-loop-m
decreases-loop-m l = l.k
