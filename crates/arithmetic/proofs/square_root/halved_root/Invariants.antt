-- `arithmetic::square_root::halved_root` meets its contract. The loop's invariant: the interval holds the root. The measure is its width.
use Rattle.std.proofs.Common.{◌-◌}
use Rattle.arithmetic.proofs.RootHalves.{Between}
use Rattle.arithmetic.proofs.square_root.halved_root.Given as goal

abbrev pub invariant-loop-high : goal.invariant-loop-high
invariant-loop-high l = Between l.m l.low l.high

abbrev pub decreases-loop-high : goal.decreases-loop-high
decreases-loop-high l = l.high - l.low
