-- The places so far have their numbers, and the rest is as it was.
use Rattle.std.proofs.Common.{◌≡◌, ◌++◌, drop}
use Rattle.lists.specs.Lists.{range}
use Rattle.lists.proofs.fill.number.Given as goal

abbrev pub invariant-loop-i : goal.invariant-loop-i
invariant-loop-i l = l.area ≡ range 0 l.i ++ drop l.i l.initial.area
