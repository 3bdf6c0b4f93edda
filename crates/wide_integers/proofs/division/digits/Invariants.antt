-- The loop's invariant: the digits so far times whole, and what is left, are the number that is divided, doubled as often. Assumes nothing.
use Rattle.std.proofs.Common.{◌+◌}
use Rattle.wide_integers.specs.Division.{magnitude}
use Rattle.wide_integers.proofs.DivisionLaws.{Dividing}
use Rattle.wide_integers.proofs.division.digits.Given as goal

abbrev pub invariant-loop-i : goal.invariant-loop-i
invariant-loop-i l = Dividing l.whole (magnitude l.whole + magnitude l.initial.at.rest) l._i l.at
