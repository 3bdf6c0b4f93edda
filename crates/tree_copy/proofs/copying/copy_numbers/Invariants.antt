-- `tree_copy::copying::copy_numbers`: the numbers before are copied.
use Rattle.std.proofs.Common.{◌≡◌, take}
use lib.Seq.{sets}
use Rattle.tree_copy.proofs.copying.copy_numbers.Given as goal

abbrev pub invariant-loop-i : goal.invariant-loop-i
invariant-loop-i l = l.area ≡ sets l.initial.area l.place (take l.i l.from)
