-- `tree_copy::copying::copy_words`: the words before are copied.
use Rattle.std.proofs.Common.{◌≡◌, take}
use lib.Seq.{sets}
use Rattle.tree_copy.specs.Moved.{moved_up}
use Rattle.tree_copy.proofs.copying.copy_words.Given as goal

abbrev pub invariant-loop-i : goal.invariant-loop-i
invariant-loop-i l = l.area ≡ sets l.initial.area l.place (moved_up l.up (take l.i l.from))
