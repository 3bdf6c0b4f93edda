-- `tree_copy::copying::copy_nodes`: the nodes before are copied.
use Rattle.std.proofs.Common.{◌≡◌}
use lib.Seq.{sets}
use Rattle.tree_copy.specs.Moved.{moved_nodes}
use Rattle.tree_copy.proofs.copying.copy_nodes.Given as goal

abbrev pub invariant-loop-i : goal.invariant-loop-i
invariant-loop-i l = l.area ≡ sets l.initial.area l.place (moved_nodes l.nodes l.places l.words l.i)
