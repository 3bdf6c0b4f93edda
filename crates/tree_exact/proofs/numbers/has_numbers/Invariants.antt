-- What each iteration of `tree_exact::numbers::has_numbers` keeps. Assumes nothing.
use Rattle.tree.specs.Mesh.{mesh}
use Rattle.tree_exact.proofs.NumberTests.{NumbersSoFar}
use Rattle.tree_exact.proofs.numbers.has_numbers.Given as goal

abbrev pub invariant-loop-i : goal.invariant-loop-i
invariant-loop-i l = NumbersSoFar (mesh l.vertices l.triangles) l.i
