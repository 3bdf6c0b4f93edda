-- `many_casts::at_exact::cast_each` meets its contract. Assumes nothing.
use Prim.Native.Nat.{◌+◌, ◌-◌}
use mathlib.Core.Path.{◌≡◌, ◌∙◌}
use native.Mathlib.Omega.{arith}
use lib.ListN.{length}
use Rattle.tree.specs.Layout.{Tree, tree_of}
use Rattle.tree.specs.Mesh.{thirds, mesh}
use Rattle.many_casts.specs.Many.{places, exact_answer}
use Rattle.many_casts.proofs.Answers.{answers_all}
use Rattle.many_casts.proofs.Progress.{Answered, none_answered, has_place, next_answered, still_ready, tree_room, same_exact}
use Rattle.many_casts.proofs.at_exact.cast_each.Given as goal

abbrev pub invariant-loop-i : goal.invariant-loop-i
invariant-loop-i l =
    Answered (exact_answer (mesh l.vertices l.triangles) l.pose (tree_of l.nodes l.node_boxes l.triangle_boxes l.node_words l.order)
    (length l.initial.stack))
    l.rays l.count l.i (places l.initial.codes l.initial.hits l.initial.indices) (places l.codes l.hits l.indices) l.initial.stack l.stack
    l.initial.stack l.stack
