-- `many_drills::at_mesh::drill_each` meets its contract. Assumes nothing.
use Prim.Native.Nat.{◌-◌}
use mathlib.Core.Path.{◌≡◌, ◌∙◌}
use native.Mathlib.Omega.{arith}
use lib.ListN.{length}
use Rattle.tree.specs.Layout.{tree_of}
use Rattle.tree.specs.Mesh.{mesh}
use Rattle.many_drills.specs.Many.{places, tree_answer}
use Rattle.many_drills.proofs.Answers.{answers_all}
use Rattle.many_drills.proofs.Progress.{Answered, none_answered, has_place, next_answered, same_answer}
use Rattle.many_drills.proofs.at_mesh.drill_each.Given as goal

abbrev pub invariant-loop-i : goal.invariant-loop-i
invariant-loop-i l =
    Answered (tree_answer (mesh l.vertices l.triangles) (tree_of l.nodes l.node_boxes l.triangle_boxes l.node_words l.order)
    (length l.initial.list)
    (length l.initial.stack)) l.drills l.count l.i (places l.initial.codes l.initial.indices) (places l.codes l.indices) l.initial.list
    l.list l.initial.stack l.stack
