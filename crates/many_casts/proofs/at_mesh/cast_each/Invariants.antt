-- `many_casts::at_mesh::cast_each` meets its contract. Assumes nothing.
use Prim.Native.Nat.{◌-◌}
use mathlib.Core.Path.{◌≡◌, ◌∙◌}
use native.Mathlib.Omega.{arith}
use lib.ListN.{length}
use Rattle.tree.specs.Layout.{Tree, tree_of}
use Rattle.tree.specs.Mesh.{thirds, mesh}
use Rattle.many_casts.specs.Many.{places, mesh_answer}
use Rattle.many_casts.proofs.Answers.{answers_all}
use Rattle.many_casts.proofs.Progress.{Answered, none_answered, has_place, next_answered, still_ready, walk_room, same_answer}
use Rattle.many_casts.proofs.at_mesh.cast_each.Given as goal

abbrev pub invariant-loop-i : goal.invariant-loop-i
invariant-loop-i l =
    Answered (mesh_answer (mesh l.vertices l.triangles) l.pose (tree_of l.nodes l.node_boxes l.triangle_boxes l.node_words l.order)
    (length l.initial.list)
    (length l.initial.stack)) l.rays l.count l.i (places l.initial.codes l.initial.hits l.initial.indices)
    (places l.codes l.hits l.indices) l.initial.list l.list l.initial.stack l.stack
