-- `many_casts::at_exact::cast_each` meets its contract. Assumes nothing.
use Prim.Native.Nat.{◌+◌, ◌-◌}
use mathlib.Core.Path.{◌≡◌, ◌∙◌}
use native.Mathlib.Omega.{arith}
use lib.ListN.{length}
use Rattle.tree.specs.Layout.{Tree, tree_of}
use Rattle.tree.specs.Mesh.{thirds, mesh}
use Rattle.many_casts.specs.Many.{places, exact_answer}
use Rattle.many_casts.proofs.Answers.{answers_all}
use Rattle.many_casts.proofs.Progress.{Answered, none_answered, has_place, next_answered, still_ready, tree_room, same_exact}
use Rattle.many_casts.proofs.at_exact.cast_each.Goals as goal

pub loop-i-init : goal.loop-i-init
loop-i-init c = none_answered _ _ _ _ _ _

pub cast_at-requires : goal.cast_at-requires
cast_at-requires c =
    let tree : Tree =
    let a = c.args in
    tree_of a.nodes a.node_boxes.now a.triangle_boxes.now a.node_words.now a.order.now in
    let inv = c.loop-i.invariant in (
      has_place _ _ _ _ _ _ _ _ _ _ (omega arith) inv c.requires.0,
      still_ready (tree_room (thirds (length c.args.triangles.now)) tree (c.args.nodes + 1) _ _ inv.stack_long) c.requires.1,
    )

-- one more ray
pub loop-i-preserved : goal.loop-i-preserved
loop-i-preserved c =
    let inv = c.loop-i.invariant in
    let kept = c.cast_at.auto in
    next_answered _ _ _ _ _ _ _ _ _ _ (omega arith) inv _ _ _
    (c.cast_at.ensures ∙ same_exact _ _ _ _ _ inv.stack_long _ _ _)
    kept.codes kept.hits kept.indices kept.stack kept.stack

-- all of them
pub returns : goal.returns
returns c =
    let inv = c.loop-i.invariant in
    let end : c.loop-i.i ≡ c.args.count = omega (arith, inv.most) in
    answers_all _ _ _ _ _ _ inv.returned end
