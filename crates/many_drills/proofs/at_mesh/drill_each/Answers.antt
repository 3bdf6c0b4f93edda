-- `many_drills::at_mesh::drill_each` meets its contract. Assumes nothing.
use Prim.Native.Nat.{◌-◌}
use mathlib.Core.Path.{◌≡◌, ◌∙◌}
use native.Mathlib.Omega.{arith}
use lib.ListN.{length}
use Rattle.tree.specs.Layout.{tree_of}
use Rattle.tree.specs.Mesh.{mesh}
use Rattle.many_drills.specs.Many.{places, tree_answer}
use Rattle.many_drills.proofs.Answers.{answers_all}
use Rattle.many_drills.proofs.Progress.{Answered, none_answered, has_place, next_answered, same_answer}
use Rattle.many_drills.proofs.at_mesh.drill_each.Goals as goal

pub loop-i-init : goal.loop-i-init
loop-i-init c = none_answered _ _ _ _ _ _

pub drill_at-requires : goal.drill_at-requires
drill_at-requires c = has_place _ _ _ _ _ _ _ _ _ _ (omega arith) c.loop-i.invariant c.requires

-- one more drill
pub loop-i-preserved : goal.loop-i-preserved
loop-i-preserved c =
    let inv = c.loop-i.invariant in
    let kept = c.drill_at.auto in
    next_answered _ _ _ _ _ _ _ _ _ _ (omega arith) inv _ _ _
    (c.drill_at.ensures ∙ same_answer _ _ _ _ _ _ inv.list_long inv.stack_long _ _ _ _)
    kept.codes kept.indices kept.list kept.stack

-- all of them
pub returns : goal.returns
returns c =
    let inv = c.loop-i.invariant in
    let end : c.loop-i.i ≡ c.args.count = omega (arith, inv.most) in
    answers_all _ _ _ _ _ _ inv.returned end
