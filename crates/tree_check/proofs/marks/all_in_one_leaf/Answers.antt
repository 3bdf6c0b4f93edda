-- `tree_check::marks::all_in_one_leaf` meets its contract. Assumes nothing.
use Rattle.std.proofs.Common.{refl, sym, ◌∙◌, arith}
use Rattle.lists.proofs.EveryLaws.{every_whole, every_fails, every_passes, every_done}
use Rattle.tree_check.specs.Marks.{leaves_at}
use Rattle.tree_check.proofs.Held.{held_once, one_held, not_held_once}
use Rattle.tree_check.proofs.marks.all_in_one_leaf.Goals as goal

pub loop-p-init : goal.loop-p-init
unfolding leaves_at
loop-p-init c = (omega arith, (refl, every_whole _ _))

pub returns-then-held-marks : goal.returns-then-held-marks
returns-then-held-marks c =
    let i = c.loop-p.invariant in
    sym (every_fails _ _ _ _ c.loop-p-test.true (not_held_once _ _ _ _ i.1.0 c.if-held-marks.true) i.1.1)

pub loop-p-preserved : goal.loop-p-preserved
loop-p-preserved c =
    let i = c.loop-p.invariant in
    let held = held_once _ _ _ _ i.1.0 c.if-held-marks.false in
    (omega arith, (sym held, every_passes _ _ _ _ c.loop-p-test.true (one_held _ _ _ held) i.1.1))

pub returns : goal.returns
returns c = sym (every_done _ _ _ c.loop-p-test.false) ∙ c.loop-p.invariant.1.1
