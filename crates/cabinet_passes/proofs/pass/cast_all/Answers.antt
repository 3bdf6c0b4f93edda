use Rattle.std.proofs.Common.{◌≡◌, ap, ◌∙◌, length, arith}
use Rattle.cabinet.specs.Steps.{is_idle}
use Rattle.cabinet.proofs.Idle.{idle_stays}
use Rattle.cabinet_passes.proofs.Turns.{step_turn, step_end}
use Rattle.cabinet_passes.proofs.pass.cast_all.Goals as goal

pub loop-part-preserved : goal.loop-part-preserved
loop-part-preserved c =
    let before = c.loop-part.invariant in
    let done = c.cast_part-s in record {
      left =
          step_turn _ _ _ _ _ _ _ _ _ _ c.loop-part-test.true before.list_long before.stack_long done.ensures.0
          ∙ before.left;
      list_long = done.auto.list ∙ before.list_long;
      stack_long = done.auto.stack ∙ before.stack_long;
      kept = λ idle.
          let still = before.kept idle in
          let same = done.ensures.1 still.0 in
          (ap is_idle done.ensures.0 ∙ idle_stays _ _ _ _ _ still.0, (same.0 ∙ still.1.0, same.1 ∙ still.1.1));
    }

pub returns : goal.returns
returns c =
    let before = c.loop-part.invariant in
    let over : c.loop-part.part-index ≡ length c.args.parts.now = omega arith in
    (step_end _ _ _ _ _ _ over ∙ before.left, λ idle. (before.kept idle).1)
