use Rattle.std.proofs.Common.{◌∙◌, arith}
use Rattle.cabinet.specs.Found.{says_look}
use Rattle.cabinet_passes.proofs.Turns.{look_turn, look_end}
use Rattle.cabinet_passes.proofs.pass.look_all.Goals as goal

pub loop-part-preserved : goal.loop-part-preserved
loop-part-preserved c = look_turn _ _ _ _ _ c.loop-part-test.true c.look_part-s.ensures ∙ c.loop-part.invariant

pub returns : goal.returns
returns c = look_end (says_look c.loop-part.s) c.loop-part.part-index c.args.parts.now (omega arith) ∙ c.loop-part.invariant
