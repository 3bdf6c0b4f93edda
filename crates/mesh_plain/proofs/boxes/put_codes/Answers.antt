-- `mesh_plain::boxes::put_codes` meets its contract. Assumes nothing.
use Rattle.std.proofs.Common.{arith}
use Rattle.mesh_plain.proofs.CodeLaws.{coding_begins, coding_goes, coding_ends}
use Rattle.mesh_plain.proofs.boxes.put_codes.Goals as goal

pub loop-i-init : goal.loop-i-init
loop-i-init c = coding_begins _ _ _

pub loop-i-preserved : goal.loop-i-preserved
loop-i-preserved c =
    coding_goes _ _ _ _ _ c.loop-i.invariant c.loop-i-test.true
    (omega (arith, c.loop-i-test.true, c.if-limit-codes.false, c.loop-i.invariant.long)) _
    c.vector_at.ensures _ c.code_of.ensures

pub returns : goal.returns
returns c = λ _. coding_ends _ _ _ _ _ c.loop-i.invariant (omega arith) c.if-limit-codes.false
