-- `mesh_plain::boxes::all_finite` meets its contract. Assumes nothing.
use Rattle.std.proofs.Common.{sym, ◌∙◌, arith}
use Rattle.mesh_plain.proofs.FiniteSums.{summed_begins, summed_goes, summed_ends}
use Rattle.mesh_plain.proofs.boxes.all_finite.Goals as goal

pub loop-i-init : goal.loop-i-init
loop-i-init c = summed_begins _ _

-- one more vertex
pub loop-i-preserved : goal.loop-i-preserved
loop-i-preserved c =
    summed_goes _ _ _ c.loop-i.invariant c.loop-i-test.true _ c.vector_at.ensures _ c.add-sum.ensures

pub returns : goal.returns
returns c = λ h. summed_ends _ _ _ c.loop-i.invariant (omega arith) (sym c.is_finite.ensures ∙ h)
