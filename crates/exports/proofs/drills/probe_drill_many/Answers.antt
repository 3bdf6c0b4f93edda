-- `exports::drills::probe_drill_many` meets its contract. Assumes nothing.
use Rattle.exports.proofs.DrillCalls.{drill_each}
use Rattle.exports.proofs.drills.probe_drill_many.Goals as goal

-- the answer is the inner call's, and what is read at each drill's places keeps the single call's promises
pub returns : goal.returns
returns c =
    let returned = c.drill_many.ensures in
    (returned, λ done. drill_each _ _ _ _ _ _ _ (returned.1.1 done))
