-- `exports::drills::probe_drill_plain` meets its contract. Assumes nothing.
use mathlib.Core.Path.{◌∙◌}
use Rattle.tree.specs.Mesh.{Mesh, mesh}
use Rattle.exports.proofs.DrillCalls.{index_there, index_missing, plain_short, plain_returned_lem, drill_plain_certain}
use Rattle.exports.proofs.drills.probe_drill_plain.Goals as goal

-- the index slice is too short
pub returns-then-index-lt1 : goal.returns-then-index-lt1
returns-then-index-lt1 c =
    let own : Mesh =
    mesh c.args.vertices.now c.args.triangles.now in
    let a = c.args in
    drill_plain_certain a.index.now _ _ own _
    (plain_short a.index.now _ _ own _ _ (index_missing a.index.now c.if-index-lt1.true) c.lengths_admitted.ensures
    (c.into.ensures ∙ c.short_drill.ensures))

-- the drill's answer
pub returns : goal.returns
returns c =
    let own : Mesh =
    mesh c.args.vertices.now c.args.triangles.now in
    let a = c.args in
    drill_plain_certain a.index.now _ _ own _
    (plain_returned_lem a.index.now _ _ own _ _ (index_there a.index.now c.if-index-lt1.false) c.drill_plain-found.ensures.result_value
    c.put_drill.ensures)
