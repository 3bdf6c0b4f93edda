-- `mesh_plain::boxes::boxes_hold` meets its contract. Assumes nothing.
use mathlib.Core.Bool.{true≢false}
use mathlib.Core.Path.{sym, ◌∙◌}
use Rattle.tree.specs.Mesh.{mesh}
use Rattle.mesh_plain.proofs.BoxTests.{finite_hold}
use Rattle.mesh_plain.proofs.Passing.{all_hold}
use Rattle.mesh_plain.proofs.boxes.boxes_hold.Goals as goal

-- finite vertices
pub returns-then-all_finite : goal.returns-then-all_finite
returns-then-all_finite c =
    let own = mesh c.args.vertices.now c.args.triangles.now in
    record { boxes_hold = λ h. finite_hold own (c.all_finite.ensures c.if-all_finite.true); triangles_value = λ h. absurd (true≢false h) }

-- each box looked at
pub returns : goal.returns
returns c =
    let own = mesh c.args.vertices.now c.args.triangles.now in
    record { boxes_hold = λ h. all_hold own (sym c.all_fit.ensures ∙ h); triangles_value = λ h. sym c.all_fit.ensures ∙ h }
