-- `mesh_exact::noted::boxes_hold` meets its contract. Assumes nothing.
use mathlib.Core.Bool.{true≢false}
use mathlib.Core.Path.{sym, ◌∙◌}
use Rattle.tree.specs.Mesh.{mesh}
use Rattle.mesh_plain.proofs.Passing.{all_hold}
use Rattle.mesh_exact.proofs.Ranges.{within_hold}
use Rattle.mesh_exact.proofs.noted.boxes_hold.Goals as goal

-- vertices in range
pub returns-then-within : goal.returns-then-within
returns-then-within c =
    let own = mesh c.args.vertices.now c.args.triangles.now in
    record {
      boxes_hold = λ h. within_hold own (c.requires.1 c.if-within.true);
      triangles_value = λ h. absurd (true≢false h);
    }

pub all_fit-requires : goal.all_fit-requires
all_fit-requires c = c.requires.0

-- each box looked at
pub returns : goal.returns
returns c =
    let own = mesh c.args.vertices.now c.args.triangles.now in
    record {
      boxes_hold = λ h. all_hold own (sym c.all_fit.ensures ∙ h);
      triangles_value = λ h. sym c.all_fit.ensures ∙ h;
    }
