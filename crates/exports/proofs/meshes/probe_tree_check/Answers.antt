-- `exports::meshes::probe_tree_check` meets its contract. Assumes nothing.
use mathlib.Core.Path.{sym, ap, ◌∙◌}
use Rattle.results.specs.Results.{returned_verdict}
use Rattle.exports.proofs.Reading.{yes_read}
use Rattle.exports.proofs.meshes.probe_tree_check.Goals as goal

-- the check's ruling as its number, and where that says yes the tree passes
pub returns : goal.returns
returns c =
    let returned = c.verdict_number.ensures ∙ ap returned_verdict c.check.ensures.0 in
    (returned, (simp (sym c.check.ensures.0) c.check.ensures.1, yes_read _ _ _ _ returned))
