-- `tree::mesh::triangle_box` meets its contract. Assumes nothing.
use Rattle.tree.proofs.Corners.{corners_box_lem}
use Rattle.geometry.specs.Box.{corners_box}
use mathlib.Core.Path.{◌∙◌, ap}
use borrow.Author.Rules.{rules}
use Rattle.tree.proofs.mesh.triangle_box.Statement.{statement}
use Rattle.tree.proofs.mesh.triangle_box.Tie as tie

corners-of-requires : tie.Need-corners_of-requires
corners-of-requires c κs = search rules

of-corners-requires : tie.Need-of_corners-requires
of-corners-requires c κs = search rules

returns : tie.Need-returns
returns c = c.of_corners.ensures ∙ ap corners_box c.corners_of.ensures ∙ corners_box_lem _ _ _

pub triangle_box_spec : {M : Type 1} → statement M
triangle_box_spec = tie.close (tie.spec corners-of-requires of-corners-requires returns)
