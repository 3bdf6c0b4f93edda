-- `tree::mesh::corners_of` meets its contract. Assumes nothing.
use mathlib.Core.Path.{sym}
use native.Mathlib.Omega.{arith}
use Rattle.tree.specs.Mesh.{corners_of}
use Rattle.tree.proofs.Corners.{first_fits, second_fits, third_fits_lem}
use Rattle.tree.proofs.mesh.corners_of.Statement.{statement}
use Rattle.tree.proofs.mesh.corners_of.Tie as tie

corner-at-requires : tie.Need-corner_at-requires
corner-at-requires c κs =
    let s : tie.Start = search in
    (s.requires.0, (omega arith, first_fits _ _ _ s.requires.1))

corner-at-requires-2 : tie.Need-corner_at-requires-2
corner-at-requires-2 c κs =
    let s : tie.Start = search in
    (s.requires.0, (omega arith, second_fits _ _ _ s.requires.1))

corner-at-requires-3 : tie.Need-corner_at-requires-3
corner-at-requires-3 c κs =
    let s : tie.Start = search in
    (s.requires.0, (omega arith, third_fits_lem _ _ _ s.requires.1))

returns : tie.Need-returns
unfolding corners_of
returns c =
    let first : tie.After-corner_at = search in
    simp (sym first.corner_at.ensures, sym c.corner_at-2.ensures, sym c.corner_at-3.ensures)

pub corners_of_spec : {M : Type 1} → statement M
corners_of_spec =
    tie.close (tie.spec
    corner-at-requires
    corner-at-requires-2
    corner-at-requires-3
    returns)
