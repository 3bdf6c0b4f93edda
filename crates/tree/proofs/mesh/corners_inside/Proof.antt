-- `tree::mesh::corners_inside` meets its contract. Assumes nothing.
use mathlib.Core.Path.{sym}
use Rattle.tree.specs.Mesh.{corners_inside}
use borrow.Author.Tests.{lt-ltb, le-ltb}
use borrow.Author.Rules.{rules}
use Rattle.tree.proofs.mesh.corners_inside.Statement.{statement}
use Rattle.tree.proofs.mesh.corners_inside.Tie as tie

returns : tie.Need-returns-then-first-count
unfolding corners_inside
returns c = simp (sym c.corner_index-first.ensures, le-ltb _ _ c.if-first-count.true)

returns-2 : tie.Need-returns-then-second-count
unfolding corners_inside
returns-2 c =
    let (first, e) : tie.After-corner_index-first × tie.Else-first-count = search in
    simp (
      sym first.corner_index-first.ensures,
      lt-ltb _ _ e.if-first-count.false,
      sym c.corner_index-second.ensures,
      le-ltb _ _ c.if-second-count.true,
    )

returns-3 : tie.Need-returns
unfolding corners_inside
returns-3 c =
    let (first, e, second) : tie.After-corner_index-first × tie.Else-first-count × tie.After-corner_index-second = search in
    simp (
      sym first.corner_index-first.ensures,
      lt-ltb _ _ e.if-first-count.false,
      sym second.corner_index-second.ensures,
      lt-ltb _ _ c.if-second-count.false,
      sym c.corner_index-third.ensures,
    )

pub corners_inside_spec : {M : Type 1} → statement M
corners_inside_spec =
    tie.close
    (tie.spec
    (search rules)  -- corner_index-first-requires
    returns
    (search rules)  -- corner_index-second-requires
    returns-2
    (search rules)  -- corner_index-third-requires
    returns-3)
