-- `tree::mesh::lengths_admitted` meets its contract. Assumes nothing.
use Rattle.tree.specs.Mesh.{lengths_admitted}
use borrow.Author.Tests.{eq-eqb, ne_eqb, lt-leb, le-leb}
use Rattle.tree.proofs.mesh.lengths_admitted.Statement.{statement}
use Rattle.tree.proofs.mesh.lengths_admitted.Tie as tie

returns : tie.Need-returns-then-vertices-ne0
unfolding lengths_admitted
returns c = simp (ne_eqb _ _ c.if-vertices-ne0.true)

returns-2 : tie.Need-returns-then-vertices-gt196608
unfolding lengths_admitted
returns-2 c = simp (eq-eqb _ _ c.if-vertices-ne0.false, lt-leb _ _ c.if-vertices-gt196608.true)

returns-3 : tie.Need-returns-then-triangles-ne0
unfolding lengths_admitted
returns-3 c =
    let e : tie.Else-vertices-ne0 = search in
    simp (eq-eqb _ _ e.if-vertices-ne0.false, le-leb _ _ c.if-vertices-gt196608.false, ne_eqb _ _ c.if-triangles-ne0.true)

returns-4 : tie.Need-returns
unfolding lengths_admitted
returns-4 c =
    let e : tie.Else-vertices-ne0 = search in
    simp (eq-eqb _ _ e.if-vertices-ne0.false, le-leb _ _ c.if-vertices-gt196608.false, eq-eqb _ _ c.if-triangles-ne0.false)

pub lengths_admitted_spec : {M : Type 1} → statement M
lengths_admitted_spec = tie.close (tie.spec
    returns
    returns-2
    returns-3
    returns-4)
