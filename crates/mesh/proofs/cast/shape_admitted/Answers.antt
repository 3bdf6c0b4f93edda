-- `mesh::cast::shape_admitted` meets its contract. Assumes nothing.
use Rattle.lists.proofs.JoinedTests.{test_passed, test_failed}
use Rattle.mesh.proofs.cast.shape_admitted.Goals as goal

-- the mesh's own lengths are refused
pub returns-then-not-lengths_admitted : goal.returns-then-not-lengths_admitted
returns-then-not-lengths_admitted c = simp (test_failed c.lengths_admitted.ensures c.if-not-lengths_admitted.true)

-- those of the vertices to cast at are
pub returns-then-not-lengths_admitted-2 : goal.returns-then-not-lengths_admitted-2
returns-then-not-lengths_admitted-2 c =
    simp (
      test_passed c.lengths_admitted.ensures c.if-not-lengths_admitted.false,
      test_failed c.lengths_admitted-2.ensures c.if-not-lengths_admitted-2.true,
    )

-- the node count tells
pub returns : goal.returns
returns c =
    simp (
      test_passed c.lengths_admitted.ensures c.if-not-lengths_admitted.false,
      test_passed c.lengths_admitted-2.ensures c.if-not-lengths_admitted-2.false,
    )
