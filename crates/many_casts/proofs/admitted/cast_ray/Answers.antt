-- `many_casts::admitted::cast_ray` meets its contract. Assumes nothing.
use Rattle.lists.proofs.JoinedTests.{test_passed, test_failed}
use Rattle.tree_query.proofs.Queries.{fits_room}
use Rattle.mesh.proofs.Casting.{nodes_few, mesh_invalid, mesh_passed}
use Rattle.many_casts.proofs.admitted.cast_ray.Goals as goal

-- refusal 1
pub returns-then-not-validate : goal.returns-then-not-validate
returns-then-not-validate c = mesh_invalid _ _ _ _ _ _ (test_failed c.validate.ensures c.if-not-validate.true)

pub mesh_cast-requires : goal.mesh_cast-requires
mesh_cast-requires c = (
  test_passed c.validate.ensures c.if-not-validate.false,
  fits_room _ _ _ _ (nodes_few _ _ _ _ c.requires.shaped)
      c.requires.lent,
)

-- past it
pub returns : goal.returns
returns c =
    mesh_passed _ _ _ _ _ _ (test_passed c.validate.ensures c.if-not-validate.false) c.requires.shaped c.requires.lent c.requires.posed _ _
    c.mesh_cast.ensures
