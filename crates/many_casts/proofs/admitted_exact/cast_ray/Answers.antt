-- `many_casts::admitted_exact::cast_ray` meets its contract. Assumes nothing.
use Rattle.lists.proofs.JoinedTests.{test_passed, test_failed}
use Rattle.mesh.proofs.Casting.{nodes_few}
use Rattle.tree.specs.Layout.{Tree, tree_of}
use Rattle.tree_exact.proofs.Casting.{exact_invalid, exact_off, exact_passed, room_of}
use Rattle.many_casts.proofs.admitted_exact.cast_ray.Goals as goal

-- refusal 1
pub returns-then-not-validate : goal.returns-then-not-validate
returns-then-not-validate c = exact_invalid _ _ _ _ _ (test_failed c.validate.ensures c.if-not-validate.true)

-- refusal 12 of the ray
pub returns-then-not-admitted : goal.returns-then-not-admitted
returns-then-not-admitted c =
    exact_off _ _ _ _ _ (test_passed c.validate.ensures c.if-not-validate.false)
    (test_failed c.admitted.ensures c.if-not-admitted.true)

pub exact_through-requires : goal.exact_through-requires
exact_through-requires c =
    let tree : Tree =
    let a = c.args in
    tree_of a.nodes a.node_boxes.now a.triangle_boxes.now a.node_words.now a.order.now in (
      (test_passed c.validate.ensures c.if-not-validate.false, test_passed c.admitted.ensures c.if-not-admitted.false),
      room_of _ tree c.args.stack.now (nodes_few _ _ _ _ c.requires.shaped) c.requires.lent,
    )

-- past them
pub returns : goal.returns
returns c =
    exact_passed _ _ _ _ _ (test_passed c.validate.ensures c.if-not-validate.false)
    (test_passed c.admitted.ensures c.if-not-admitted.false) c.requires.shaped c.requires.lent c.requires.posed _
    c.exact_through.ensures
