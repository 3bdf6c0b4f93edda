-- `tree_exact::numbers::corners_numbered` meets its contract. Assumes nothing.
use mathlib.Core.Path.{sym, ap, ◌∙◌}
use mathlib.Core.List.{List}
use Rattle.lists.proofs.JoinedTests.{test_passed, test_failed}
use Rattle.vectors.specs.declared.vec3.Vec3.{Vec3}
use Rattle.geometry.specs.Box.{corner}
use Rattle.tree.specs.Mesh.{Mesh, mesh, corners_of}
use Rattle.tree_exact.specs.Numbers.{numbers_in}
use Rattle.tree_exact.proofs.NumberTests.{outside_fails, first_fails, second_fails, third_tells}
use Rattle.tree_exact.proofs.numbers.corners_numbered.Goals as goal

-- an index past the vertices
pub returns-then-not-corners_inside : goal.returns-then-not-corners_inside
returns-then-not-corners_inside c =
    let own : Mesh =
    mesh c.args.vertices.now c.args.triangles.now in
    outside_fails own c.args.index (test_failed c.corners_inside.ensures c.if-not-corners_inside.true)

pub corners_of-corners-requires : goal.corners_of-corners-requires
corners_of-corners-requires c = (c.requires, test_passed c.corners_inside.ensures c.if-not-corners_inside.false)

-- the first corner has none
pub returns-then-not-numbers_in : goal.returns-then-not-numbers_in
unfolding corners_of
returns-then-not-numbers_in c =
    let own : Mesh =
    mesh c.args.vertices.now c.args.triangles.now in
    first_fails own c.args.index (test_passed c.corners_inside.ensures c.if-not-corners_inside.false)
    (sym (ap (λ (vs : List Vec3). numbers_in (corner vs 0)) c.corners_of-corners.ensures)
    ∙ test_failed c.numbers_in.ensures c.if-not-numbers_in.true)

-- the second has none
pub returns-then-not-numbers_in-2 : goal.returns-then-not-numbers_in-2
unfolding corners_of
returns-then-not-numbers_in-2 c =
    let own : Mesh =
    mesh c.args.vertices.now c.args.triangles.now in
    second_fails own c.args.index (test_passed c.corners_inside.ensures c.if-not-corners_inside.false)
    (sym (ap (λ (vs : List Vec3). numbers_in (corner vs 0)) c.corners_of-corners.ensures)
    ∙ test_passed c.numbers_in.ensures c.if-not-numbers_in.false)
    (sym (ap (λ (vs : List Vec3). numbers_in (corner vs 1)) c.corners_of-corners.ensures)
    ∙ test_failed c.numbers_in-2.ensures c.if-not-numbers_in-2.true)

-- the third decides
pub returns : goal.returns
unfolding corners_of
returns c =
    let own : Mesh =
    mesh c.args.vertices.now c.args.triangles.now in
    third_tells own c.args.index (test_passed c.corners_inside.ensures c.if-not-corners_inside.false)
    (sym (ap (λ (vs : List Vec3). numbers_in (corner vs 0)) c.corners_of-corners.ensures)
    ∙ test_passed c.numbers_in.ensures c.if-not-numbers_in.false)
    (sym (ap (λ (vs : List Vec3). numbers_in (corner vs 1)) c.corners_of-corners.ensures)
    ∙ test_passed c.numbers_in-2.ensures c.if-not-numbers_in-2.false)
    c.numbers_in-3.result
    (c.numbers_in-3.ensures ∙ ap (λ (vs : List Vec3). numbers_in (corner vs 2)) c.corners_of-corners.ensures)
