-- `mesh_drill::through::drill_through` meets its contract. Assumes nothing.
use Rattle.std.proofs.Common.{◌≡◌, ◌*◌, Bool, true, ◌&&◌, leb, length, refl}
use Rattle.lists.proofs.JoinedTests.{test_passed, test_failed}
use Rattle.tree.specs.Layout.{Tree, tree_of}
use Rattle.tree.specs.Mesh.{Mesh, mesh, thirds, lengths_admitted}
use Rattle.tree_query.specs.Query.{walk_fits}
use Rattle.tree_query.proofs.Queries.{fits_room}
use Rattle.mesh.proofs.Casting.{triangles_few, nodes_few}
use Rattle.mesh_drill.specs.Drilling.{DrillAdmitted}
use Rattle.mesh_drill.proofs.Throughs.{ray_invalid, radius_invalid, ray_out, radius_out, shape_bad, room_short, passed, tests_passed}
use Rattle.mesh_drill.proofs.Throughs.{own_lengths}
use Rattle.mesh_drill.proofs.Agreement.{with_agreement}
use Rattle.mesh_drill.proofs.through.drill_through.Goals as goal

-- 1
pub returns-then-not-validate : goal.returns-then-not-validate
returns-then-not-validate c =
    with_agreement _ _ _ _ _ _ _ _ (ray_invalid _ _ _ _ _ _ (test_failed c.validate.ensures c.if-not-validate.true))
    (λ _. (refl, refl))

pub returns-then-not-radius_admitted : goal.returns-then-not-radius_admitted
returns-then-not-radius_admitted c =
    with_agreement _ _ _ _ _ _ _ _
    (radius_invalid _ _ _ _ _ _ (test_passed c.validate.ensures c.if-not-validate.false)
    (test_failed c.radius_admitted.ensures c.if-not-radius_admitted.true))
    (λ _. (refl, refl))

-- 12
pub returns-then-not-admitted : goal.returns-then-not-admitted
returns-then-not-admitted c =
    with_agreement _ _ _ _ _ _ _ _
    (ray_out _ _ _ _ _ _ (test_passed c.validate.ensures c.if-not-validate.false)
    (test_passed c.radius_admitted.ensures c.if-not-radius_admitted.false)
    (test_failed c.admitted.ensures c.if-not-admitted.true))
    (λ _. (refl, refl))

pub returns-then-not-radius_read : goal.returns-then-not-radius_read
returns-then-not-radius_read c =
    with_agreement _ _ _ _ _ _ _ _
    (radius_out _ _ _ _ _ _ (test_passed c.validate.ensures c.if-not-validate.false)
    (test_passed c.radius_admitted.ensures c.if-not-radius_admitted.false)
    (test_passed c.admitted.ensures c.if-not-admitted.false) (test_failed c.radius_read.ensures c.if-not-radius_read.true))
    (λ _. (refl, refl))

-- 2
pub returns-then-not-shape_admitted : goal.returns-then-not-shape_admitted
returns-then-not-shape_admitted c =
    let tree : Tree =
    let a = c.args in
    tree_of a.nodes a.node_boxes.now a.triangle_boxes.now a.node_words.now a.order.now in
    let own : Mesh =
    mesh c.args.vertices.now c.args.triangles.now in
    let let-pass : DrillAdmitted c.args.ray c.args.radius =
    record {
      ray = test_passed c.validate.ensures c.if-not-validate.false;
      size = test_passed c.radius_admitted.ensures c.if-not-radius_admitted.false;
      read = test_passed c.admitted.ensures c.if-not-admitted.false;
      widest = test_passed c.radius_read.ensures c.if-not-radius_read.false;
    } in
    let admitted : Bool =
    let v = length c.args.vertices.now in
    let n = length c.args.triangles.now in
    lengths_admitted v n && (lengths_admitted v n && leb c.args.nodes (2 * thirds n)) in
    with_agreement _ _ _ _ _ _ _ _
    (shape_bad _ _ own tree _ _ let-pass (test_failed {b = admitted} c.shape_admitted.ensures c.if-not-shape_admitted.true))
    (λ _. (refl, refl))

pub walk_fits-requires : goal.walk_fits-requires
walk_fits-requires c =
    let admitted : Bool =
    let v = length c.args.vertices.now in
    let n = length c.args.triangles.now in
    lengths_admitted v n && (lengths_admitted v n && leb c.args.nodes (2 * thirds n)) in
    let shaped : admitted ≡ true =
    test_passed c.shape_admitted.ensures c.if-not-shape_admitted.false in
    triangles_few _ _ _ _ shaped

-- 3
pub returns-then-not-walk_fits : goal.returns-then-not-walk_fits
returns-then-not-walk_fits c =
    let tree : Tree =
    let a = c.args in
    tree_of a.nodes a.node_boxes.now a.triangle_boxes.now a.node_words.now a.order.now in
    let own : Mesh =
    mesh c.args.vertices.now c.args.triangles.now in
    let let-pass : DrillAdmitted c.args.ray c.args.radius =
    record {
      ray = test_passed c.validate.ensures c.if-not-validate.false;
      size = test_passed c.radius_admitted.ensures c.if-not-radius_admitted.false;
      read = test_passed c.admitted.ensures c.if-not-admitted.false;
      widest = test_passed c.radius_read.ensures c.if-not-radius_read.false;
    } in
    let admitted : Bool =
    let v = length c.args.vertices.now in
    let n = length c.args.triangles.now in
    lengths_admitted v n && (lengths_admitted v n && leb c.args.nodes (2 * thirds n)) in
    let shaped : admitted ≡ true =
    test_passed c.shape_admitted.ensures c.if-not-shape_admitted.false in
    with_agreement _ _ _ _ _ _ _ _
    (room_short _ _ own tree _ _ let-pass shaped
    (test_failed c.walk_fits.ensures c.if-not-walk_fits.true))
    (λ _. (refl, refl))

pub over_tree-requires : goal.over_tree-requires
over_tree-requires c =
    let tree : Tree =
    let a = c.args in
    tree_of a.nodes a.node_boxes.now a.triangle_boxes.now a.node_words.now a.order.now in
    let own : Mesh =
    mesh c.args.vertices.now c.args.triangles.now in
    let let-pass : DrillAdmitted c.args.ray c.args.radius =
    record {
      ray = test_passed c.validate.ensures c.if-not-validate.false;
      size = test_passed c.radius_admitted.ensures c.if-not-radius_admitted.false;
      read = test_passed c.admitted.ensures c.if-not-admitted.false;
      widest = test_passed c.radius_read.ensures c.if-not-radius_read.false;
    } in
    let admitted : Bool =
    let v = length c.args.vertices.now in
    let n = length c.args.triangles.now in
    lengths_admitted v n && (lengths_admitted v n && leb c.args.nodes (2 * thirds n)) in
    let shaped : admitted ≡ true =
    test_passed c.shape_admitted.ensures c.if-not-shape_admitted.false in
    let fits :
    walk_fits (thirds (length c.args.triangles.now)) tree (length c.args.list.now) (length c.args.stack.now) ≡ true =
    test_passed c.walk_fits.ensures c.if-not-walk_fits.false in
    let h = let-pass in
    let n = shaped in (
      h,
      (
        own_lengths _ _ own tree 0 0 h n,
        fits_room _ tree _ _ (nodes_few _ _ _ _ n) fits,
      ),
    )

-- past them all
pub returns : goal.returns
returns c =
    let tree : Tree =
    let a = c.args in
    tree_of a.nodes a.node_boxes.now a.triangle_boxes.now a.node_words.now a.order.now in
    let own : Mesh =
    mesh c.args.vertices.now c.args.triangles.now in
    let let-pass : DrillAdmitted c.args.ray c.args.radius =
    record {
      ray = test_passed c.validate.ensures c.if-not-validate.false;
      size = test_passed c.radius_admitted.ensures c.if-not-radius_admitted.false;
      read = test_passed c.admitted.ensures c.if-not-admitted.false;
      widest = test_passed c.radius_read.ensures c.if-not-radius_read.false;
    } in
    let admitted : Bool =
    let v = length c.args.vertices.now in
    let n = length c.args.triangles.now in
    lengths_admitted v n && (lengths_admitted v n && leb c.args.nodes (2 * thirds n)) in
    let shaped : admitted ≡ true =
    test_passed c.shape_admitted.ensures c.if-not-shape_admitted.false in
    let fits :
    walk_fits (thirds (length c.args.triangles.now)) tree (length c.args.list.now) (length c.args.stack.now) ≡ true =
    test_passed c.walk_fits.ensures c.if-not-walk_fits.false in
    let h = let-pass in
    let n = shaped in
    with_agreement _ _ _ _ _ _ _ _
    (passed _ _ own tree _ _ h n fits _ c.over_tree.ensures)
    (λ failed. absurd (tests_passed _ _ own tree _ _ h n fits failed))
