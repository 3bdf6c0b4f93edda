-- `tree_exact::cast::ray_mesh_exact` meets its contract. Assumes nothing.
use Prim.Native.Nat.{◌+◌, ◌*◌}
use mathlib.Core.Path.{◌≡◌, refl}
use mathlib.Core.Bool.{Bool, true, ◌&&◌}
use lib.Dec.{leb}
use lib.ListN.{length}
use Rattle.geometry.specs.Segment.{ray_admitted}
use Rattle.lists.proofs.JoinedTests.{test_passed, test_failed}
use Rattle.tree.specs.Layout.{Tree, tree_of}
use Rattle.tree.specs.Mesh.{thirds, lengths_admitted}
use Rattle.tree_query.specs.Query.{tree_fits}
use Rattle.mesh.proofs.Casting.{triangles_few, nodes_few}
use Rattle.exact_triangle.specs.Grid.{grid_admitted}
use Rattle.tree_exact.proofs.Casting.{exact_invalid, exact_off, exact_bad, exact_short, exact_posed}
use Rattle.tree_exact.proofs.Casting.{exact_passed, tests_passed, room_of}
use Rattle.tree_exact.proofs.Agreement.{with_agreement}
use Rattle.tree_exact.proofs.cast.ray_mesh_exact.Goals as goal

-- refusal 1
pub returns-then-not-validate : goal.returns-then-not-validate
returns-then-not-validate c =
    with_agreement _ _ _ _ _ _ _ (exact_invalid _ _ _ _ _ (test_failed c.validate.ensures c.if-not-validate.true)) (λ _. refl)

-- refusal 12
pub returns-then-not-admitted : goal.returns-then-not-admitted
returns-then-not-admitted c =
    let valid : ray_admitted c.args.ray ≡ true =
    test_passed c.validate.ensures c.if-not-validate.false in
    with_agreement _ _ _ _ _ _ _ (exact_off _ _ _ _ _ valid (test_failed c.admitted.ensures c.if-not-admitted.true)) (λ _. refl)

-- refusal 2
pub returns-then-not-shape_admitted : goal.returns-then-not-shape_admitted
returns-then-not-shape_admitted c =
    let valid : ray_admitted c.args.ray ≡ true =
    test_passed c.validate.ensures c.if-not-validate.false in
    let read : grid_admitted c.args.ray ≡ true =
    test_passed c.admitted.ensures c.if-not-admitted.false in
    let admitted : Bool =
    let a = c.args in
    let count = length a.triangles.now in
    lengths_admitted (length a.vertices.now) count
    && (lengths_admitted (length a.pose.now) count && leb a.nodes (2 * thirds count)) in
    let failed = test_failed {b = admitted} c.shape_admitted.ensures c.if-not-shape_admitted.true in
    with_agreement _ _ _ _ _ _ _ (exact_bad _ _ _ _ _ valid read failed) (λ _. refl)

pub room_fits-requires : goal.room_fits-requires
room_fits-requires c =
    let admitted : Bool =
    let a = c.args in
    let count = length a.triangles.now in
    lengths_admitted (length a.vertices.now) count
    && (lengths_admitted (length a.pose.now) count && leb a.nodes (2 * thirds count)) in
    let shaped : admitted ≡ true =
    test_passed c.shape_admitted.ensures c.if-not-shape_admitted.false in
    triangles_few _ _ _ _ shaped

-- refusal 3
pub returns-then-not-room_fits : goal.returns-then-not-room_fits
returns-then-not-room_fits c =
    let valid : ray_admitted c.args.ray ≡ true =
    test_passed c.validate.ensures c.if-not-validate.false in
    let read : grid_admitted c.args.ray ≡ true =
    test_passed c.admitted.ensures c.if-not-admitted.false in
    let admitted : Bool =
    let a = c.args in
    let count = length a.triangles.now in
    lengths_admitted (length a.vertices.now) count
    && (lengths_admitted (length a.pose.now) count && leb a.nodes (2 * thirds count)) in
    let shaped : admitted ≡ true =
    test_passed c.shape_admitted.ensures c.if-not-shape_admitted.false in
    let tree : Tree =
    let a = c.args in
    tree_of a.nodes a.node_boxes.now a.triangle_boxes.now a.node_words.now a.order.now in
    let fitting : Bool =
    let a = c.args in
    tree_fits (thirds (length a.triangles.now)) tree && leb (a.nodes + 1) (length a.stack.now) in
    let failed = test_failed {b = fitting} c.room_fits.ensures c.if-not-room_fits.true in
    with_agreement _ _ _ _ _ _ _ (exact_short _ _ _ tree _ valid read shaped failed) (λ _. refl)

-- refusal 4
pub returns-then-pose-vertices : goal.returns-then-pose-vertices
returns-then-pose-vertices c =
    let valid : ray_admitted c.args.ray ≡ true =
    test_passed c.validate.ensures c.if-not-validate.false in
    let read : grid_admitted c.args.ray ≡ true =
    test_passed c.admitted.ensures c.if-not-admitted.false in
    let admitted : Bool =
    let a = c.args in
    let count = length a.triangles.now in
    lengths_admitted (length a.vertices.now) count
    && (lengths_admitted (length a.pose.now) count && leb a.nodes (2 * thirds count)) in
    let shaped : admitted ≡ true =
    test_passed c.shape_admitted.ensures c.if-not-shape_admitted.false in
    let tree : Tree =
    let a = c.args in
    tree_of a.nodes a.node_boxes.now a.triangle_boxes.now a.node_words.now a.order.now in
    let fitting : Bool =
    let a = c.args in
    tree_fits (thirds (length a.triangles.now)) tree && leb (a.nodes + 1) (length a.stack.now) in
    let fits : fitting ≡ true =
    test_passed c.room_fits.ensures c.if-not-room_fits.false in
    with_agreement _ _ _ _ _ _ _
    (exact_posed _ _ _ _ _ valid read shaped fits c.if-pose-vertices.true) (λ _. refl)

pub exact_through-requires : goal.exact_through-requires
exact_through-requires c =
    let valid : ray_admitted c.args.ray ≡ true =
    test_passed c.validate.ensures c.if-not-validate.false in
    let read : grid_admitted c.args.ray ≡ true =
    test_passed c.admitted.ensures c.if-not-admitted.false in
    let admitted : Bool =
    let a = c.args in
    let count = length a.triangles.now in
    lengths_admitted (length a.vertices.now) count
    && (lengths_admitted (length a.pose.now) count && leb a.nodes (2 * thirds count)) in
    let shaped : admitted ≡ true =
    test_passed c.shape_admitted.ensures c.if-not-shape_admitted.false in
    let tree : Tree =
    let a = c.args in
    tree_of a.nodes a.node_boxes.now a.triangle_boxes.now a.node_words.now a.order.now in
    let fitting : Bool =
    let a = c.args in
    tree_fits (thirds (length a.triangles.now)) tree && leb (a.nodes + 1) (length a.stack.now) in
    let fits : fitting ≡ true =
    test_passed c.room_fits.ensures c.if-not-room_fits.false in (
      (valid, read),
      room_of _ tree c.args.stack.now (nodes_few _ _ _ _ shaped) fits,
    )

-- past them all
pub returns : goal.returns
returns c =
    let valid : ray_admitted c.args.ray ≡ true =
    test_passed c.validate.ensures c.if-not-validate.false in
    let read : grid_admitted c.args.ray ≡ true =
    test_passed c.admitted.ensures c.if-not-admitted.false in
    let admitted : Bool =
    let a = c.args in
    let count = length a.triangles.now in
    lengths_admitted (length a.vertices.now) count
    && (lengths_admitted (length a.pose.now) count && leb a.nodes (2 * thirds count)) in
    let shaped : admitted ≡ true =
    test_passed c.shape_admitted.ensures c.if-not-shape_admitted.false in
    let tree : Tree =
    let a = c.args in
    tree_of a.nodes a.node_boxes.now a.triangle_boxes.now a.node_words.now a.order.now in
    let fitting : Bool =
    let a = c.args in
    tree_fits (thirds (length a.triangles.now)) tree && leb (a.nodes + 1) (length a.stack.now) in
    let fits : fitting ≡ true =
    test_passed c.room_fits.ensures c.if-not-room_fits.false in
    with_agreement _ _ _ _ _ _ _
    (exact_passed _ _ _ _ _ valid read shaped fits c.if-pose-vertices.false _
    c.exact_through.ensures)
    (λ failed. absurd (tests_passed _ _ _ _ _ valid read shaped fits c.if-pose-vertices.false
    failed))
