-- `exact_hits::listing::ray_mesh_exact_all` meets its contract, the promises included. Assumes nothing.
use Prim.Native.Nat.{◌*◌}
use mathlib.Core.Path.{◌≡◌, refl}
use mathlib.Core.Bool.{Bool, true, ◌&&◌}
use lib.Dec.{leb}
use lib.ListN.{length}
use Rattle.geometry.specs.Segment.{ray_admitted}
use Rattle.lists.proofs.JoinedTests.{test_passed, test_failed}
use Rattle.tree.specs.Layout.{Tree, tree_of}
use Rattle.tree.specs.Mesh.{thirds, lengths_admitted}
use Rattle.tree_query.specs.Query.{walk_fits}
use Rattle.tree_query.proofs.Queries.{fits_room}
use Rattle.mesh.proofs.Casting.{triangles_few, nodes_few}
use Rattle.exact_triangle.specs.declared.view.View.{View}
use Rattle.exact_triangle.specs.View.{Shown}
use Rattle.tree_exact.proofs.Casting.{off_line, on_line}
use Rattle.exact_hits.proofs.Listings.{all_invalid, all_off, all_bad, all_short, all_posed, all_passed, tests_passed}
use Rattle.exact_hits.proofs.Promises.{with_promises}
use Rattle.exact_hits.proofs.listing.ray_mesh_exact_all.Goals as goal

-- refusal 1
pub returns-then-not-validate : goal.returns-then-not-validate
returns-then-not-validate c =
    with_promises _ _ _ _ _ _ _ _ _ (all_invalid _ _ _ _ _ _ _ (test_failed c.validate.ensures c.if-not-validate.true))
    (λ _. (refl, refl))

-- refusal 12
pub returns-in_default : goal.returns-in_default
returns-in_default c =
    let valid : ray_admitted c.args.ray ≡ true =
    test_passed c.validate.ensures c.if-not-validate.false in
    with_promises _ _ _ _ _ _ _ _ _
    (all_off _ _ _ _ _ _ _ valid (off_line _ _ c.view_of-viewed.ensures c.in_default.is)) (λ _. (refl, refl))

-- refusal 2
pub returns-then-not-shape_admitted : goal.returns-then-not-shape_admitted
returns-then-not-shape_admitted c =
    let valid : ray_admitted c.args.ray ≡ true =
    test_passed c.validate.ensures c.if-not-validate.false in
    let line : View =
    c.in-Some.line in
    let shown : Shown c.args.ray line =
    on_line _ _ c.view_of-viewed.ensures _ c.in-Some.is in
    let admitted : Bool =
    let a = c.args in
    let count = length a.triangles.now in
    lengths_admitted (length a.vertices.now) count
    && (lengths_admitted (length a.pose.now) count && leb a.nodes (2 * thirds count)) in
    let failed = test_failed {b = admitted} c.shape_admitted.ensures c.if-not-shape_admitted.true in
    with_promises _ _ _ _ _ _ _ _ _ (all_bad _ _ _ _ _ _ _ valid shown.admitted failed) (λ _. (refl, refl))

pub walk_fits-requires : goal.walk_fits-requires
walk_fits-requires c =
    let admitted : Bool =
    let a = c.args in
    let count = length a.triangles.now in
    lengths_admitted (length a.vertices.now) count
    && (lengths_admitted (length a.pose.now) count && leb a.nodes (2 * thirds count)) in
    let shaped : admitted ≡ true =
    test_passed c.shape_admitted.ensures c.if-not-shape_admitted.false in
    triangles_few _ _ _ _ shaped

-- refusal 3
pub returns-then-not-walk_fits : goal.returns-then-not-walk_fits
returns-then-not-walk_fits c =
    let valid : ray_admitted c.args.ray ≡ true =
    test_passed c.validate.ensures c.if-not-validate.false in
    let line : View =
    c.in-Some.line in
    let shown : Shown c.args.ray line =
    on_line _ _ c.view_of-viewed.ensures _ c.in-Some.is in
    let admitted : Bool =
    let a = c.args in
    let count = length a.triangles.now in
    lengths_admitted (length a.vertices.now) count
    && (lengths_admitted (length a.pose.now) count && leb a.nodes (2 * thirds count)) in
    let shaped : admitted ≡ true =
    test_passed c.shape_admitted.ensures c.if-not-shape_admitted.false in
    let tree : Tree =
    let a = c.args in
    tree_of a.nodes a.node_boxes.now a.triangle_boxes.now a.node_words.now a.order.now in
    let fitting : Bool =
    let a = c.args in
    walk_fits (thirds (length a.triangles.now)) tree (length a.list.now) (length a.stack.now) in
    let failed = test_failed {b = fitting} c.walk_fits.ensures c.if-not-walk_fits.true in
    with_promises _ _ _ _ _ _ _ _ _ (all_short _ _ _ tree _ _ _ valid shown.admitted shaped failed)
    (λ _. (refl, refl))

-- refusal 4
pub returns-then-pose-vertices : goal.returns-then-pose-vertices
returns-then-pose-vertices c =
    let valid : ray_admitted c.args.ray ≡ true =
    test_passed c.validate.ensures c.if-not-validate.false in
    let line : View =
    c.in-Some.line in
    let shown : Shown c.args.ray line =
    on_line _ _ c.view_of-viewed.ensures _ c.in-Some.is in
    let admitted : Bool =
    let a = c.args in
    let count = length a.triangles.now in
    lengths_admitted (length a.vertices.now) count
    && (lengths_admitted (length a.pose.now) count && leb a.nodes (2 * thirds count)) in
    let shaped : admitted ≡ true =
    test_passed c.shape_admitted.ensures c.if-not-shape_admitted.false in
    let tree : Tree =
    let a = c.args in
    tree_of a.nodes a.node_boxes.now a.triangle_boxes.now a.node_words.now a.order.now in
    let fitting : Bool =
    let a = c.args in
    walk_fits (thirds (length a.triangles.now)) tree (length a.list.now) (length a.stack.now) in
    let fits : fitting ≡ true =
    test_passed c.walk_fits.ensures c.if-not-walk_fits.false in
    with_promises _ _ _ _ _ _ _ _ _
    (all_posed _ _ _ _ _ _ _ valid shown.admitted shaped fits c.if-pose-vertices.true)
    (λ _. (refl, refl))

pub exact_listing-requires : goal.exact_listing-requires
exact_listing-requires c =
    let valid : ray_admitted c.args.ray ≡ true =
    test_passed c.validate.ensures c.if-not-validate.false in
    let line : View =
    c.in-Some.line in
    let shown : Shown c.args.ray line =
    on_line _ _ c.view_of-viewed.ensures _ c.in-Some.is in
    let admitted : Bool =
    let a = c.args in
    let count = length a.triangles.now in
    lengths_admitted (length a.vertices.now) count
    && (lengths_admitted (length a.pose.now) count && leb a.nodes (2 * thirds count)) in
    let shaped : admitted ≡ true =
    test_passed c.shape_admitted.ensures c.if-not-shape_admitted.false in
    let tree : Tree =
    let a = c.args in
    tree_of a.nodes a.node_boxes.now a.triangle_boxes.now a.node_words.now a.order.now in
    let fitting : Bool =
    let a = c.args in
    walk_fits (thirds (length a.triangles.now)) tree (length a.list.now) (length a.stack.now) in
    let fits : fitting ≡ true =
    test_passed c.walk_fits.ensures c.if-not-walk_fits.false in (
      record { valid = valid; shown = shown },
      fits_room _ tree c.args.list.now c.args.stack.now (nodes_few _ _ _ _ shaped)
          fits,
    )

-- past them all
pub returns : goal.returns
returns c =
    let valid : ray_admitted c.args.ray ≡ true =
    test_passed c.validate.ensures c.if-not-validate.false in
    let line : View =
    c.in-Some.line in
    let shown : Shown c.args.ray line =
    on_line _ _ c.view_of-viewed.ensures _ c.in-Some.is in
    let admitted : Bool =
    let a = c.args in
    let count = length a.triangles.now in
    lengths_admitted (length a.vertices.now) count
    && (lengths_admitted (length a.pose.now) count && leb a.nodes (2 * thirds count)) in
    let shaped : admitted ≡ true =
    test_passed c.shape_admitted.ensures c.if-not-shape_admitted.false in
    let tree : Tree =
    let a = c.args in
    tree_of a.nodes a.node_boxes.now a.triangle_boxes.now a.node_words.now a.order.now in
    let fitting : Bool =
    let a = c.args in
    walk_fits (thirds (length a.triangles.now)) tree (length a.list.now) (length a.stack.now) in
    let fits : fitting ≡ true =
    test_passed c.walk_fits.ensures c.if-not-walk_fits.false in
    with_promises _ _ _ _ _ _ _ _ _
    (all_passed _ _ _ _ _ _ _ valid shown.admitted shaped fits c.if-pose-vertices.false _
    c.exact_listing.ensures)
    (λ failed. absurd (tests_passed _ _ _ _ _ _ valid shown.admitted shaped fits
    c.if-pose-vertices.false failed))
