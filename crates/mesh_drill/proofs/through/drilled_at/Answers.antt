-- `mesh_drill::through::drilled_at` meets its contract. Assumes nothing.
use Rattle.std.proofs.Common.{◌≡◌, true, length, sym, ap, ◌∙◌}
use Rattle.tree.specs.Mesh.{Mesh, mesh, thirds, corners_inside, corners_of}
use Rattle.exact_triangle.specs.Reach.{corners_read}
use Rattle.lists.proofs.JoinedTests.{test_passed, test_failed}
use Rattle.mesh_drill.proofs.Listings.{outside_drilled, unread_drilled, touched_drilled, clear_drilled}
use Rattle.mesh_drill.proofs.through.drilled_at.Goals as goal

pub returns-then-not-corners_inside : goal.returns-then-not-corners_inside
returns-then-not-corners_inside c =
    let own : Mesh =
    mesh c.args.vertices.now c.args.triangles.now in
    λ l ρ h g. outside_drilled l ρ own c.args.index (test_failed c.corners_inside.ensures c.if-not-corners_inside.true)

pub corners_of-requires : goal.corners_of-requires
corners_of-requires c =
    let inside : corners_inside (thirds (length c.args.vertices.now)) c.args.triangles.now c.args.index ≡ true =
    test_passed c.corners_inside.ensures c.if-not-corners_inside.false in
    (c.requires.0, inside)

pub returns-then-not-corners_read : goal.returns-then-not-corners_read
returns-then-not-corners_read c =
    let own : Mesh =
    mesh c.args.vertices.now c.args.triangles.now in
    let inside : corners_inside (thirds (length c.args.vertices.now)) c.args.triangles.now c.args.index ≡ true =
    test_passed c.corners_inside.ensures c.if-not-corners_inside.false in
    λ l ρ h g.
    unread_drilled l ρ own c.args.index inside
    (sym (ap corners_read c.corners_of.ensures) ∙ test_failed c.corners_read.ensures c.if-not-corners_read.true)

pub is_touched-requires : goal.is_touched-requires
is_touched-requires c =
    let inside : corners_inside (thirds (length c.args.vertices.now)) c.args.triangles.now c.args.index ≡ true =
    test_passed c.corners_inside.ensures c.if-not-corners_inside.false in
    let read : corners_read (corners_of c.args.vertices.now c.args.triangles.now c.args.index) ≡ true =
    sym (ap corners_read c.corners_of.ensures) ∙ test_passed c.corners_read.ensures c.if-not-corners_read.false in
    ((c.requires.0, inside), (c.requires.1, read))

pub returns-then-is_touched : goal.returns-then-is_touched
returns-then-is_touched c =
    let own : Mesh =
    mesh c.args.vertices.now c.args.triangles.now in
    let inside : corners_inside (thirds (length c.args.vertices.now)) c.args.triangles.now c.args.index ≡ true =
    test_passed c.corners_inside.ensures c.if-not-corners_inside.false in
    let read : corners_read (corners_of c.args.vertices.now c.args.triangles.now c.args.index) ≡ true =
    sym (ap corners_read c.corners_of.ensures) ∙ test_passed c.corners_read.ensures c.if-not-corners_read.false in
    λ l ρ h g.
    touched_drilled l ρ own c.args.index inside read (sym (c.is_touched.ensures l ρ h g) ∙ c.if-is_touched.true)

pub returns : goal.returns
returns c =
    let own : Mesh =
    mesh c.args.vertices.now c.args.triangles.now in
    let inside : corners_inside (thirds (length c.args.vertices.now)) c.args.triangles.now c.args.index ≡ true =
    test_passed c.corners_inside.ensures c.if-not-corners_inside.false in
    let read : corners_read (corners_of c.args.vertices.now c.args.triangles.now c.args.index) ≡ true =
    sym (ap corners_read c.corners_of.ensures) ∙ test_passed c.corners_read.ensures c.if-not-corners_read.false in
    λ l ρ h g.
    clear_drilled l ρ own c.args.index inside read (sym (c.is_touched.ensures l ρ h g) ∙ c.if-is_touched.false)
