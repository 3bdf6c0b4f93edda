-- `mesh_drill::pass::is_touched` meets its contract. Assumes nothing.
use Rattle.std.proofs.Common.{◌≡◌, true, ap, ◌∙◌}
use Rattle.tree.specs.Mesh.{mesh}
use Rattle.exact_triangle.specs.Reach.{corners_read}
use Rattle.exact_triangle.proofs.Laws.{first_read, second_read, third_read}
use Rattle.mesh_drill.proofs.Passes.{corners_touched, same_decision}
use Rattle.mesh_drill.proofs.pass.is_touched.Goals as goal

pub grid_point-a-requires : goal.grid_point-a-requires
grid_point-a-requires c =
    let read : corners_read c.corners_of-corners.result ≡ true =
    ap corners_read c.corners_of-corners.ensures ∙ c.requires.1.1 in
    first_read c.corners_of-corners.result read

pub grid_point-b-requires : goal.grid_point-b-requires
grid_point-b-requires c =
    let read : corners_read c.corners_of-corners.result ≡ true =
    ap corners_read c.corners_of-corners.ensures ∙ c.requires.1.1 in
    second_read c.corners_of-corners.result read

pub grid_point-c-requires : goal.grid_point-c-requires
grid_point-c-requires c =
    let read : corners_read c.corners_of-corners.result ≡ true =
    ap corners_read c.corners_of-corners.ensures ∙ c.requires.1.1 in
    third_read c.corners_of-corners.result read

pub returns : goal.returns
returns c =
    λ l ρ h g.
    same_decision l ρ _ _ _ g _ (c.touches.ensures l ρ h g.moves g.ends)
    ∙ corners_touched l ρ (mesh c.args.vertices.now c.args.triangles.now) c.args.index c.corners_of-corners.result
    c.corners_of-corners.ensures _ _ _ c.grid_point-a.ensures.0 c.grid_point-b.ensures.0 c.grid_point-c.ensures.0
