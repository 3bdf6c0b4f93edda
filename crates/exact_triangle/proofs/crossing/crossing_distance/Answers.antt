-- `exact_triangle::crossing::crossing_distance` meets its contract. Assumes nothing.
use Rattle.std.proofs.Common.{ap, ◌∙◌}
use Rattle.exact_depth.specs.declared.projection.Point.{Point}
use Rattle.exact_triangle.proofs.AxisPlaneLaws.{sizes_read, coordinate_read, component_read, plane_read, on_z_lem}
use Rattle.exact_triangle.proofs.crossing.crossing_distance.Goals as goal

pub in_axis_plane-on_z-requires : goal.in_axis_plane-on_z-requires
in_axis_plane-on_z-requires c =
    sizes_read c.requires.1.0.z c.requires.1.1.0.z c.requires.1.1.1.z c.requires.0.origin.z c.requires.0.direction.z

-- a plane at right angles to z
pub returns-in_default : goal.returns-in_default
returns-in_default c =
    let v = c.args in
    λ l h k.
    on_z_lem l v.a v.b v.c k v.line.start v.line.finish h.start h.finish c.in_axis_plane-on_z.result
    (plane_read (coordinate_read c.requires.1.0.z) (coordinate_read c.requires.1.1.0.z) (coordinate_read c.requires.1.1.1.z)
    (coordinate_read c.requires.0.origin.z ∙ ap (λ (p : Point). p.z) h.origin)
    (component_read c.requires.0.direction.z ∙ ap (λ (p : Point). p.z) h.direction) c.in_axis_plane-on_z.ensures)

pub by_x_or_y_plane-requires : goal.by_x_or_y_plane-requires
by_x_or_y_plane-requires c = c.requires

pub returns : goal.returns
returns c = c.by_x_or_y_plane.ensures
