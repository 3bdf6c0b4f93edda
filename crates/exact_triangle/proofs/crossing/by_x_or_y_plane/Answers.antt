-- `exact_triangle::crossing::by_x_or_y_plane` meets its contract. Assumes nothing.
use Rattle.std.proofs.Common.{ap, ◌∙◌}
use Rattle.exact_depth.specs.declared.projection.Point.{Point}
use Rattle.exact_triangle.proofs.AxisPlaneLaws.{sizes_read, coordinate_read, component_read, plane_read, on_x_lem, on_y_lem}
use Rattle.exact_triangle.proofs.crossing.by_x_or_y_plane.Goals as goal

pub in_axis_plane-on_x-requires : goal.in_axis_plane-on_x-requires
in_axis_plane-on_x-requires c =
    sizes_read c.requires.1.0.x c.requires.1.1.0.x c.requires.1.1.1.x c.requires.0.origin.x c.requires.0.direction.x

-- a plane at right angles to x
pub returns-in_default : goal.returns-in_default
returns-in_default c =
    let v = c.args in
    λ l h k.
    on_x_lem l v.a v.b v.c k v.line.start v.line.finish h.start h.finish c.in_axis_plane-on_x.result
    (plane_read (coordinate_read c.requires.1.0.x) (coordinate_read c.requires.1.1.0.x) (coordinate_read c.requires.1.1.1.x)
    (coordinate_read c.requires.0.origin.x ∙ ap (λ (p : Point). p.x) h.origin)
    (component_read c.requires.0.direction.x ∙ ap (λ (p : Point). p.x) h.direction) c.in_axis_plane-on_x.ensures)

pub in_axis_plane-on_y-requires : goal.in_axis_plane-on_y-requires
in_axis_plane-on_y-requires c =
    sizes_read c.requires.1.0.y c.requires.1.1.0.y c.requires.1.1.1.y c.requires.0.origin.y c.requires.0.direction.y

-- .. or to y
pub returns-in_default-on_y : goal.returns-in_default-on_y
returns-in_default-on_y c =
    let v = c.args in
    λ l h k.
    on_y_lem l v.a v.b v.c k v.line.start v.line.finish h.start h.finish c.in_axis_plane-on_y.result
    (plane_read (coordinate_read c.requires.1.0.y) (coordinate_read c.requires.1.1.0.y) (coordinate_read c.requires.1.1.1.y)
    (coordinate_read c.requires.0.origin.y ∙ ap (λ (p : Point). p.y) h.origin)
    (component_read c.requires.0.direction.y ∙ ap (λ (p : Point). p.y) h.direction) c.in_axis_plane-on_y.ensures)

pub by_normal-requires : goal.by_normal-requires
by_normal-requires c = c.requires

pub returns : goal.returns
returns c = c.by_normal.ensures
