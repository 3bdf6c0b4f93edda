-- `mesh_drill::cylinder::cylinder_of` meets its contract. Assumes nothing.
use Rattle.std.proofs.Common.{◌∙◌, lit≤}
use Rattle.wide_integers.proofs.Reading.{plain, widen, sized_bits}
use Rattle.exact_triangle.specs.Grid.{grid_line}
use Rattle.exact_triangle.proofs.Laws.{admitted_origin, admitted_direction, admitted_near, admitted_far}
use Rattle.mesh_drill.proofs.cylinder.cylinder_of.Goals as goal

pub grid_point-requires : goal.grid_point-requires
grid_point-requires c = admitted_origin c.args.ray c.requires.0

pub direction_of-requires : goal.direction_of-requires
direction_of-requires c = admitted_direction c.args.ray c.requires.0

pub units_of-requires : goal.units_of-requires
units_of-requires c = admitted_near c.args.ray c.requires.0

pub units_of-requires-2 : goal.units_of-requires-2
units_of-requires-2 c = admitted_far c.args.ray c.requires.0

pub returns : goal.returns
unfolding grid_line
returns c = (
  record {
    origin = c.grid_point.ensures.0;
    direction = c.direction_of.ensures.0;
    near = plain (widen c.units_of.ensures.1 (lit≤ tt)) ∙ c.units_of.ensures.0;
    far = plain (widen c.units_of-2.ensures.1 (lit≤ tt)) ∙ c.units_of-2.ensures.0;
    radius = plain (widen c.radius_of.ensures.1 (lit≤ tt)) ∙ c.radius_of.ensures.0;
  },
  record {
    origin = c.grid_point.ensures.1;
    direction = c.direction_of.ensures.1;
    near = sized_bits c.units_of.ensures.1 (lit≤ tt);
    far = sized_bits c.units_of-2.ensures.1 (lit≤ tt);
    radius = sized_bits c.radius_of.ensures.1 (lit≤ tt);
  },
)
