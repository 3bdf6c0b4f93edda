-- `exact_triangle::view::line_of` meets its contract. Assumes nothing.
use Rattle.std.proofs.Common.{◌≡◌, subst}
use Rattle.exact_triangle.specs.Grid.{grid_line}
use Rattle.exact_triangle.specs.View.{line_from, Sees}
use Rattle.exact_triangle.proofs.Laws.{admitted_origin, admitted_direction, admitted_near, admitted_far}
use Rattle.exact_triangle.proofs.view.line_of.Goals as goal

pub grid_point-origin-requires : goal.grid_point-origin-requires
grid_point-origin-requires c = admitted_origin c.args.ray c.requires

pub direction_of-direction-requires : goal.direction_of-direction-requires
direction_of-direction-requires c = admitted_direction c.args.ray c.requires

pub looking-requires : goal.looking-requires
looking-requires c = (
  (c.grid_point-origin.ensures.1, c.direction_of-direction.ensures.1),
  (admitted_near c.args.ray c.requires, admitted_far c.args.ray c.requires),
)

pub returns : goal.returns
unfolding grid_line
returns c =
    let line-is : line_from c.grid_point-origin.result c.direction_of-direction.result c.args.ray.near c.args.ray.max_distance ≡
    grid_line c.args.ray =
    λ i. line_from (c.grid_point-origin.ensures.0 i) (c.direction_of-direction.ensures.0 i) c.args.ray.near c.args.ray.max_distance in
    record {
      admitted = c.requires;
      sees = subst (Sees c.looking.result) line-is c.looking.ensures.0;
      view_sized = c.looking.ensures.1;
    }
