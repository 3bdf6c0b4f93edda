-- `mesh_exact::bounds::segment_box` meets its contract. Assumes nothing.
use mathlib.Core.Path.{◌≡◌, ◌∙◌}
use lib.Dec.{lit≤}
use lib.IntN.{pos, nat_abs}
use Rattle.wide_integers.proofs.Reading.{bits, plain, widen, sized_bits}
use Rattle.exact_triangle.specs.Grid.{units, nearest_to, grid_line}
use Rattle.exact_triangle.specs.Box.{low_side, high_side, certain_box}
use Rattle.exact_triangle.proofs.Laws.{admitted_origin, admitted_direction, admitted_near, admitted_far}
use Rattle.mesh_exact.specs.Bounds.{box_by}
use Rattle.mesh_exact.proofs.bounds.segment_box.Goals as goal

pub grid_point-origin-requires : goal.grid_point-origin-requires
grid_point-origin-requires c = admitted_origin c.args.ray c.requires

pub direction_of-direction-requires : goal.direction_of-direction-requires
direction_of-direction-requires c = admitted_direction c.args.ray c.requires

pub units_of-near-requires : goal.units_of-near-requires
units_of-near-requires c = admitted_near c.args.ray c.requires

pub units_of-far-requires : goal.units_of-far-requires
units_of-far-requires c = admitted_far c.args.ray c.requires

pub widened_box-requires : goal.widened_box-requires
widened_box-requires c = (
  (c.grid_point-origin.ensures.1, c.direction_of-direction.ensures.1),
  (sized_bits c.units_of-near.ensures.1 (lit≤ tt), (sized_bits c.units_of-far.ensures.1 (lit≤ tt), record { size = lit≤ tt })),
)

-- the box of the line that is read
pub returns : goal.returns
unfolding certain_box grid_line low_side high_side
returns c =
    let near-is : bits c.units_of-near.result ≡ pos (nat_abs (nearest_to units c.args.ray.near)) =
    plain (widen c.units_of-near.ensures.1 (lit≤ tt)) ∙ c.units_of-near.ensures.0 in
    let far-is : bits c.units_of-far.result ≡ pos (nat_abs (nearest_to units c.args.ray.max_distance)) =
    plain (widen c.units_of-far.ensures.1 (lit≤ tt)) ∙ c.units_of-far.ensures.0 in
    c.widened_box.ensures _ _ near-is far-is
    ∙ (λ i. box_by (pos 1) (c.grid_point-origin.ensures.0 i) (c.direction_of-direction.ensures.0 i)
    (nat_abs (nearest_to units c.args.ray.near)) (nat_abs (nearest_to units c.args.ray.max_distance)))
