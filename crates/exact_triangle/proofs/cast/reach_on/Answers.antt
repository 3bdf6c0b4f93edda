-- `exact_triangle::cast::reach_on` meets its contract. Assumes nothing.
use Rattle.std.proofs.Common.{refl, ◌∙◌, subst}
use Rattle.geometry.specs.Box.{corner}
use Rattle.casts.specs.Reach.{Refused}
use Rattle.casts.specs.Answer.{out_of_range}
use Rattle.wide_integers.proofs.Reading.{taken, left}
use Rattle.exact_triangle.specs.Grid.{grid_point, grid_line}
use Rattle.exact_triangle.specs.Shear.{depth_of}
use Rattle.exact_triangle.specs.Reach.{ReadOnGrid, CornersOnGrid, reach_at, corners_reach}
use Rattle.exact_triangle.proofs.cast.reach_on.Goals as goal

-- a corner is out of range
pub returns-in_default : goal.returns-in_default
unfolding corners_reach
returns-in_default c =
    λ ray h.
    left (reach_at (depth_of (grid_line ray) (grid_point (corner c.args.corners 0)) (grid_point (corner c.args.corners 1))
    (grid_point (corner c.args.corners 2))))
    (subst (ReadOnGrid c.args.corners) c.in_default.is c.grid_corners-placed.ensures) refl

pub points_reach-requires : goal.points_reach-requires
points_reach-requires c = (c.requires, (subst (ReadOnGrid c.args.corners) c.in-Some.is c.grid_corners-placed.ensures).near)

-- the three corners
pub returns : goal.returns
unfolding corners_reach
returns c =
    let b : CornersOnGrid c.args.corners c.in-Some.found.a c.in-Some.found.b c.in-Some.found.c =
    subst (ReadOnGrid c.args.corners) c.in-Some.is c.grid_corners-placed.ensures in
    λ ray h.
    taken (Refused out_of_range) b.read
    (c.points_reach.ensures (grid_line ray) h ∙ (λ i. reach_at (depth_of (grid_line ray) (b.first i) (b.second i) (b.third i))))
