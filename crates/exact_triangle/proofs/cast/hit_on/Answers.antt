-- `exact_triangle::cast::hit_on` meets its contract. Assumes nothing.
use Rattle.std.proofs.Common.{refl, ◌∙◌, subst}
use Rattle.casts.specs.Answer.{refused, out_of_range}
use Rattle.wide_integers.proofs.Reading.{taken, left}
use Rattle.exact_triangle.specs.Normal.{cross_of}
use Rattle.exact_triangle.specs.Reach.{ReadOnGrid, CornersOnGrid}
use Rattle.exact_triangle.specs.Cast.{grid_normal, cross_at, grid_hit}
use Rattle.exact_triangle.proofs.cast.hit_on.Goals as goal

-- a corner is out of range
pub returns-in_default : goal.returns-in_default
unfolding grid_hit
returns-in_default c =
    left (grid_normal c.args.ray (cross_at c.args.corners) c.args.distance)
    (subst (ReadOnGrid c.args.corners) c.in_default.is c.grid_corners-placed.ensures) refl

pub cross_of-requires : goal.cross_of-requires
cross_of-requires c = (subst (ReadOnGrid c.args.corners) c.in-Some.is c.grid_corners-placed.ensures).near

-- the cross of the three corners, and its normal
pub returns : goal.returns
unfolding grid_hit
returns c =
    let b : CornersOnGrid c.args.corners c.in-Some.found.a c.in-Some.found.b c.in-Some.found.c =
    subst (ReadOnGrid c.args.corners) c.in-Some.is c.grid_corners-placed.ensures in
    let v = c.args in
    taken (refused out_of_range) b.read
    (c.normal_at.ensures
    ∙ (λ i. grid_normal v.ray (c.cross_of.ensures.0 i) v.distance)
    ∙ (λ i. grid_normal v.ray (cross_of (b.first i) (b.second i) (b.third i)) v.distance))
