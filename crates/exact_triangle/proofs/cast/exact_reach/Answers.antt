-- `exact_triangle::cast::exact_reach` meets its contract. Assumes nothing.
use Rattle.std.proofs.Common.{refl, subst}
use Rattle.casts.specs.Reach.{Refused}
use Rattle.casts.specs.Answer.{out_of_range}
use Rattle.wide_integers.proofs.Reading.{taken, left}
use Rattle.exact_triangle.specs.Grid.{grid_line}
use Rattle.exact_triangle.specs.View.{Viewed, Shown}
use Rattle.exact_triangle.specs.Reach.{corners_reach, grid_reach}
use Rattle.exact_triangle.proofs.cast.exact_reach.Goals as goal

pub returns-in_default : goal.returns-in_default
unfolding grid_reach
returns-in_default c =
    left (corners_reach (grid_line c.args.ray) c.args.corners)
    (subst (Viewed c.args.ray) c.in_default.is c.view_of-viewed.ensures) refl

pub reach_on-requires : goal.reach_on-requires
reach_on-requires c = (subst (Viewed c.args.ray) c.in-Some.is c.view_of-viewed.ensures).view_sized

pub returns : goal.returns
unfolding grid_reach
returns c =
    let shown : Shown c.args.ray c.in-Some.line = subst (Viewed c.args.ray) c.in-Some.is c.view_of-viewed.ensures in
    taken (Refused out_of_range) shown.admitted (c.reach_on.ensures c.args.ray shown.sees)
