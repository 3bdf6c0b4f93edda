-- `exact_triangle::cast::exact_cast` meets its contract. Assumes nothing.
use Rattle.std.proofs.Common.{sym, ap, ◌∙◌, Ok}
use Rattle.std.proofs.Common.{rules}
use Rattle.std.specs.Prelude.{Float, Option}
use Rattle.casts.specs.Reach.{says_reach}
use Rattle.exact_triangle.specs.Cast.{grid_triangle}
use Rattle.exact_triangle.proofs.Hits.{hit_by_distance}
use Rattle.exact_triangle.proofs.cast.exact_cast.Goals as goal

-- a refusal
pub returns-in_err-distance : goal.returns-in_err-distance
unfolding grid_triangle
returns-in_err-distance c = search rules

-- a miss
pub returns-in_default : goal.returns-in_default
unfolding grid_triangle
returns-in_default c = search rules

-- a hit
pub returns : goal.returns
returns c =
    c.hit_on.ensures
    ∙ hit_by_distance c.args.ray c.args.corners _ (sym c.in_ok-distance.ensures ∙ ap (λ (z : Option Float). says_reach (Ok z)) c.in-Some.is)
