-- `triangle_cast::triangle::reach_within` meets its contract. Assumes nothing.
use mathlib.Core.Path.{sym, ap, ◌∙◌}
use Rattle.casts.specs.Reach.{reach_of}
use Rattle.triangle_cast.proofs.ReachLaws.{from_distance, no_distance}
use Rattle.triangle_cast.proofs.triangle.reach_within.Goals as goal

-- a miss
pub returns-in_default : goal.returns-in_default
unfolding reach_of
returns-in_default c =
    ap reach_of (no_distance _ _ _ _ c.args.within.determinant _ _ (sym c.distance_within.ensures ∙ c.in_default.is))

-- the rest at a distance
pub returns : goal.returns
returns c =
    c.settled.ensures c.args.ray
    ∙ ap reach_of (from_distance _ _ _ _ c.args.within.determinant _ _ _ (sym c.distance_within.ensures ∙ c.in-Some.is))
