-- `triangle_cast::triangle::cast_within` meets its contract. Assumes nothing.
use mathlib.Core.Path.{sym, ◌∙◌}
use Rattle.triangle_cast.proofs.ReachLaws.{from_distance, no_distance}
use Rattle.triangle_cast.proofs.triangle.cast_within.Goals as goal

-- a miss
pub returns-in_default : goal.returns-in_default
returns-in_default c = no_distance _ _ _ _ c.args.within.determinant _ _ (sym c.distance_within.ensures ∙ c.in_default.is)

-- the rest at a distance
pub returns : goal.returns
returns c =
    c.settled_cast.ensures
    ∙ from_distance _ _ _ _ c.args.within.determinant _ _ _ (sym c.distance_within.ensures ∙ c.in-Some.is)
