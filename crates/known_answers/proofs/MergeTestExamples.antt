-- The largest boards that are glued, and with one vertex or one triangle more, computed. Assumes nothing.
use mathlib.Core.Path.{◌≡◌, refl}
use mathlib.Core.Bool.{true, false}
use mathlib.Core.List.{[], ◌∷◌}
use Rattle.merge.specs.Merge.{shapes_fit}

-- "Totals above 65,536 are 2": 32,768 and 32,768 vertices, then triangles, three numbers or words each, and one more
pub totals_end :
    shapes_fit 98304 3 98304 3 ∷ (shapes_fit 9 98304 9 98304 ∷ (shapes_fit 98304 3 98307 3 ∷ (shapes_fit 9 98307 9 98304 ∷ [])))
    ≡ true ∷ (true ∷ (false ∷ (false ∷ [])))
unfolding shapes_fit
totals_end = refl
