-- The points strictly between 0 and 1 where a cubic turns. Definitions only. Assumes nothing.
use Rattle.std.specs.Prelude.{Bool, true, ◌&&◌, cond, List, [], ◌∷◌, ◌++◌, ◌≡◌, Float}
use Rattle.std.specs.Float.Ieee.{lt, le, ne, neg}
use Rattle.arithmetic.specs.Basic.{absolute}
use Rattle.arithmetic.specs.Extremes.{maximum_of}
use Rattle.arithmetic.specs.Root.{root_of}
use Rattle.vectors.specs.Numbers.{◌+ᶠ◌, ◌-ᶠ◌, ◌*ᶠ◌, ◌/ᶠ◌, zeroᶠ, oneᶠ, epsilon}
use Rattle.cubic.specs.Polynomial.{twoᶠ, threeᶠ, fourᶠ}
use Rattle.cubic.specs.declared.polynomial.Cubic.{Cubic}
use Rattle.cubic.specs.declared.turns.Turns.{Turns}
use Rattle.cubic.specs.declared.turns.Turns.TheVariants.{None as NoPoint, One, Two}

abbrev pub listed : Turns → List Float
listed NoPoint = []
listed (One u) = u ∷ []
listed (Two u v) = u ∷ v ∷ []

-- strictly between 0 and 1
unfoldable pub between_ends : Float → Bool
between_ends u = lt zeroᶠ u && lt u oneᶠ

unfoldable pub kept_point : Float → List Float
kept_point u = cond (between_ends u) (u ∷ []) []

unfoldable pub kept_points : Float → Float → List Float
kept_points u v = kept_point u ++ kept_point v

-- of a parabola: its derivative's slope is `slope`
unfoldable pub vertex : Float → Float → List Float
vertex slope c = cond (ne slope zeroᶠ) (kept_point (neg c /ᶠ slope)) []

-- of a cubic: the roots of its derivative, where the discriminant is not below 0
unfoldable pub turning_by : Float → Float → Float → List Float
turning_by da db discriminant =
    cond (le zeroᶠ discriminant)
    (kept_points ((neg db -ᶠ root_of discriminant) /ᶠ (twoᶠ *ᶠ da)) ((neg db +ᶠ root_of discriminant) /ᶠ (twoᶠ *ᶠ da)))
    []

unfoldable pub turning_points : Float → Float → Float → List Float
turning_points da db c = turning_by da db (db *ᶠ db -ᶠ fourᶠ *ᶠ da *ᶠ c)

-- a cubic with hardly a cubic term counts as a parabola
unfoldable pub extrema : Cubic → List Float
extrema p =
    cond (le (absolute (threeᶠ *ᶠ p.a)) (epsilon *ᶠ maximum_of (absolute p.b) oneᶠ))
    (vertex (twoᶠ *ᶠ p.b) p.c)
    (turning_points (threeᶠ *ᶠ p.a) (twoᶠ *ᶠ p.b) p.c)

-- what `extrema` lists, for the search behind it
pub data AllBetween : List Float → Type 0 where
  none_left : AllBetween []
  one_more : {u : Float} {us : List Float} → between_ends u ≡ true → AllBetween us → AllBetween (u ∷ us)
