-- Inner contracts only: where a line passes a triangle. Definitions only. Assumes nothing.
use Rattle.std.specs.Prelude.{None}
use Rattle.std.specs.Prelude.{ℕ, ◌<◌, ◌≡◌, ◌⊎◌, Bool, true, false, ◌||◌, ℤ, pos}
use Rattle.std.specs.Int.Signed.{lt_z}
use Rattle.exact_depth.specs.declared.projection.Projected.{Projected}
use Rattle.exact_depth.specs.declared.projection.Fraction.{Fraction}
use Rattle.exact_depth.specs.declared.incidence.Incidence.{Incidence}
use Rattle.exact_depth.specs.declared.incidence.Incidence.TheVariants.{Outside, Crossing, Coplanar}
use Rattle.exact_depth.specs.FirstPoint.{kept, first_point}
use Rattle.exact_depth.specs.Meeting.{Meets}

-- the line crosses the triangle, its sides and corners included, at one depth, which is the first where it is on the segment
pub record Crosses (a b c : Projected) : Type 0 where
  pub at : Fraction
  pub W : ℕ
  pub positive : 0 < W
  pub denominator : at.w ≡ pos W
  pub meets : Meets a b c W at.t
  pub first : (near far : ℤ) → first_point a b c near far ≡ kept at near far

-- three numbers, one of them below 0, or above
abbrev pub any_negative : ℤ → ℤ → ℤ → Bool
any_negative x y z = lt_z x (pos 0) || (lt_z y (pos 0) || lt_z z (pos 0))

abbrev pub any_positive : ℤ → ℤ → ℤ → Bool
any_positive x y z = lt_z (pos 0) x || (lt_z (pos 0) y || lt_z (pos 0) z)

-- weights with opposite signs, or all on one side of 0, or all 0
abbrev pub BySigns : ℤ → ℤ → ℤ → Incidence → Type 0
BySigns x y z Outside = (any_negative x y z ≡ true) × (any_positive x y z ≡ true)
BySigns x y z Crossing =
    ((any_negative x y z ≡ true) × (any_positive x y z ≡ false)) ⊎ ((any_negative x y z ≡ false) × (any_positive x y z ≡ true))
BySigns x y z Coplanar = Unit {0}

abbrev pub Incident : Projected → Projected → Projected → Incidence → Type 0
Incident a b c Outside = (near far : ℤ) → None ≡ first_point a b c near far
Incident a b c Crossing = Crosses a b c
Incident a b c Coplanar = Unit {0}
