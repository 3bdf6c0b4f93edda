-- A drill's radius, which is read upward on the grid. Definitions only. Assumes nothing.
use Rattle.std.specs.Prelude.{ℕ, ◌+◌, ◌-◌, ◌*◌, ◌/◌, ◌<◌, ◌≤◌, Bool, not, ◌&&◌, from_bits, Float}
use Rattle.std.specs.Float.{nan, inf, fin, binary64}
use Rattle.std.specs.Float.Ieee.{up, down, lt}
use Rattle.arithmetic.specs.Basic.{is_finite}
use Rattle.vectors.specs.Numbers.{zeroᶠ}
use Rattle.exact_triangle.specs.Grid.{units}

-- 128 mm
abbrev pub widestᶠ : Float
widestᶠ = from_bits binary64 0x4060_0000_0000_0000

-- a number from 0 on
unfoldable pub radius_admitted : Float → Bool
radius_admitted x = is_finite x && not (lt x zeroᶠ)

-- the ceiling of n / d: the least whole number that is not below it
unfoldable pub ceiling : ℕ → ℕ → ℕ
ceiling n d = (n + (d - 1)) / d

-- the radius in units: the least whole number of them that is not below it
unfoldable pub radius_on : Float → ℕ
radius_on nan = 0
radius_on (inf s) = 0
radius_on (fin s m e) = ceiling (m * up e * units) (down e)

-- n units are not below x = a / d, and less than a unit above it: 2^15 a ≤ n d < 2^15 a + d (`radius_up`: so is the radius in units)
abbrev pub ReadUp : Float → ℕ → Type 0
ReadUp nan n = ⊥
ReadUp (inf s) n = ⊥
ReadUp (fin s m e) n = (m * up e * units ≤ n * down e) × (n * down e < m * up e * units + down e)
