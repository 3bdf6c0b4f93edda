-- Floor, round with ties away from zero, and a whole number from a float. Definitions only. Assumes nothing.
use Rattle.std.specs.Prelude.{ℕ, ◌≡◌, ◌+◌, ◌-◌, ◌*◌, ◌/◌, Bool, true, false, pos, Float}
use Rattle.std.specs.Float.{nan, inf, fin, binary64}
use Rattle.std.specs.Float.Ieee.{up, down, round, to_unsigned, lt}

-- x with its size, a fraction, made a whole number by a rule that sees the sign too. NaN and the infinities stay, and a result of zero
-- keeps the sign of x.
unfoldable pub whole_by : (Bool → ℕ → ℕ → ℕ) → Float → Float
whole_by rule nan = nan
whole_by rule (inf s) = inf s
whole_by rule (fin s m e) = round binary64 s (rule s (m * up e) (down e)) 1

-- the size of the greatest whole number at or below ±a / c
abbrev pub toward_negative : Bool → ℕ → ℕ → ℕ
toward_negative false a c = a / c
toward_negative true a c = (a + (c - 1)) / c

-- the size of the whole number nearest to ±a / c, and half way between two of the one farther from zero
abbrev pub ties_away : Bool → ℕ → ℕ → ℕ
ties_away s a c = (2 * a + c) / (2 * c)

-- "floor": IEEE 754's roundToIntegralTowardNegative
unfoldable pub floor_of : Float → Float
floor_of x = whole_by toward_negative x

-- "round with ties away from zero": IEEE 754's roundToIntegralTiesToAway
unfoldable pub round_of : Float → Float
round_of x = whole_by ties_away x

-- "A whole number from a float saturates at 0 and 2^64-1.", its fraction cut off, and NaN gives 0
abbrev pub whole_of : Float → ℕ
whole_of x = to_unsigned 64 x

-- above 0 and below 2^52, from where on every float is whole
abbrev pub BelowWhole : Float → Type 0
BelowWhole a = (lt (fin false 0 (pos 0)) a ≡ true) × (lt a (fin false 1 (pos 52)) ≡ true)
