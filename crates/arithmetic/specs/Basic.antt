-- Finite, absolute value, sign and clamp. Definitions only. Assumes nothing.
use Rattle.std.specs.Prelude.{Bool, true, false, cond, not, Float}
use Rattle.std.specs.Float.{nan, inf, fin}
use Rattle.std.specs.Float.Ieee.{lt}

-- neither an infinity nor NaN
unfoldable pub is_finite : Float → Bool
is_finite nan = false
is_finite (inf s) = false
is_finite (fin s m e) = true

-- the same number with its sign cleared
unfoldable pub absolute : Float → Float
absolute nan = nan
absolute (inf s) = inf false
absolute (fin s m e) = fin false m e

-- Whether the sign is negative. The model's one NaN has no sign; it counts as positive, as the pattern that document 01 prints for it.
unfoldable pub negative : Float → Bool
negative nan = false
negative (inf s) = s
negative (fin s m e) = s

unfoldable pub sign_positive : Float → Bool
sign_positive x = not (negative x)

-- Rust's f64::clamp: below `low` gives `low`, then above `high` gives `high`
abbrev pub at_most : Float → Float → Float
at_most x high = cond (lt high x) high x

unfoldable pub clamp_to : Float → Float → Float → Float
clamp_to x low high = at_most (cond (lt x low) low x) high
