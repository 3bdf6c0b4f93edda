-- The determinant of two pairs of whole numbers, and the test for zero. Definitions only. Assumes nothing.
use Rattle.std.specs.Prelude.{Bool, not, ◌&&◌, ℤ, pos, ◌-ℤ◌, ◌*ℤ◌, int_le, int_lt}

-- the determinant of (a, b) and (c, d)
abbrev pub determinant : ℤ → ℤ → ℤ → ℤ → ℤ
determinant a b c d = a *ℤ d -ℤ b *ℤ c

abbrev pub is_zero : ℤ → Bool
is_zero x = not (int_lt x (pos 0)) && int_le x (pos 0)
