-- What is printed for a float tells the float, the sign of a zero too. Assumes that a binary64 holds the floats.
use mathlib.Core.Path.{◌≡◌, refl, sym, ◌∙◌}
use lib.Dec.{T}
use lib.Ieee.{Float, nan, inf, fin, binary64, fits, to_bits, is_nan, of_bits}
use Rattle.arithmetic.proofs.Numbers.{same_bits}
use Rattle.record_text.specs.Text.{printed_bits}

-- the one NaN's bits are the printed pattern
printed_is_bits : (x : Float) → printed_bits x ≡ to_bits binary64 x
unfolding printed_bits is_nan to_bits
printed_is_bits nan = refl
printed_is_bits (inf s) = refl
printed_is_bits (fin s m e) = refl

pub printed_tells : (x y : Float) → T (fits binary64 x) → T (fits binary64 y) → printed_bits x ≡ printed_bits y → x ≡ y
printed_tells x y f g e = same_bits x y f g (sym (printed_is_bits x) ∙ e ∙ printed_is_bits y)

-- two zeros, two texts
minus_zero_printed : printed_bits (of_bits binary64 0x8000_0000_0000_0000) ≡ 0x8000_0000_0000_0000
unfolding printed_bits is_nan of_bits to_bits
minus_zero_printed = refl

plus_zero_printed : printed_bits (of_bits binary64 0) ≡ 0
unfolding printed_bits is_nan of_bits to_bits
plus_zero_printed = refl
