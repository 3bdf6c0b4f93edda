-- Numbers whose values are computed, and what the calls ask is met by the largest that the exact cast has. Assumes nothing.
use mathlib.Core.Path.{◌≡◌, refl}
use Prim.Native.Nat.{◌*◌}
use lib.Dec.{lit≤, lit<}
use lib.IntN.{pos, negsuc}
use lib.Ieee.{binary64, of_bits, round}
use Rattle.wide_integers.specs.Value.{value, FitsWide, Middling, Weight}
use Rattle.wide_integers.specs.Division.{fraction_of}

zero_value : value (record { high = 9223372036854775808; middle = 0; low = 0 }) ≡ pos 0
unfolding value
zero_value = refl

minus_one_value : value (record { high = 9223372036854775807; middle = 18446744073709551615; low = 18446744073709551615 }) ≡ negsuc 0
unfolding value
minus_one_value = refl

-- -2^191, the lowest
lowest_value : value (record { high = 0; middle = 0; low = 0 }) ≡ negsuc 3138550867693340381917894711603833208051177722232017256447
unfolding value
lowest_value = refl

-- ---- the sizes of the exact cast: a weight of 2^122, the sum of three, and that sum times a depth of 2^60
weight_asked : Weight (pos 5316911983139663491615228241121378304)
weight_asked = record { size = lit≤ tt }

total_asked : Middling (pos 15950735949418990474845684723364134912)
total_asked = record { size = lit< tt }

depth_held : FitsWide (pos (15950735949418990474845684723364134912 * 1152921504606846976))
depth_held = record { size = lit< tt }

-- ---- fractions
third : fraction_of (pos 1) (pos 3) ≡ of_bits binary64 0x3fd5_5555_5555_5555
unfolding round of_bits
third = refl

-- 2^53 + 1 lies halfway, and the even neighbour is below; 2^53 + 3 is even above
halfway_down : fraction_of (pos 9007199254740993) (pos 1) ≡ of_bits binary64 0x4340_0000_0000_0000
unfolding round of_bits
halfway_down = refl

halfway_up : fraction_of (pos 9007199254740995) (pos 1) ≡ of_bits binary64 0x4340_0000_0000_0002
unfolding round of_bits
halfway_up = refl
