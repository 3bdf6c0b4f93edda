-- M-109's promise at two computed casts: a segment strictly inside the ranges, and one above them. Assumes nothing.
use Prim.Native.Nat.{ℕ, zero, suc}
use mathlib.Core.Path.{◌≡◌, ap}
use mathlib.Core.List.{List}
use lib.Ieee.{Float, binary64, nan, of_bits}
use lib.Ieee.Bits.{of_bits-fits}
use lib.Ieee.Fits.{nan-fits}
use lib.ListN.{get_or}
use Rattle.vectors.specs.Numbers.{zeroᶠ, oneᶠ}
use Rattle.casts.specs.Answer.{none}
use Rattle.height_field.specs.Cast.{ray_height_field}
use Rattle.height_ranges.specs.Answer.{Answer, clear}
use Rattle.height_ranges.specs.Promise.{Tested, InOrder, First, Within}
use Rattle.height_ranges.proofs.Doubles.{Double, double, Doubles, Typed}
use Rattle.height_ranges.proofs.Promise.{meets_promise}
use Rattle.grid_laws.proofs.RangesExamples.{two, quarter, down, grid, level, answers_agree}

-- the numbers of both slices are f64
level_doubles : (h : Float) → Double h → Doubles (level h)
level_doubles h d zero = d
level_doubles h d (suc zero) = d
level_doubles h d (suc (suc zero)) = d
level_doubles h d (suc (suc (suc zero))) = d
level_doubles h d (suc (suc (suc (suc zero)))) = d
level_doubles h d (suc (suc (suc (suc (suc zero))))) = d
level_doubles h d (suc (suc (suc (suc (suc (suc n)))))) = double nan (nan-fits binary64)

typed : (low high : ℕ) → Typed (down quarter) (level (of_bits binary64 low)) (level (of_bits binary64 high))
typed low high = record {
  origin = double oneᶠ (of_bits-fits binary64 0x3ff0_0000_0000_0000);
  low_doubles = level_doubles (of_bits binary64 low) (double _ (of_bits-fits binary64 low));
  high_doubles = level_doubles (of_bits binary64 high) (double _ (of_bits-fits binary64 high));
}

-- possible with cell 0: the tests pass, the ranges that count are in order, and cell 0 is the first that some grid lets touch
pub inside_is_first : Tested (down quarter) grid (level zeroᶠ) (level two)
    × (InOrder (down quarter) grid (level zeroᶠ) (level two) × First (down quarter) grid (level zeroᶠ) (level two) 0)
inside_is_first =
    (meets_promise (down quarter) grid (level zeroᶠ) (level two) (typed 0 0x4000_0000_0000_0000)).possible_only_if 0
    (ap (λ (l : List Answer). get_or l 0 clear) answers_agree)

-- clear: whatever grid stands within the ranges, the height cast is none
pub above_is_none : (heights : List Float) → Within (down quarter) grid (level zeroᶠ) (level quarter) heights
    → ray_height_field (down quarter) grid heights ≡ none
above_is_none =
    (meets_promise (down quarter) grid (level zeroᶠ) (level quarter) (typed 0 0x3fd0_0000_0000_0000)).none_where_clear
    (ap (λ (l : List Answer). get_or l 1 clear) answers_agree)
