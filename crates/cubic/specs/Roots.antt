-- The first root of the cubic through four samples. Definitions only. Assumes nothing.
use Rattle.std.specs.Prelude.{cond, List, [], ◌∷◌, Float, get_or, Option, Some, None as NoPoint, Result, Ok, Err}
use Rattle.std.specs.Bool.{beq}
use Rattle.std.specs.Float.{nan}
use Rattle.std.specs.Float.Ieee.{le}
use Rattle.arithmetic.specs.Basic.{absolute, sign_positive}
use Rattle.arithmetic.specs.Ordering.{total_order}
use Rattle.vectors.specs.Numbers.{zeroᶠ, oneᶠ}
use Rattle.cubic.specs.Polynomial.{cubic_of, finite_cubic, evaluate, root_tolerance}
use Rattle.cubic.specs.Turns.{extrema}
use Rattle.cubic.specs.Halving.{halvings, settled}
use Rattle.cubic.specs.declared.polynomial.Cubic.{Cubic}
use Rattle.cubic.specs.declared.halving.Halving.TheVariants.{Open}
use Rattle.cubic.specs.declared.roots.Overflow.{Overflow as NotFinite}

-- where between 0 and 1 a root lies
pub data Root : Type 0 where
  At : Float → Root
  None : Root
  Overflow : Root

-- what the code's answers say
abbrev pub says_found : Option Float → Root
says_found (Some u) = At u
says_found NoPoint = None

abbrev pub says_root : Result (Option Float) NotFinite → Root
says_root (Ok found) = says_found found
says_root (Err refusal) = Overflow

-- ---- sorted in totalOrder

unfoldable pub insert : Float → List Float → List Float
insert u [] = u ∷ []
insert u (v ∷ vs) = cond (total_order u v) (u ∷ v ∷ vs) (v ∷ insert u vs)

unfoldable pub sorted : List Float → List Float
sorted [] = []
sorted (u ∷ us) = insert u (sorted us)

-- the ends of the intervals: 0, 1, and where the cubic turns
unfoldable pub points : List Float → List Float
points us = sorted (zeroᶠ ∷ oneᶠ ∷ us)

-- ---- the first root

-- "accepts a low end within scale·EPS·64 (scale at least 1) before the high end, then 64 halvings"
unfoldable pub root_between : Cubic → Float → Float → Float → Root
root_between p tolerance low high =
    cond (le (absolute (evaluate p low)) tolerance) (At low)
    (cond (le (absolute (evaluate p high)) tolerance) (At high)
    (cond (beq (sign_positive (evaluate p low)) (sign_positive (evaluate p high))) None
    (At (settled (halvings p tolerance 64 (Open low high (evaluate p low)))))))

unfoldable pub search_on : Root → Cubic → Float → Float → Float → Root
search_on (At u) p tolerance low high = At u
search_on None p tolerance low high = root_between p tolerance low high
search_on Overflow p tolerance low high = Overflow

-- over the intervals of neighbouring points
unfoldable pub search_from : Root → Cubic → Float → Float → List Float → Root
search_from found p tolerance low [] = found
search_from found p tolerance low (u ∷ us) = search_from (search_on found p tolerance low u) p tolerance u us

unfoldable pub search_list : Cubic → Float → List Float → Root
search_list p tolerance [] = None
search_list p tolerance (u ∷ us) = search_from None p tolerance u us

unfoldable pub root_of_cubic : Cubic → Root
root_of_cubic p = cond (finite_cubic p) (search_list p (root_tolerance p) (points (extrema p))) Overflow

unfoldable pub first_cubic_root : List Float → Root
first_cubic_root ys = root_of_cubic (cubic_of (get_or ys 0 nan) (get_or ys 1 nan) (get_or ys 2 nan) (get_or ys 3 nan))
