-- The largest distance grids that are admitted, with one node more along a side, and a coordinate past the last node, computed. Assumes
-- nothing.
use mathlib.Core.Path.{◌≡◌, refl}
use mathlib.Core.Bool.{true, false}
use mathlib.Core.List.{[], ◌∷◌}
use Prim.Native.Nat.{ℕ}
use lib.Ieee.{Float, binary64, of_bits, of_int, neg, add, sub, mul, div, lt}
use Rattle.arithmetic.specs.Basic.{is_finite}
use Rattle.vectors.specs.Numbers.{zeroᶠ, oneᶠ}
use Rattle.distance_grid.specs.Grid.{side_admitted, sides_admitted, last_node}
use Rattle.distance_grid.specs.Places.{top_of, clamped_to, clamped}
use Rattle.distance_grid.specs.declared.grid.Sides.{Sides}

abbrev sides : ℕ → ℕ → ℕ → Sides
sides x y z = record { x = x; y = y; z = z }

-- "distance grid sides 2 to 256"
pub sides_end :
    sides_admitted (sides 256 2 2) 1024 ∷ (sides_admitted (sides 2 256 2) 1024 ∷ (sides_admitted (sides 2 2 256) 1024 ∷
    (sides_admitted (sides 257 2 2) 1028 ∷ (sides_admitted (sides 2 257 2) 1028 ∷ (sides_admitted (sides 2 2 257) 1028 ∷ [])))))
    ≡ true ∷ (true ∷ (true ∷ (false ∷ (false ∷ (false ∷ [])))))
unfolding sides_admitted side_admitted
sides_end = refl

-- nodes at 0, 1 and 2: what lies past 2 is moved to 2 itself
abbrev two : Float
two = of_bits binary64 0x4000_0000_0000_0000

pub past_the_last : clamped (of_bits binary64 0x4008_0000_0000_0000) zeroᶠ oneᶠ 3 ≡ two
unfolding clamped clamped_to top_of last_node is_finite of_bits of_int neg add sub mul div lt
past_the_last = refl
