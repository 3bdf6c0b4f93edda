-- A mean that is not below a bound has a part that is not below it, and the greatest of three floats is not below it either. Assumes
-- nothing.
use mathlib.Core.Path.{◌≡◌, refl}
use mathlib.Core.Logic.{◌⊎◌, inl, inr}
use mathlib.Core.Bool.{Bool, true, false}
use Prim.Native.Nat.{ℕ, ◌+◌, ◌*◌, ◌≤◌, ◌<◌}
use native.Mathlib.Nat.{mul-le-mul_right}
use native.Mathlib.Omega.{arith}
use lib.Dec.{leb}
use lib.Ieee.{Float, le, is_nan}
use borrow.Author.Tests.{leb-true, leb-false}
use Rattle.arithmetic.specs.Extremes.{minimum_of, maximum_of}
use Rattle.arithmetic.proofs.Order.{le_left_number, le_right_number, le_transitive}
use Rattle.arithmetic.proofs.ExtremesOrder.{minimum_below_first, minimum_below_second, maximum_above_first, maximum_above_second}
use Rattle.arithmetic.proofs.WholeValues.{Is}
use Rattle.exact_depth.proofs.Standing.{is_number, is_le}

-- ---- weights i, j and k of x - x', y - y' and z - z', whose mean is not below m - m'
module _ (i j k x x' y y' z z' m m' : ℕ) (some : 0 < i + j + k)
    (mean : m * (i + j + k) + (i * x' + j * y' + k * z') ≤ i * x + j * y + k * z + m' * (i + j + k)) where
  all_below_lem : x + m' < m + x' → y + m' < m + y' → z + m' < m + z' → ⊥
  all_below_lem p q s =
      let p' : (x + m' + 1) * i ≤ (m + x') * i = mul-le-mul_right i (omega (arith, p)) in
      let q' : (y + m' + 1) * j ≤ (m + y') * j = mul-le-mul_right j (omega (arith, q)) in
      let s' : (z + m' + 1) * k ≤ (m + z') * k = mul-le-mul_right k (omega (arith, s)) in
      omega (arith, mean, some, p', q', s')

  pub part_of_mean : (m + x' ≤ x + m') ⊎ ((m + y' ≤ y + m') ⊎ (m + z' ≤ z + m'))
  part_of_mean =
      go (leb (m + x') (x + m')) (leb (m + y') (y + m')) (leb (m + z') (z + m')) refl refl refl
    where
      go : (p q s : Bool) → leb (m + x') (x + m') ≡ p → leb (m + y') (y + m') ≡ q → leb (m + z') (z + m') ≡ s
          → (m + x' ≤ x + m') ⊎ ((m + y' ≤ y + m') ⊎ (m + z' ≤ z + m'))
      go true q s p' q' s' = inl (leb-true (m + x') (x + m') p')
      go false true s p' q' s' = inr (inl (leb-true (m + y') (y + m') q'))
      go false false true p' q' s' = inr (inr (leb-true (m + z') (z + m') s'))
      go false false false p' q' s' =
          absurd (all_below_lem (leb-false (m + x') (x + m') p') (leb-false (m + y') (y + m') q') (leb-false (m + z') (z + m') s'))

-- ---- of three floats that stand for these parts, and one that stands for the bound
module _ (a b c g : Float) (x x' y y' z z' m m' : ℕ) (va : Is a x x') (vb : Is b y y') (vc : Is c z z') (vg : Is g m m') where
  abbrev least : Float
  least = minimum_of (minimum_of a b) c

  abbrev greatest : Float
  greatest = maximum_of (maximum_of a b) c

  na : is_nan a ≡ false
  na = is_number a x x' va

  nb : is_nan b ≡ false
  nb = is_number b y y' vb

  nc : is_nan c ≡ false
  nc = is_number c z z' vc

  low_number : is_nan (minimum_of a b) ≡ false
  low_number = le_left_number (minimum_of a b) a (minimum_below_first a b na nb)

  high_number : is_nan (maximum_of a b) ≡ false
  high_number = le_right_number a (maximum_of a b) (maximum_above_first a b na nb)

  module _ (i j k : ℕ) (some : 0 < i + j + k) where
    pub greatest_above : m * (i + j + k) + (i * x' + j * y' + k * z') ≤ i * x + j * y + k * z + m' * (i + j + k) → le g greatest ≡ true
    greatest_above mean =
        let up = maximum_above_first (maximum_of a b) c high_number nc in
        elim (part_of_mean i j k x x' y y' z z' m m' some mean) [
          | inl h ↦
              le_transitive g a greatest (is_le g a m m' x x' vg va h)
              (le_transitive a (maximum_of a b) greatest (maximum_above_first a b na nb) up)
          | inr (inl h) ↦
              le_transitive g b greatest (is_le g b m m' y y' vg vb h)
              (le_transitive b (maximum_of a b) greatest (maximum_above_second a b na nb) up)
          | inr (inr h) ↦
              le_transitive g c greatest (is_le g c m m' z z' vg vc h) (maximum_above_second (maximum_of a b) c high_number nc)
        ]

    pub least_below : i * x + j * y + k * z + m' * (i + j + k) ≤ m * (i + j + k) + (i * x' + j * y' + k * z') → le least g ≡ true
    least_below mean =
        let down = minimum_below_first (minimum_of a b) c low_number nc in
        elim (part_of_mean i j k x' x y' y z' z m' m some (omega (arith, mean))) [
          | inl h ↦
              le_transitive least a g (le_transitive least (minimum_of a b) a down (minimum_below_first a b na nb))
              (is_le a g x x' m m' va vg (omega (arith, h)))
          | inr (inl h) ↦
              le_transitive least b g (le_transitive least (minimum_of a b) b down (minimum_below_second a b na nb))
              (is_le b g y y' m m' vb vg (omega (arith, h)))
          | inr (inr h) ↦
              le_transitive least c g (minimum_below_second (minimum_of a b) c low_number nc)
              (is_le c g z z' m m' vc vg (omega (arith, h)))
        ]
