-- A vector's dot with itself: no part of it is negative, it is a number where the vector is finite, and else no number bounds it. Assumes
-- nothing.
use mathlib.Core.Path.{◌≡◌, refl}
use mathlib.Core.Bool.{Bool, true, false, ◌&&◌, true≢false}
use lib.Ieee.{Float, binary64, is_nan}
use Rattle.arithmetic.specs.Basic.{is_finite, negative}
use Rattle.arithmetic.proofs.RoundedSigns.{square_not_negative, sum_not_negative}
use Rattle.vectors.specs.Numbers.{◌+ᶠ◌, ◌*ᶠ◌}
use Rattle.arithmetic.proofs.RoundedNumbers.{Unbounded, square_unbounded, unbounded_sum, sum_unbounded, square_number}
use Rattle.arithmetic.proofs.RoundedNumbers.{positive_sum_number}
use Rattle.vectors.specs.Vector.{dot_of, finite_vec}
use Rattle.vectors.proofs.FiniteVectors.{finite_x, finite_y, finite_z}
use Rattle.vectors.specs.declared.vec3.Vec3.{Vec3}

module _ (v : Vec3) where
  abbrev pub first_sum : Float
  first_sum = (v.x *ᶠ v.x) +ᶠ (v.y *ᶠ v.y)

  pub square_sign : (a : Float) → negative (a *ᶠ a) ≡ false
  square_sign a = square_not_negative binary64 a

  pub first_sign : negative first_sum ≡ false
  first_sign = sum_not_negative binary64 (v.x *ᶠ v.x) (v.y *ᶠ v.y) (square_sign v.x) (square_sign v.y)

  -- a component that is not finite, and a square that no number bounds
  pub square_of_infinite : finite_vec v ≡ false → Unbounded (dot_of v v)
  unfolding finite_vec dot_of
  square_of_infinite h = go (is_finite v.x) (is_finite v.y) (is_finite v.z) refl refl refl h
    where
      go : (a b c : Bool) → is_finite v.x ≡ a → is_finite v.y ≡ b → is_finite v.z ≡ c → (a && (b && c)) ≡ false → Unbounded
          (first_sum +ᶠ (v.z *ᶠ v.z))
      go false b c p q r h = unbounded_sum binary64 first_sum (v.z *ᶠ v.z)
          (unbounded_sum binary64 (v.x *ᶠ v.x) (v.y *ᶠ v.y) (square_unbounded binary64 v.x p) (square_sign v.y))
          (square_sign v.z)
      go true false c p q r h = unbounded_sum binary64 first_sum (v.z *ᶠ v.z)
          (sum_unbounded binary64 (v.x *ᶠ v.x) (v.y *ᶠ v.y) (square_sign v.x) (square_unbounded binary64 v.y q))
          (square_sign v.z)
      go true true false p q r h = sum_unbounded binary64 first_sum (v.z *ᶠ v.z) first_sign (square_unbounded binary64 v.z r)
      go true true true p q r h = absurd (true≢false h)

  -- finite components, and a square that is a number
  pub square_of_finite : finite_vec v ≡ true → is_nan (dot_of v v) ≡ false
  unfolding dot_of
  square_of_finite h =
      positive_sum_number binary64 first_sum (v.z *ᶠ v.z) first_sign (square_sign v.z)
      (positive_sum_number binary64 (v.x *ᶠ v.x) (v.y *ᶠ v.y) (square_sign v.x) (square_sign v.y)
      (square_number binary64 v.x (finite_x v h)) (square_number binary64 v.y (finite_y v h)))
      (square_number binary64 v.z (finite_z v h))
