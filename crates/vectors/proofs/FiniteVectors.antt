-- The components of a finite vector are finite numbers, those of a vector with numbers are no NaN, and minimum and maximum of finite
-- vectors are finite. Assumes nothing.
use mathlib.Core.Path.{◌≡◌}
use mathlib.Core.Bool.{true, ◌&&◌, not}
use lib.Ieee.{is_nan}
use borrow.Author.Tests.{not-true}
use Rattle.arithmetic.specs.Basic.{is_finite}
use Rattle.arithmetic.specs.Extremes.{minimum_of, maximum_of}
use Rattle.arithmetic.proofs.Numbers.{finite_number}
use Rattle.arithmetic.proofs.ExtremesOrder.{minimum_finite, maximum_finite}
use Rattle.vectors.specs.Vector.{finite_vec, has_numbers, Numbers, min_of, max_of}
use Rattle.vectors.specs.declared.vec3.Vec3.{Vec3}
use Rattle.lists.proofs.JoinedTests.{and_first, and_second, and_three}

module _ (v : Vec3) (h : finite_vec v ≡ true) where
  pub finite_x : is_finite v.x ≡ true
  unfolding finite_vec
  finite_x = and_first (is_finite v.x) (is_finite v.y && is_finite v.z) h

  pub finite_y : is_finite v.y ≡ true
  unfolding finite_vec
  finite_y = and_first (is_finite v.y) (is_finite v.z) (and_second (is_finite v.x) (is_finite v.y && is_finite v.z) h)

  pub finite_z : is_finite v.z ≡ true
  unfolding finite_vec
  finite_z = and_second (is_finite v.y) (is_finite v.z) (and_second (is_finite v.x) (is_finite v.y && is_finite v.z) h)

  pub finite_numbers : Numbers v
  finite_numbers = record {
    first = finite_number v.x finite_x;
    second = finite_number v.y finite_y;
    third = finite_number v.z
        finite_z;
  }

-- what `has_numbers` tells, component by component
pub numbers_told : (v : Vec3) → has_numbers v ≡ true → Numbers v
unfolding has_numbers
numbers_told v h =
    let p = not (is_nan v.x) in
    let q = not (is_nan v.y) in
    let r = not (is_nan v.z) in
    let rest = and_second p (q && r) h in record {
      first = not-true (is_nan v.x) (and_first p (q && r) h);
      second = not-true (is_nan v.y) (and_first q r rest);
      third = not-true (is_nan v.z) (and_second q r rest);
    }

module _ (v w : Vec3) (p : finite_vec v ≡ true) (q : finite_vec w ≡ true) where
  pub min_finite : finite_vec (min_of v w) ≡ true
  unfolding finite_vec min_of
  min_finite =
      and_three (is_finite (minimum_of v.x w.x)) (is_finite (minimum_of v.y w.y)) (is_finite (minimum_of v.z w.z))
      (minimum_finite v.x w.x (finite_x v p) (finite_x w q))
      (minimum_finite v.y w.y (finite_y v p) (finite_y w q))
      (minimum_finite v.z w.z (finite_z v p) (finite_z w q))

  pub max_finite : finite_vec (max_of v w) ≡ true
  unfolding finite_vec max_of
  max_finite =
      and_three (is_finite (maximum_of v.x w.x)) (is_finite (maximum_of v.y w.y)) (is_finite (maximum_of v.z w.z))
      (maximum_finite v.x w.x (finite_x v p) (finite_x w q))
      (maximum_finite v.y w.y (finite_y v p) (finite_y w q))
      (maximum_finite v.z w.z (finite_z v p) (finite_z w q))
