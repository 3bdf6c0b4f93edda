-- Sums, differences, products, dots and crosses of whole numbers are exact while their sizes stay up to 2^53. Assumes nothing.
use Prim.Native.Nat.{ℕ, ◌+◌, ◌*◌, ◌^◌, ◌≤◌}
use native.Mathlib.Nat.{le_trans, le_of_eq}
use native.Mathlib.Omega.{arith}
use lib.IntN.{ℤ, nat_abs, ◌+ℤ◌, ◌-ℤ◌, ◌*ℤ◌}
use lib.Ieee.{Float}
use Rattle.vectors.specs.Numbers.{◌+ᶠ◌, ◌-ᶠ◌, ◌*ᶠ◌}
use Rattle.vectors.specs.Vector.{sub_of, cross_of, dot_of}
use Rattle.vectors.specs.declared.vec3.Vec3.{Vec3}
use Rattle.wide_integers.proofs.Integers.{pp, np, size_is, add_parts, sub_parts, mul_parts, add_size, sub_size, mul_size}
use Rattle.wide_integers.proofs.Reading.{mul_le}
use Rattle.whole_numbers.proofs.Whole.{Whole, WholeVec}
use Rattle.whole_numbers.specs.Points.{Point, sub_p, cross_p, dot_p}
use Rattle.arithmetic.proofs.WholeValues.{same, add_is, sub_is, mul_is}

pub whole_add : (A B : ℕ) (x y : Float) (z w : ℤ) → A + B ≤ 2 ^ 53 → Whole A x z → Whole B y w → Whole (A + B) (x +ᶠ y) (z +ℤ w)
whole_add A B x y z w h u v =
    let a = u.bound in
    let b = v.bound in
    let sa = size_is z in
    let sb = size_is w in
    record {
      value =
          same (x +ᶠ y) (pp z + pp w) (np z + np w) (pp (z +ℤ w)) (np (z +ℤ w)) (add_parts z w)
          (add_is x y (pp z) (np z) (pp w) (np w) u.value v.value (omega arith) (omega arith));
      bound = omega (arith, add_size z w, a, b);
    }

pub whole_sub : (A B : ℕ) (x y : Float) (z w : ℤ) → A + B ≤ 2 ^ 53 → Whole A x z → Whole B y w → Whole (A + B) (x -ᶠ y) (z -ℤ w)
whole_sub A B x y z w h u v =
    let a = u.bound in
    let b = v.bound in
    let sa = size_is z in
    let sb = size_is w in
    record {
      value =
          same (x -ᶠ y) (pp z + np w) (np z + pp w) (pp (z -ℤ w)) (np (z -ℤ w)) (sub_parts z w)
          (sub_is x y (pp z) (np z) (pp w) (np w) u.value v.value (omega arith) (omega arith));
      bound = omega (arith, sub_size z w, a, b);
    }

pub whole_mul : (A B : ℕ) (x y : Float) (z w : ℤ) → A * B ≤ 2 ^ 53 → Whole A x z → Whole B y w → Whole (A * B) (x *ᶠ y) (z *ℤ w)
whole_mul A B x y z w h u v =
    let m : (pp z + np z) * (pp w + np w) ≤ A * B =
    mul_le (pp z + np z) (pp w + np w) A B (omega (arith, size_is z, u.bound)) (omega (arith, size_is w, v.bound)) in
    record {
      value =
          same (x *ᶠ y) (pp z * pp w + np z * np w) (pp z * np w + np z * pp w) (pp (z *ℤ w)) (np (z *ℤ w)) (mul_parts z w)
          (mul_is x y (pp z) (np z) (pp w) (np w) u.value v.value (omega (arith, m, h)) (omega (arith, m, h)));
      bound = le_trans (le_of_eq (mul_size z w)) (mul_le (nat_abs z) (nat_abs w) A B u.bound v.bound);
    }

-- ---- vectors
module _ (A B : ℕ) (v w : Vec3) (p q : Point) (s : WholeVec A v p) (t : WholeVec B w q) where
  pub sub_whole : A + B ≤ 2 ^ 53 → WholeVec (A + B) (sub_of v w) (sub_p p q)
  unfolding sub_of
  sub_whole h = record {
    first = whole_sub A B v.x w.x p.x q.x h s.first t.first;
    second = whole_sub A B v.y w.y p.y q.y h s.second t.second;
    third = whole_sub A B v.z w.z p.z q.z h s.third t.third;
  }

  module _ (h : 3 * (A * B) ≤ 2 ^ 53) where
    part : (x y : Float) (z u : ℤ) → Whole A x z → Whole B y u → Whole (A * B) (x *ᶠ y) (z *ℤ u)
    part x y z u = whole_mul A B x y z u (omega arith)

    two : (x y : Float) (z u : ℤ) → Whole (A * B) x z → Whole (A * B) y u → Whole (A * B + A * B) (x -ᶠ y) (z -ℤ u)
    two x y z u = whole_sub (A * B) (A * B) x y z u (omega arith)

    pub dot_whole : Whole (A * B + A * B + A * B) (dot_of v w) (dot_p p q)
    unfolding dot_of
    dot_whole =
        whole_add (A * B + A * B) (A * B) _ _ _ _ (omega arith)
        (whole_add (A * B) (A * B) _ _ _ _ (omega arith) (part _ _ _ _ s.first t.first) (part _ _ _ _ s.second t.second))
        (part _ _ _ _ s.third t.third)

    pub cross_whole : WholeVec (A * B + A * B) (cross_of v w) (cross_p p q)
    unfolding cross_of
    cross_whole = record {
      first = two _ _ _ _ (part _ _ _ _ s.second t.third) (part _ _ _ _ s.third t.second);
      second = two _ _ _ _ (part _ _ _ _ s.third t.first) (part _ _ _ _ s.first t.third);
      third = two _ _ _ _ (part _ _ _ _ s.first t.second) (part _ _ _ _ s.second t.first);
    }
