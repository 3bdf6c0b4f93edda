-- A determinant that is a whole number is flat exactly where it is 0. Assumes nothing.
use mathlib.Core.Path.{◌≡◌, refl, sym, ap, ◌∙◌, subst}
use mathlib.Core.Logic.{inl, inr}
use mathlib.Core.Bool.{true, false, not}
use Prim.Native.Nat.{ℕ, ◌*◌, ◌^◌, ◌≤◌, ◌<◌}
use native.Mathlib.Nat.{mul-one, mul_assoc, zero-lt-suc, mul-le-mul_right, lt_of_le_of_lt, le_trans}
use native.Mathlib.Omega.{arith}
use lib.Dec.{ltb, lit<, lit≤}
use lib.IntN.{ℤ, nat_abs}
use lib.Ieee.{Float, binary64, of_bits, round}
use lib.Ieee.Exact.{HasValue, round_exact}
use borrow.Author.Tests.{lt-ltb, le-ltb}
use Rattle.arithmetic.specs.Basic.{absolute}
use Rattle.arithmetic.specs.Extremes.{maximum_of}
use Rattle.arithmetic.proofs.ExtremesOrder.{maximum_one}
use Rattle.vectors.specs.Numbers.{◌*ᶠ◌, epsilon}
use Rattle.vectors.specs.Vector.{abs_of, max_element}
use Rattle.vectors.specs.declared.vec3.Vec3.{Vec3}
use Rattle.triangle_cast.specs.Triangle.{flat, thirty_two}
use Rattle.triangle_cast.proofs.FlatLaws.{epsilon_value}
use Rattle.exact_depth.proofs.Standing.{Stands}
use Rattle.whole_numbers.proofs.Whole.{Whole, WholeVec}
use Rattle.whole_numbers.specs.Points.{Point}
use Rattle.arithmetic.proofs.ValueOrder.{absolute_value, le_values, mul_values}
use Rattle.arithmetic.proofs.ScalingLaws.{one_value}
use Rattle.whole_numbers.proofs.Decisions.{parted}

-- ---- a whole number that is not negative, up to B
record Sized (B : ℕ) (x : Float) : Type 0 where
  size : ℕ
  value : HasValue x false size 1
  bound : size ≤ B

absolute_sized : (B : ℕ) (x : Float) (z : ℤ) → Whole B x z → Sized B (absolute x)
absolute_sized B x z w =
    let p =
    parted x z w.value in record { size = nat_abs z; value = absolute_value x p.sign (nat_abs z) 1 p.value; bound = w.bound }

maximum_sized : (B : ℕ) (x y : Float) → Sized B x → Sized B y → Sized B (maximum_of x y)
maximum_sized B x y p q = elim (maximum_one x y) [ inl e ↦ subst (Sized B) (sym e) p | inr e ↦ subst (Sized B) (sym e) q ]

element_sized : (B : ℕ) (v : Vec3) (p : Point) → WholeVec B v p → Sized B (max_element (abs_of v))
unfolding max_element abs_of
element_sized B v p w =
    maximum_sized B _ _ (maximum_sized B _ _ (absolute_sized B v.x p.x w.first) (absolute_sized B v.y p.y w.second))
    (absolute_sized B v.z p.z w.third)

-- ---- the threshold: the scale times 2^-47
thirty_two_value : HasValue thirty_two false 32 1
unfolding of_bits
thirty_two_value = (refl, refl)

epsilon_times_exact : (n : ℕ) → n ≤ 2 ^ 20 → HasValue (round binary64 false (n * 1) (1 * 2 ^ 52)) false (n * 1) (1 * 2 ^ 52)
epsilon_times_exact n h =
    round_exact binary64 false (n * 1) (1 * 2 ^ 52) n 1022 (lit≤ tt) (lt_of_le_of_lt h (lit< tt))
    (lt_of_le_of_lt (mul-le-mul_right (2 ^ 1022) h) (lit< tt))
    (ap (λ (z : ℕ). z * 2 ^ 1074) (mul-one n) ∙ sym (mul_assoc n (2 ^ 1022) (1 * 2 ^ 52)))

threshold_exact : (n : ℕ) → n ≤ 2 ^ 20 → HasValue (round binary64 false (n * 1 * 32) (1 * 2 ^ 52 * 1)) false (n * 1 * 32) (1 * 2 ^ 52 * 1)
threshold_exact n h =
    round_exact binary64 false (n * 1 * 32) (1 * 2 ^ 52 * 1) n 1027 (lit≤ tt) (lt_of_le_of_lt h (lit< tt))
    (lt_of_le_of_lt (mul-le-mul_right (2 ^ 1027) h) (lit< tt))
    (ap (λ (z : ℕ). z * 32 * 2 ^ 1074) (mul-one n) ∙ mul_assoc n 32 (2 ^ 1074) ∙ sym (mul_assoc n (2 ^ 1027) (1 * 2 ^ 52 * 1)))

threshold : (x : Float) (n : ℕ) → n ≤ 2 ^ 20 → HasValue x false n 1
    → HasValue (x *ᶠ epsilon *ᶠ thirty_two) false (n * 1 * 32) (1 * 2 ^ 52 * 1)
threshold x n h v =
    let a : HasValue (x *ᶠ epsilon) false (n * 1) (1 * 2 ^ 52) =
    subst (λ (z : Float). HasValue z false (n * 1) (1 * 2 ^ 52))
    (sym (mul_values x epsilon false false n 1 1 (2 ^ 52) (zero-lt-suc 0) (lit≤ tt) v epsilon_value)) (epsilon_times_exact n h) in
    subst (λ (z : Float). HasValue z false (n * 1 * 32) (1 * 2 ^ 52 * 1))
    (sym (mul_values (x *ᶠ epsilon) thirty_two false false (n * 1) (1 * 2 ^ 52) 32 1 (lit≤ tt) (zero-lt-suc 0) a thirty_two_value))
    (threshold_exact n h)

module _ (a b : Vec3) (p q : Point) (v : WholeVec 8192 a p) (w : WholeVec 8192 b q) (det : Float) (d : ℤ) (x : Stands det d) where
  flat_test : (n : ℕ) × (n ≤ 8192) × (flat det a b ≡ not (ltb (n * 1 * 32 * 1) (nat_abs d * (1 * 2 ^ 52 * 1))))
  unfolding flat
  flat_test =
      let s =
      maximum_sized 8192 _ _ (maximum_sized 8192 _ _ (element_sized 8192 a p v) (element_sized 8192 b q w))
      (record { size = 1; value = one_value; bound = lit≤ tt }) in
      let y = parted det d x in (
        s.size,
        s.bound,
        le_values (absolute det) _ false false (nat_abs d) 1 (s.size * 1 * 32) (1 * 2 ^ 52 * 1) (zero-lt-suc 0) (lit≤ tt)
            (absolute_value det y.sign (nat_abs d) 1 y.value)
            (threshold _ s.size (le_trans s.bound (lit≤ tt)) s.value),
      )

  pub flat_zero : nat_abs d ≡ 0 → flat det a b ≡ true
  flat_zero h =
      flat_test.2
      ∙ ap not
      (le-ltb (flat_test.0 * 1 * 32 * 1) (nat_abs d * (1 * 2 ^ 52 * 1))
      (subst (λ (k : ℕ). k * (1 * 2 ^ 52 * 1) ≤ flat_test.0 * 1 * 32 * 1) (sym h) (omega arith)))

  pub not_flat : 0 < nat_abs d → flat det a b ≡ false
  not_flat h =
      flat_test.2
      ∙ ap not (lt-ltb (flat_test.0 * 1 * 32 * 1) (nat_abs d * (1 * 2 ^ 52 * 1)) (let l = flat_test.1 in omega (arith, l, h)))
