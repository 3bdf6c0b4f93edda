-- How far a float above zero lies from 1, rounded: on either side of 1 this grows with the exact distance. Assumes nothing.
use Rattle.std.proofs.Common.{◌≡◌, ℕ, ◌-◌, ◌*◌, ◌≤◌, true, false, T, pos, sym, ap, ◌∙◌, subst, mul-le-mul_right, mul_comm, one-mul, mul-one}
use Rattle.std.proofs.Common.{arith}
use native.Mathlib.Nat.{mul-sub}
use lib.Ieee.{Float, nan, inf, fin, binary64, up, down, round, sub, le}
use lib.Ieee.Order.{round_mono}
use lib.Ieee.Positive.{num, den, den_pos, positive, le→cross}
use Rattle.arithmetic.specs.Basic.{absolute}
use Rattle.arithmetic.proofs.Differences.{apart, absolute_sub}

abbrev pub one : Float
one = fin false 1 (pos 0)

abbrev pub from_one : Float → Float
from_one x = absolute (sub binary64 x one)

-- ---- the rounded distance is the exact one, rounded
from_one_is : (x : Float) → T (positive x) → from_one x ≡ round binary64 false (apart (num x) (den x)) (den x)
from_one_is nan p = absurd p
from_one_is (inf s) p = absurd p
from_one_is (fin true m e) p = absurd p
from_one_is (fin false m e) p =
    absolute_sub (fin false m e) one p tt
    ∙ ap (λ (z : ℕ). round binary64 false (apart z (1 * down e)) (down e * 1)) (mul-one (m * up e))
    ∙ ap (λ (z : ℕ). round binary64 false (apart (m * up e) z) (down e * 1)) (one-mul (down e))
    ∙ ap (λ (z : ℕ). round binary64 false (apart (m * up e) (down e)) z) (mul-one (down e))

grows : (x y : Float) → T (positive x) → T (positive y) → apart (num x) (den x) * den y ≤ apart (num y) (den y) * den x → T
    (le (from_one x) (from_one y))
grows x y p q h =
    subst (λ (z : Float). T (le z (from_one y))) (sym (from_one_is x p))
    (subst (λ (z : Float). T (le (round binary64 false (apart (num x) (den x)) (den x)) z)) (sym (from_one_is y q))
    (round_mono binary64 (apart (num x) (den x)) (den x) (apart (num y) (den y)) (den y) (den_pos x) (den_pos y) h))

-- ---- a / c ≤ b / d, both on one side of 1
minus_times : (a b c : ℕ) → (a - b) * c ≡ a * c - b * c
minus_times a b c = mul_comm (a - b) c ∙ mul-sub c a b ∙ ap (λ (z : ℕ). z - c * b) (mul_comm c a) ∙ ap (λ (z : ℕ). a * c - z) (mul_comm c b)

under : (a c b d : ℕ) → a * d ≤ b * c → b ≤ d → apart b d * c ≤ apart a c * d
under a c b d h k =
    let e : apart b d ≡ d - b = omega arith in
    let l : (c - a) * d ≤ apart a c * d = mul-le-mul_right d (omega arith) in
    let u : (c - a) * d ≡ c * d - a * d = minus_times c a d in
    let v : (d - b) * c ≡ d * c - b * c = minus_times d b c in
    subst (λ (z : ℕ). z * c ≤ apart a c * d) (sym e) (omega (arith, mul_comm c d))

over : (a c b d : ℕ) → a * d ≤ b * c → c ≤ a → apart a c * d ≤ apart b d * c
over a c b d h k =
    let e : apart a c ≡ a - c = omega arith in
    let l : (b - d) * c ≤ apart b d * c = mul-le-mul_right c (omega arith) in
    let u : (a - c) * d ≡ a * d - c * d = minus_times a c d in
    let v : (b - d) * c ≡ b * c - d * c = minus_times b d c in
    subst (λ (z : ℕ). z * d ≤ apart b d * c) (sym e) (omega (arith, mul_comm c d))

module _ (x y : Float) (p : T (positive x)) (q : T (positive y)) (h : T (le x y)) where
  pub nearer_below_one : T (le y one) → T (le (from_one y) (from_one x))
  nearer_below_one k =
      let l : num y * 1 ≤ 1 * den y = le→cross y one q tt k in
      grows y x q p (under (num x) (den x) (num y) (den y) (le→cross x y p q h) (omega arith))

  pub farther_above_one : T (le one x) → T (le (from_one x) (from_one y))
  farther_above_one k =
      let l : 1 * den x ≤ num x * 1 = le→cross one x tt p k in
      grows x y p q (over (num x) (den x) (num y) (den y) (le→cross x y p q h) (omega arith))
