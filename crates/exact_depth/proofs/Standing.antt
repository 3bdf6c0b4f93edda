-- Floats that stand for whole numbers: one that equals a whole number's does, and their order is the whole numbers'. Assumes nothing.
use mathlib.Core.Path.{◌≡◌, refl, sym, ap, ◌∙◌}
use mathlib.Core.Logic.{◌⊎◌, inl, inr}
use mathlib.Core.Bool.{Bool, true, false, ◌||◌, beq, false≢true}
use Prim.Native.Nat.{ℕ, suc, ◌+◌, ◌*◌, ◌^◌, ◌≤◌}
use native.Mathlib.Nat.{mul-one, mul_right_comm, eq_of_mul-eq-mul_right, mul-le-mul_right}
use native.Mathlib.Omega.{arith}
use lib.Dec.{eqb}
use borrow.Author.Tests.{eqb-true}
use lib.IntN.{ℤ, pos, negsuc, nat_abs}
use lib.Ieee.{Float, nan, inf, fin, binary64, up, down, lt, le, eq, round, of_int, is_nan}
use lib.Ieee.Fits.{down_pos}
use lib.Ieee.Exact.{HasValue}
use lib.Ieee.Back.{round_whole}
use Rattle.lists.proofs.JoinedTests.{and_first, and_second}
use Rattle.arithmetic.proofs.Order.{le_of_not_lt}
use Rattle.arithmetic.proofs.SignedOrder.{plus, less, below_not}
use Rattle.arithmetic.proofs.WholeValues.{Is, signed}
use Rattle.arithmetic.proofs.Exactness.{of_int_is, of_int_below}
use Rattle.wide_integers.proofs.Integers.{pp, np, no_factor}

-- x is the whole number z
abbrev pub Stands : Float → ℤ → Type 0
Stands x z = Is x (pp z) (np z)

-- ---- a float that equals a whole number's stands for it
either : (p q : Bool) → (p || q) ≡ true → (p ≡ true) ⊎ (q ≡ true)
either true q h = inl refl
either false q h = inr h

alike : (s t : Bool) → beq s t ≡ true → s ≡ t
alike true true h = refl
alike false false h = refl
alike true false h = absurd (false≢true h)
alike false true h = absurd (false≢true h)

zero_of : (s : Bool) (m : ℕ) (e : ℤ) (t : Bool) (n : ℕ) → m * up e ≡ 0 → n ≡ 0 → Is (fin s m e) (plus t n) (less t n)
zero_of false m e false n h k = omega (arith, h, ap (λ (z : ℕ). z * down e) k)
zero_of false m e true n h k = omega (arith, h, ap (λ (z : ℕ). z * down e) k)
zero_of true m e false n h k = omega (arith, h, ap (λ (z : ℕ). z * down e) k)
zero_of true m e true n h k = omega (arith, h, ap (λ (z : ℕ). z * down e) k)

pub eq_is : (x y : Float) (t : Bool) (n : ℕ) → HasValue y t n 1 → eq x y ≡ true → Is x (plus t n) (less t n)
unfolding eq
eq_is nan y t n v h = absurd (false≢true h)
eq_is (inf s) nan t n v h = absurd v
eq_is (inf s) (inf r) t n v h = absurd v
eq_is (inf s) (fin r i d) t n v h = absurd (false≢true h)
eq_is (fin s m e) nan t n v h = absurd v
eq_is (fin s m e) (inf r) t n v h = absurd v
eq_is (fin s m e) (fin r i d) t n v h =
    let same = eqb (m * up e * down d) (i * up d * down e) in
    let sides = beq s r || eqb (m * up e * down d) 0 in
    let a : m * up e * down d ≡ i * up d * down e = eqb-true (m * up e * down d) (i * up d * down e) (and_first same sides h) in
    let b : m * up e ≡ n * down e =
    eq_of_mul-eq-mul_right (down d) (down_pos d) (m * up e) (n * down e)
    (a ∙ ap (λ (z : ℕ). z * down e) (sym (mul-one (i * up d)) ∙ v.1) ∙ mul_right_comm n (down d) (down e)) in
    elim (either (beq s r) (eqb (m * up e * down d) 0) (and_second same sides h)) [
      | inl k ↦ signed (fin s m e) t n (alike s r k ∙ v.0, mul-one (m * up e) ∙ b)
      | inr k ↦
          let c : m * up e ≡ 0 = no_factor (m * up e) (down d) (down_pos d) (eqb-true (m * up e * down d) 0 k) in
          zero_of s m e t n c (no_factor n (down e) (down_pos e) (sym b ∙ c))
    ]

pub stands : (x : Float) (z : ℤ) → nat_abs z ≤ 2 ^ 53 → eq x (of_int binary64 z) ≡ true → Stands x z
stands x (pos n) l h =
    eq_is x (round binary64 false n 1) false n (round_whole binary64 false n l) (ap (eq x) (sym (of_int_is binary64 n)) ∙ h)
stands x (negsuc n) l h =
    eq_is x (round binary64 true (suc n) 1) true (suc n) (round_whole binary64 true (suc n) l)
    (ap (eq x) (sym (of_int_below binary64 n)) ∙ h)

-- ---- finite, and in order
pub is_number : (x : Float) (p n : ℕ) → Is x p n → is_nan x ≡ false
unfolding is_nan
is_number nan p n v = absurd v
is_number (inf s) p n v = absurd v
is_number (fin s m e) p n v = refl

order : (x⁺ x⁻ y⁺ y⁻ p n q k d e : ℕ) → x⁺ + n * d ≡ p * d + x⁻ → y⁺ + k * e ≡ q * e + y⁻ → p + k ≤ q + n
    → x⁺ * e + y⁻ * d ≤ y⁺ * d + x⁻ * e
order x⁺ x⁻ y⁺ y⁻ p n q k d e h g l =
    let h' : (x⁺ + n * d) * e ≡ (p * d + x⁻) * e = ap (λ (z : ℕ). z * e) h in
    let g' : (y⁺ + k * e) * d ≡ (q * e + y⁻) * d = ap (λ (z : ℕ). z * d) g in
    let l' : (p + k) * (d * e) ≤ (q + n) * (d * e) = mul-le-mul_right (d * e) l in
    omega (arith, h', g', l')

not_above : (x y : Float) (p n q k : ℕ) → Is x p n → Is y q k → p + k ≤ q + n → lt y x ≡ false
unfolding lt
not_above nan y p n q k v w l = absurd v
not_above (inf s) y p n q k v w l = absurd v
not_above (fin s m e) nan p n q k v w l = absurd w
not_above (fin s m e) (inf t) p n q k v w l = absurd w
not_above (fin s m e) (fin t i d) p n q k v w l =
    below_not t (i * up d) (down d) s (m * up e) (down e)
    (order (plus s (m * up e)) (less s (m * up e)) (plus t (i * up d)) (less t (i * up d)) p n q k (down e) (down d) v w l)

pub is_le : (x y : Float) (p n q k : ℕ) → Is x p n → Is y q k → p + k ≤ q + n → le x y ≡ true
is_le x y p n q k v w l = le_of_not_lt x y (is_number x p n v) (is_number y q k w) (not_above x y p n q k v w l)
