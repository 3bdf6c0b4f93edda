-- A guess with the digits of the root of a float from 1 to 4, times the power of two that is left out there, is the root: a product with a
-- power of two is exact. Assumes nothing.
use Rattle.std.proofs.Common.{◌≡◌, ℕ, ◌+◌, ◌-◌, ◌*◌, ◌%◌, ◌^◌, ◌<◌, ◌≤◌, false, T, sym, refl, ap, ◌∙◌, subst, lt_of_lt_of_le, mul_assoc}
use Rattle.std.proofs.Common.{mul_comm, mul-pos, arith, lit≤, pow_pos}
use lib.Ieee.{Float, binary64, odd, units, round, mul, fits, of_bits}
use lib.Ieee.Fits.{odd-fits, round-fits}
use lib.Ieee.Exact.{HasValue, odd_sign, round_exact}
use lib.Ieee.Scale.{round_same}
use lib.Ieee.Positive.{positive_of_value, mul_at}
use Rattle.arithmetic.specs.Root.{root_of, RootGuessed}
use Rattle.arithmetic.proofs.OwnRounding.{same_float}
use Rattle.arithmetic.proofs.RootPatterns.{normal_value}
use Rattle.arithmetic.proofs.RootScaled.{root_of_scaled, root_digits_lem, under_top, units_odd}

abbrev pub power : ℕ → Float
power k = of_bits binary64 ((k + 1) * 2 ^ 52)

power_value : (k : ℕ) → k ≤ 1533 → HasValue (power k) false (2 ^ 52 * 2 ^ k) (2 ^ 1074)
power_value k h =
    let e : 2 ^ 52 + (k + 1) * 2 ^ 52 % 2 ^ 52 ≡ 2 ^ 52 = omega arith in
    subst (λ (n : ℕ). HasValue (power k) false (n * 2 ^ k) (2 ^ 1074)) e (normal_value ((k + 1) * 2 ^ 52) k (omega arith) (omega arith))

-- r * 2 ^ k units of 2 ^ -1074 are a float
units_exact : (r k : ℕ) → r < 2 ^ 53 → k ≤ 1533 → round binary64 false (r * 2 ^ k) (2 ^ 1074) ≡ units binary64 false r k
units_exact r k h l =
    let top = under_top r k h l in
    let f : T (fits binary64 (odd 54 false r k 1074)) = odd-fits binary64 54 false r k (lt_of_lt_of_le h (lit≤ tt)) (below h) top in
    same_float (round binary64 false (r * 2 ^ k) (2 ^ 1074)) (odd 54 false r k 1074) false (r * 2 ^ k) (2 ^ 1074) (pow_pos 1074)
    (round-fits binary64 false (r * 2 ^ k) (2 ^ 1074)) f
    (round_exact binary64 false (r * 2 ^ k) (2 ^ 1074) r k (pow_pos 1074) h top refl) (odd_sign 54 false r k 1074)
    ∙ sym (units_odd r k top)
  where
    below : r < 2 ^ 53 → r ≤ 2 ^ 53
    below h = omega arith

same_fraction : (r p t u : ℕ) → r * (p * t) * u ≡ r * t * (p * u)
same_fraction r p t u = ap (λ (z : ℕ). z * u) (ap (λ (z : ℕ). r * z) (mul_comm p t) ∙ sym (mul_assoc r t p)) ∙ mul_assoc (r * t) p u

product_units : (g : Float) (r k : ℕ) → HasValue g false r (2 ^ 52) → 2 ^ 52 ≤ r → r < 2 ^ 53 → k ≤ 1533
    → mul binary64 g (power k) ≡ units binary64 false r k
product_units g r k v lo hi l =
    let w = power_value k l in
    let some : 0 < 2 ^ 52 * 2 ^ k = mul-pos (pow_pos 52) (pow_pos k) in
    mul_at binary64 g (power k) r (2 ^ 52) (2 ^ 52 * 2 ^ k) (2 ^ 1074) (positive_of_value g r (2 ^ 52) v (omega arith))
    (positive_of_value (power k) (2 ^ 52 * 2 ^ k) (2 ^ 1074) w some) (pow_pos 52) (pow_pos 1074) v w
    ∙ round_same binary64 false (r * (2 ^ 52 * 2 ^ k)) (2 ^ 52 * 2 ^ 1074) (r * 2 ^ k) (2 ^ 1074) (mul-pos (pow_pos 52) (pow_pos 1074))
    (pow_pos 1074) (same_fraction r (2 ^ 52) (2 ^ k) (2 ^ 1074))
    ∙ units_exact r k hi l

pub product_is_root : (m k : ℕ) (g x : Float) → 2 ^ 52 ≤ m → m ≤ 2 ^ 54 - 2 → k ≤ 1533 → RootGuessed m g
    → HasValue x false (m * 2 ^ 52 * (2 ^ k * 2 ^ k)) (2 ^ 2148) → mul binary64 g (power k) ≡ root_of x
product_is_root m k g x lo hi l p v =
    let n = p.nearest_root in
    let d = root_digits_lem (m * 2 ^ 52) p.digits (omega arith) (omega arith) n in
    product_units g p.digits k p.value d.0 d.1 l
    ∙ sym (root_of_scaled x (m * 2 ^ 52) k p.digits v (omega arith) (omega arith) n)
