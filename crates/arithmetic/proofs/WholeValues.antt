-- Floats that are whole numbers, by value, so that -0 counts as 0: their sums and products are exact up to 2^53. Assumes nothing.
use Rattle.std.proofs.Common.{◌≡◌, ℕ, ◌+◌, ◌-◌, ◌*◌, ◌^◌, ◌<◌, ◌≤◌, Bool, true, false, cond, eqb, ltb, pos, sym, refl, ap, ◌∙◌, subst}
use Rattle.std.proofs.Common.{true≢false, zero-lt-suc, add-mul, mul-pos, zero-mul, mul-one, le_of_mul-le-mul_right, arith, ltb-false}
use Rattle.std.proofs.Common.{ltb-true, eqb-true}
use mathlib.Core.Bool.{false≢true}
use lib.Ieee.{Float, nan, inf, fin, binary64, up, down, round, sum, add, sub, mul, neg, eq, of_bits, unlike}
use lib.Ieee.Fits.{down_pos}
use lib.Ieee.Exact.{HasValue}
use lib.Ieee.Back.{round_whole}
use lib.Ieee.Scale.{round_same}
use Rattle.lists.proofs.JoinedTests.{and_first}
use Rattle.arithmetic.proofs.RootCases.{zero_pattern}
use Rattle.arithmetic.proofs.SignedOrder.{plus, less, plus_times, less_times}

-- ---- the relation
-- x is the number p - n
abbrev pub Is : Float → ℕ → ℕ → Type 0
Is nan p n = ⊥
Is (inf s) p n = ⊥
Is (fin s m e) p n = plus s (m * up e) + n * down e ≡ p * down e + less s (m * up e)

-- a signed value that is exact
pub signed : (x : Float) (s : Bool) (n : ℕ) → HasValue x s n 1 → Is x (plus s n) (less s n)
signed nan s n v = v
signed (inf t) s n v = v
signed (fin false m e) false n v = omega (arith, v.1)
signed (fin false m e) true n v = absurd (false≢true v.0)
signed (fin true m e) false n v = absurd (true≢false v.0)
signed (fin true m e) true n v = omega (arith, v.1)

-- the same number, by another difference
pub same : (x : Float) (p n q k : ℕ) → p + k ≡ q + n → Is x p n → Is x q k
same nan p n q k h v = v
same (inf t) p n q k h v = v
same (fin s m e) p n q k h v =
    let d : (p + k) * down e ≡ (q + n) * down e = ap (λ (z : ℕ). z * down e) h in
    omega (arith, d, v)

-- ---- rounding a fraction that is a whole number
pub exact_size : (s : Bool) (a c n : ℕ) → 0 < c → a ≡ n * c → n ≤ 2 ^ 53 → HasValue (round binary64 s a c) s n 1
exact_size s a c n C h l =
    subst (λ (x : Float). HasValue x s n 1) (sym (round_same binary64 s a c n 1 C (zero-lt-suc 0) (mul-one a ∙ h)))
    (round_whole binary64 s n l)

pub rounded : (s : Bool) (a c p n : ℕ) → 0 < c → plus s a + n * c ≡ p * c + less s a → p ≤ n + 2 ^ 53 → n ≤ p + 2 ^ 53
    → Is (round binary64 s a c) p n
rounded false a c p n C h g l =
    let w : n ≤ p = le_of_mul-le-mul_right (omega (arith, h)) C in
    let e : n * c + (p - n) * c ≡ p * c = sym (add-mul n (p - n) c) ∙ ap (λ (z : ℕ). z * c) (omega (arith, w)) in
    same (round binary64 false a c) (p - n) 0 p n (omega (arith, w))
    (signed (round binary64 false a c) false (p - n) (exact_size false a c (p - n) C (omega (arith, e, h)) (omega arith)))
rounded true a c p n C h g l =
    let w : p ≤ n = le_of_mul-le-mul_right (omega (arith, h)) C in
    let e : p * c + (n - p) * c ≡ n * c = sym (add-mul p (n - p) c) ∙ ap (λ (z : ℕ). z * c) (omega (arith, w)) in
    same (round binary64 true a c) 0 (n - p) p n (omega (arith, w))
    (signed (round binary64 true a c) true (n - p) (exact_size true a c (n - p) C (omega (arith, e, h)) (omega arith)))

-- ---- sums
sum_is : (s : Bool) (a : ℕ) (t : Bool) (b c p n : ℕ) → 0 < c → plus s a + plus t b + n * c ≡ p * c + less s a + less t b → p ≤ n + 2 ^ 53
    → n ≤ p + 2 ^ 53 → Is (sum binary64 s a t b c) p n
unfolding sum
sum_is false a false b c p n C h g l = rounded false (a + b) c p n C (omega (arith, h)) g l
sum_is true a true b c p n C h g l = rounded true (a + b) c p n C (omega (arith, h)) g l
sum_is false a true b c p n C h g l = go (ltb a b) (ltb-true a b) (ltb-false a b)
  where
    go : (k : Bool) → (k ≡ true → a < b) → (k ≡ false → b ≤ a)
        → Is (cond k (round binary64 true (b - a) c) (round binary64 false (a - b) c)) p n
    go true f r = let w = f refl in rounded true (b - a) c p n C (omega (arith, h, w)) g l
    go false f r = let w = r refl in rounded false (a - b) c p n C (omega (arith, h, w)) g l
sum_is true a false b c p n C h g l = go (ltb a b) (ltb b a) (ltb-true a b) (ltb-false a b) (ltb-true b a) (ltb-false b a)
  where
    go : (k j : Bool) → (k ≡ true → a < b) → (k ≡ false → b ≤ a) → (j ≡ true → b < a) → (j ≡ false → a ≤ b)
        → Is (cond k (round binary64 false (b - a) c) (round binary64 j (a - b) c)) p n
    go true j f r u v = let w = f refl in rounded false (b - a) c p n C (omega (arith, h, w)) g l
    go false true f r u v = let w = r refl in rounded true (a - b) c p n C (omega (arith, h, w)) g l
    go false false f r u v = let w = r refl in let w' = v refl in rounded false (a - b) c p n C (omega (arith, h, w, w')) g l

join : (x⁺ x⁻ y⁺ y⁻ p n q k d e : ℕ) → x⁺ + n * d ≡ p * d + x⁻ → y⁺ + k * e ≡ q * e + y⁻
    → x⁺ * e + y⁺ * d + (n + k) * (d * e) ≡ (p + q) * (d * e) + x⁻ * e + y⁻ * d
join x⁺ x⁻ y⁺ y⁻ p n q k d e h g =
    let h' : (x⁺ + n * d) * e ≡ (p * d + x⁻) * e = ap (λ (z : ℕ). z * e) h in
    let g' : (y⁺ + k * e) * d ≡ (q * e + y⁻) * d = ap (λ (z : ℕ). z * d) g in
    omega (arith, h', g')

pub add_is : (x y : Float) (p n q k : ℕ) → Is x p n → Is y q k → p + q ≤ n + k + 2 ^ 53 → n + k ≤ p + q + 2 ^ 53
    → Is (add binary64 x y) (p + q) (n + k)
unfolding add
add_is nan y p n q k v w g l = absurd v
add_is (inf s) y p n q k v w g l = absurd v
add_is (fin s m e) nan p n q k v w g l = absurd w
add_is (fin s m e) (inf t) p n q k v w g l = absurd w
add_is (fin s m e) (fin t i d) p n q k v w g l =
    sum_is s (m * up e * down d) t (i * up d * down e) (down e * down d) (p + q) (n + k) (mul-pos (down_pos e) (down_pos d))
    (rw (
      plus_times s (m * up e) (down d),
      less_times s (m * up e) (down d),
      plus_times t (i * up d) (down e),
      less_times t (i * up d)
          (down e),
    ) (join (plus s (m * up e)) (less s (m * up e)) (plus t (i * up d)) (less t (i * up d)) p n q k (down e) (down d) v w)) g l

pub neg_is : (x : Float) (p n : ℕ) → Is x p n → Is (neg x) n p
unfolding neg
neg_is nan p n v = v
neg_is (inf s) p n v = v
neg_is (fin false m e) p n v = omega (arith, v)
neg_is (fin true m e) p n v = omega (arith, v)

sub_as_add : (x y : Float) → sub binary64 x y ≡ add binary64 x (neg y)
unfolding sub
sub_as_add x y = refl

pub sub_is : (x y : Float) (p n q k : ℕ) → Is x p n → Is y q k → p + k ≤ n + q + 2 ^ 53 → n + q ≤ p + k + 2 ^ 53
    → Is (sub binary64 x y) (p + k) (n + q)
sub_is x y p n q k v w g l =
    subst (λ (z : Float). Is z (p + k) (n + q)) (sym (sub_as_add x y)) (add_is x (neg y) p n k q v (neg_is y q k w) g l)

-- ---- products
unlike_plus : (s t : Bool) (a b : ℕ) → plus (unlike s t) (a * b) ≡ plus s a * plus t b + less s a * less t b
unlike_plus false false a b = omega arith
unlike_plus false true a b = omega arith
unlike_plus true false a b = omega arith
unlike_plus true true a b = omega arith

unlike_less : (s t : Bool) (a b : ℕ) → less (unlike s t) (a * b) ≡ plus s a * less t b + less s a * plus t b
unlike_less false false a b = omega arith
unlike_less false true a b = omega arith
unlike_less true false a b = omega arith
unlike_less true true a b = omega arith

times : (x⁺ x⁻ y⁺ y⁻ p n q k d e : ℕ) → x⁺ + n * d ≡ p * d + x⁻ → y⁺ + k * e ≡ q * e + y⁻
    → x⁺ * y⁺ + x⁻ * y⁻ + (p * k + n * q) * (d * e) ≡ (p * q + n * k) * (d * e) + (x⁺ * y⁻ + x⁻ * y⁺)
times x⁺ x⁻ y⁺ y⁻ p n q k d e h g =
    let h⁺ : (x⁺ + n * d) * y⁺ ≡ (p * d + x⁻) * y⁺ = ap (λ (z : ℕ). z * y⁺) h in
    let h⁻ : (x⁺ + n * d) * y⁻ ≡ (p * d + x⁻) * y⁻ = ap (λ (z : ℕ). z * y⁻) h in
    let g⁺ : (y⁺ + k * e) * (p * d) ≡ (q * e + y⁻) * (p * d) = ap (λ (z : ℕ). z * (p * d)) g in
    let g⁻ : (y⁺ + k * e) * (n * d) ≡ (q * e + y⁻) * (n * d) = ap (λ (z : ℕ). z * (n * d)) g in
    omega (arith, h⁺, h⁻, g⁺, g⁻)

pub mul_is : (x y : Float) (p n q k : ℕ) → Is x p n → Is y q k → p * q + n * k ≤ p * k + n * q + 2 ^ 53
    → p * k + n * q ≤ p * q + n * k + 2 ^ 53 → Is (mul binary64 x y) (p * q + n * k) (p * k + n * q)
unfolding mul
mul_is nan y p n q k v w g l = absurd v
mul_is (inf s) y p n q k v w g l = absurd v
mul_is (fin s m e) nan p n q k v w g l = absurd w
mul_is (fin s m e) (inf t) p n q k v w g l = absurd w
mul_is (fin s m e) (fin t i d) p n q k v w g l =
    rounded (unlike s t) (m * up e * (i * up d)) (down e * down d) (p * q + n * k) (p * k + n * q) (mul-pos (down_pos e) (down_pos d))
    (simp (unlike_plus, unlike_less)
    (times (plus s (m * up e)) (less s (m * up e)) (plus t (i * up d)) (less t (i * up d)) p n q k (down e) (down d) v w)) g l

-- ---- a zero of either sign is 0
both_parts : (s : Bool) (a c : ℕ) → a ≡ 0 → plus s a + c ≡ c + less s a
both_parts false a c p = omega arith
both_parts true a c p = omega arith

zero_at_lem : (x : Float) → eq x (fin false 0 (pos 0)) ≡ true → Is x 0 0
unfolding eq
zero_at_lem nan h = absurd (false≢true h)
zero_at_lem (inf s) h = absurd (false≢true h)
zero_at_lem (fin s m e) h =
    let z = eqb-true (m * up e * 1) (0 * down e) (and_first (eqb (m * up e * 1) (0 * down e)) _ h) in
    both_parts s (m * up e) (0 * down e) (sym (mul-one (m * up e)) ∙ z ∙ zero-mul (down e))

pub zero_is : (x : Float) → eq x (of_bits binary64 0) ≡ true → Is x 0 0
zero_is x h = zero_at_lem x (ap (eq x) (sym zero_pattern) ∙ h)

pub zero_value : (x : Float) → Is x 0 0 → (s : Bool) × HasValue x s 0 1
zero_value nan v = absurd v
zero_value (inf s) v = absurd v
zero_value (fin false m e) v = (false, (refl, omega (arith, v)))
zero_value (fin true m e) v = (true, (refl, omega (arith, v)))
