-- What `scaled` computes, in units of 2^-1074: its products are the one rounded power of two. What comes of it is below 2. Assumes nothing.
use Rattle.std.proofs.Common.{◌≡◌, ℕ, zero, suc, ◌+◌, ◌-◌, ◌*◌, ◌/◌, ◌%◌, ◌^◌, ◌<◌, ◌≤◌, Bool, true, false, not, T, ltb, pos, sym, refl, ap}
use Rattle.std.proofs.Common.{◌∙◌, subst, true≢false, le_trans, le_of_eq, lt_of_lt_of_le, le_of_suc-le-suc, lt_of_le_of_lt, le_of_lt}
use Rattle.std.proofs.Common.{mul-le-mul_right, mul_assoc, mul_comm, le_antisymm, lt_of_mul-lt-mul_right, mul-lt-mul_of_pos_right, mul-pos}
use Rattle.std.proofs.Common.{lt_of_not-le, zero-mul, mul-one, mul_right_comm, not-le_of_lt, le_of_mul-le-mul_right, mul-div_cancel}
use Rattle.std.proofs.Common.{mul_left_comm, arith, lit<, lit≤, pow_pos, pow_mono, pow-add, ltb-false, ltb-true, le-ltb, lt-ltb}
use mathlib.Core.Bool.{false≢true}
use native.Mathlib.Nat.{pow-succ'}
use lib.Ieee.{Float, nan, inf, fin, binary64, of_bits, to_bits, up, down, size, below, round, mul, lt, le, eq, fits, nan_bits}
use lib.Ieee.Digits.{size-lt, size_reaches, size-le}
use lib.Ieee.Fits.{down_pos}
use lib.Ieee.Bits.{of_bits-to_bits, nan_bits_is, is_true}
use lib.Ieee.Exact.{HasValue, round_exact}
use lib.Ieee.Scale.{round_same}
use lib.Ieee.Order.{round_mono}
use borrow.Author.Tests.{not-true}
use Rattle.arithmetic.specs.Basic.{is_finite, absolute}
use Rattle.arithmetic.specs.Scaling.{unit, digits_of, scaled_by}
use Rattle.arithmetic.proofs.Bounds.{Within, rounded_within}
use Rattle.arithmetic.proofs.Exactness.{fits_parts, shift, scaled_exact}
use Rattle.arithmetic.proofs.RootCases.{highest_infinite, zero_pattern, zero_equal, positive_above}
use Rattle.arithmetic.proofs.RootPatterns.{subnormal_value, normal_value}
use Rattle.arithmetic.proofs.RoundedSigns.{absolute_round}
use Rattle.arithmetic.proofs.Order.{lt_of_le_lt}
use Rattle.arithmetic.proofs.ValueOrder.{value_by_lem, value_number, value_finite, absolute_value, lt_values, le_values, mul_values}
use Rattle.arithmetic.proofs.ValueOrder.{unlike_false}

-- ---- the unit
pub unit_pos : 0 < unit
unfolding unit
unit_pos = pow_pos 1074

unit_is : unit ≡ 2 ^ 1074
unfolding unit
unit_is = refl

-- ---- a number of digits is told by two powers
above_size : (n j : ℕ) → 2 ^ j ≤ n → suc j ≤ size n
above_size n j h = lt_of_not-le (λ (g : size n ≤ j). not-le_of_lt (lt_of_lt_of_le (size-lt n) (pow_mono g)) h)

pub size_between : (n j : ℕ) → 2 ^ j ≤ n → n < 2 ^ suc j → size n ≡ suc j
size_between n j h k = le_antisymm (size-le n (suc j) k) (above_size n j h)

some_digits : (n : ℕ) → 0 < n → 0 < size n
some_digits n h = above_size n 0 h

-- with d digits, from 2^(d-1)
pub size_reached : (n : ℕ) → 0 < n → 2 ^ size n ≤ 2 * n
size_reached n h = go (size n) (some_digits n h) refl
  where
    go : (d : ℕ) → 0 < d → size n ≡ d → 2 ^ d ≤ 2 * n
    go zero p e = absurd (omega arith)
    go (suc d) p e =
        let r : 2 ^ d ≤ n = size_reaches n d (omega (arith, e)) in
        let s : 2 ^ suc d ≡ 2 * 2 ^ d = pow-succ' 2 d in
        omega arith

pub size_shifted : (n t : ℕ) → 0 < n → size (n * 2 ^ t) ≡ size n + t
size_shifted n t h = go (size n) (some_digits n h) refl
  where
    go : (d : ℕ) → 0 < d → size n ≡ d → size (n * 2 ^ t) ≡ d + t
    go zero p e = absurd (omega arith)
    go (suc d) p e =
        let r : 2 ^ d ≤ n = size_reaches n d (omega (arith, e)) in
        let l : n < 2 ^ suc d = subst (λ (z : ℕ). n < 2 ^ z) e (size-lt n) in
        let f : suc d + t ≡ suc (d + t) = omega arith in
        size_between (n * 2 ^ t) (d + t) (le_trans (le_of_eq (pow-add 2 d t)) (mul-le-mul_right (2 ^ t) r))
        (lt_of_lt_of_le (mul-lt-mul_of_pos_right l (pow_pos t)) (le_of_eq (sym (pow-add 2 (suc d) t) ∙ ap (λ (z : ℕ). 2 ^ z) f)))
        ∙ sym f

-- ---- a float that fits is a whole number of units, of at most 53 digits before its zeros
pub record InUnits (x : Float) : Type 0 where
  pub sign : Bool
  pub digits : ℕ
  pub zeros : ℕ
  pub few : digits < 2 ^ 53
  pub value : HasValue x sign (digits * 2 ^ zeros) unit

pub in_units_lem : (x : Float) → T (fits binary64 x) → is_finite x ≡ true → InUnits x
unfolding is_finite unit
in_units_lem nan f h = absurd (false≢true h)
in_units_lem (inf s) f h = absurd (false≢true h)
in_units_lem (fin s m e) f h =
    let p = fits_parts binary64 s m e f in
    let j = shift binary64 e p.1.0 in
    record {
      sign = s;
      digits = m;
      zeros = j.0;
      few = p.0;
      value = (refl, mul_assoc m (up e) (2 ^ 1074) ∙ ap (λ (z : ℕ). m * z) j.1 ∙ sym (mul_assoc m (2 ^ j.0) (down e)));
    }

pub digits_by_value : (x : Float) (s : Bool) (n : ℕ) → HasValue x s n unit → digits_of x ≡ size n
unfolding digits_of
digits_by_value nan s n v = absurd v
digits_by_value (inf t) s n v = absurd v
digits_by_value (fin t m e) s n v = ap (λ (z : ℕ). size (z / down e)) v.1 ∙ ap size (mul-div_cancel n (down_pos e))

-- what the definition rounds: 2n / 2^d
pub scaled_by_value : (d : ℕ) (x : Float) (s : Bool) (n : ℕ) → HasValue x s n unit → scaled_by d x ≡ round binary64 s (2 * n) (2 ^ d)
unfolding scaled_by
scaled_by_value d nan s n v = absurd v
scaled_by_value d (inf t) s n v = absurd v
scaled_by_value d (fin t m e) s n v =
    ap (λ (z : Bool). round binary64 z (m * up e * (2 * unit)) (down e * 2 ^ d)) v.0
    ∙ round_same binary64 s (m * up e * (2 * unit)) (down e * 2 ^ d) (2 * n) (2 ^ d) (mul-pos (down_pos e) (pow_pos d)) (pow_pos d)
    (ap (λ (z : ℕ). z * 2 ^ d) (mul_left_comm (m * up e) 2 unit ∙ ap (λ (z : ℕ). 2 * z) v.1 ∙ sym (mul_assoc 2 n (down e)))
    ∙ mul_assoc (2 * n) (down e) (2 ^ d))

-- one product
pub product_is_scaled : (d : ℕ) (x y : Float) (s : Bool) (n : ℕ) → HasValue x s n unit → HasValue y false (2 * unit) (2 ^ d)
    → mul binary64 x y ≡ scaled_by d x
product_is_scaled d x y s n v w =
    mul_values x y s false n unit (2 * unit) (2 ^ d) unit_pos (pow_pos d) v w
    ∙ ap (λ (z : Bool). round binary64 z (n * (2 * unit)) (unit * 2 ^ d)) (unlike_false s)
    ∙ round_same binary64 s (n * (2 * unit)) (unit * 2 ^ d) (2 * n) (2 ^ d) (mul-pos unit_pos (pow_pos d)) (pow_pos d)
    (simp (mul_assoc, mul_comm, mul_left_comm))
    ∙ sym (scaled_by_value d x s n v)

-- ---- lifted by 2^537, below 1
abbrev pub lift : Float
lift = of_bits binary64 0x6180_0000_0000_0000

lift_value : HasValue lift false (2 ^ 537) 1
unfolding of_bits
lift_value = (refl, refl)

lift_room : (a c : ℕ) → a < c → a * 2 ^ 537 < 2 ^ 1024 * c
lift_room a c h =
    lt_of_lt_of_le (mul-lt-mul_of_pos_right h (pow_pos 537))
    (le_trans (le_of_eq (mul_comm c (2 ^ 537))) (mul-le-mul_right c (lit≤ {m = 2 ^ 537} {n = 2 ^ 1024} tt)))

pub lifted_value : (x : Float) (s : Bool) (n : ℕ) → T (fits binary64 x) → HasValue x s n unit → n < unit
    → HasValue (mul binary64 x lift) s (n * 2 ^ 537) unit
lifted_value nan s n f v l = absurd v
lifted_value (inf t) s n f v l = absurd v
lifted_value (fin t m e) s n f v l =
    let u = unit_pos in
    let under : m * up e < down e =
    lt_of_mul-lt-mul_right unit
    (lt_of_le_of_lt (le_of_eq v.1) (lt_of_lt_of_le (mul-lt-mul_of_pos_right l (down_pos e)) (le_of_eq (mul_comm unit (down e))))) in
    let own : HasValue (fin t m e) t (m * up e) (down e) = (refl, refl) in
    let product : mul binary64 (fin t m e) lift ≡ round binary64 t (m * up e * 2 ^ 537) (down e) =
    mul_values (fin t m e) lift t false (m * up e) (down e) (2 ^ 537) 1 (down_pos e) (lit< tt) own lift_value
    ∙ ap (λ (z : Bool). round binary64 z (m * up e * 2 ^ 537) (down e * 1)) (unlike_false t)
    ∙ ap (λ (z : ℕ). round binary64 t (m * up e * 2 ^ 537) z) (mul-one (down e)) in
    subst (λ (z : Bool). HasValue (mul binary64 (fin t m e) lift) z (n * 2 ^ 537) unit) v.0
    (value_by_lem (mul binary64 (fin t m e) lift) t (m * up e * 2 ^ 537) (down e) (n * 2 ^ 537) unit (down_pos e)
    (mul_right_comm n (2 ^ 537) (down e) ∙ ap (λ (z : ℕ). z * 2 ^ 537) (sym v.1) ∙ mul_right_comm (m * up e) unit (2 ^ 537))
    (subst (λ (z : Float). HasValue z t (m * up e * 2 ^ 537) (down e)) (sym product)
    (scaled_exact binary64 t m e 537 f (lift_room (m * up e) (down e) under))))

-- two products, with 537 more digits
pub products_are_scaled : (d : ℕ) (x y : Float) (s : Bool) (n : ℕ) → T (fits binary64 x) → HasValue x s n unit → n < unit
    → HasValue y false (2 * unit) (2 ^ (d + 537))
    → mul binary64 (mul binary64 x lift) y ≡ scaled_by d x
products_are_scaled d x y s n f v l w =
    let raised = lifted_value x s n f v l in
    product_is_scaled (d + 537) (mul binary64 x lift) y s (n * 2 ^ 537) raised w
    ∙ scaled_by_value (d + 537) (mul binary64 x lift) s (n * 2 ^ 537) raised
    ∙ round_same binary64 s (2 * (n * 2 ^ 537)) (2 ^ (d + 537)) (2 * n) (2 ^ d) (pow_pos (d + 537)) (pow_pos d)
    (ap (λ (z : ℕ). z * 2 ^ d) (sym (mul_assoc 2 n (2 ^ 537)))
    ∙ mul_assoc (2 * n) (2 ^ 537) (2 ^ d)
    ∙ ap (λ (z : ℕ). 2 * n * z) (mul_comm (2 ^ 537) (2 ^ d) ∙ sym (pow-add 2 d 537)))
    ∙ sym (scaled_by_value d x s n v)

-- ---- the power, from the pattern of a normal number
pub record Normal (x : Float) : Type 0 where
  pub above : ℕ
  pub field : to_bits binary64 x / 2 ^ 52 ≡ suc above
  pub finite : suc above < 2047
  pub count : digits_of x ≡ 53 + above

normal_digits : (t k : ℕ) → t < 2 ^ 52 → size ((2 ^ 52 + t) * 2 ^ k) ≡ 53 + k
normal_digits t k h =
    size_shifted (2 ^ 52 + t) k (omega arith)
    ∙ ap (λ (z : ℕ). z + k) (size_between (2 ^ 52 + t) 52 (omega arith) (omega arith))

-- below 2^52 a pattern has at most 52 digits
no_subnormal : (x : Float) → T (fits binary64 x) → 53 ≤ digits_of x → to_bits binary64 x < 2 ^ 52 → ⊥
no_subnormal x f d h =
    let b = to_bits binary64 x in
    let v : HasValue x false b unit =
    subst (λ (z : Float). HasValue z false b unit) (of_bits-to_bits binary64 x f)
    (subst (λ (u : ℕ). HasValue (of_bits binary64 b) false b u) (sym unit_is) (subnormal_value b h)) in
    let e = digits_by_value x false b v in
    let l = size-le b 52 h in
    omega (arith, d, e, l)

pub is_normal : (x : Float) → T (fits binary64 x) → lt (of_bits binary64 0) x ≡ true → is_finite x ≡ true → 53 ≤ digits_of x → Normal x
is_normal x f p h d =
    let b = to_bits binary64 x in
    let low : 2 ^ 52 ≤ b = le_of_not (λ (g : b < 2 ^ 52). no_subnormal x f d g) in
    let high : b < 2047 * 2 ^ 52 =
    lt_of_not-le (λ (g : 2047 * 2 ^ 52 ≤ b). true≢false (sym h ∙ ap is_finite (highest_infinite x f p g) ∙ infinite_not)) in
    let k = b / 2 ^ 52 - 1 in
    let e : b / 2 ^ 52 ≡ suc k = omega arith in
    let l : suc k < 2047 = omega arith in
    let v : HasValue x false ((2 ^ 52 + b % 2 ^ 52) * 2 ^ k) unit =
    subst (λ (z : Float). HasValue z false ((2 ^ 52 + b % 2 ^ 52) * 2 ^ k) unit) (of_bits-to_bits binary64 x f)
    (subst (λ (u : ℕ). HasValue (of_bits binary64 b) false ((2 ^ 52 + b % 2 ^ 52) * 2 ^ k) u) (sym unit_is) (normal_value b k e l)) in
    record {
      above = k;
      field = e;
      finite = l;
      count = digits_by_value x false ((2 ^ 52 + b % 2 ^ 52) * 2 ^ k) v
          ∙ normal_digits (b % 2 ^ 52) k (omega arith);
    }
  where
    le_of_not : {a b : ℕ} → (a < b → ⊥) → b ≤ a
    le_of_not {a} {b} n = le_of_suc-le-suc (lt_of_not-le n)

    infinite_not : is_finite (inf false) ≡ false
    infinite_not = unfold is_finite in refl

powers_meet : (a k c : ℕ) → a + c ≡ 2149 → 2 * 2 ^ 1074 * 2 ^ 1074 ≡ 2 ^ a * 2 ^ c
powers_meet a k c h =
    ap (λ (z : ℕ). z * 2 ^ 1074) (sym (pow-add 2 1 1074)) ∙ sym (pow-add 2 1075 1074) ∙ ap (λ (z : ℕ). 2 ^ z) (sym h) ∙ pow-add 2 a c

pub power_value : (k b : ℕ) → suc k < 2046 → b ≡ (2046 - suc k) * 2 ^ 52 → HasValue (of_bits binary64 b) false (2 * unit) (2 ^ (53 + k))
power_value k b h e =
    let x = 2044 - k in
    let field : b / 2 ^ 52 ≡ suc x = omega arith in
    let rest : 2 ^ 52 + b % 2 ^ 52 ≡ 2 ^ 52 = omega arith in
    subst (λ (u : ℕ). HasValue (of_bits binary64 b) false (2 * u) (2 ^ (53 + k))) (sym unit_is)
    (value_by_lem (of_bits binary64 b) false (2 ^ 52 * 2 ^ x) (2 ^ 1074) (2 * 2 ^ 1074) (2 ^ (53 + k)) (pow_pos 1074)
    (powers_meet (52 + x) k (53 + k) (omega arith) ∙ ap (λ (z : ℕ). z * 2 ^ (53 + k)) (pow-add 2 52 x))
    (subst (λ (z : ℕ). HasValue (of_bits binary64 b) false (z * 2 ^ x) (2 ^ 1074)) rest (normal_value b x field (omega arith))))

pub last_power_value : (k : ℕ) → suc k ≡ 2046 → HasValue (of_bits binary64 (2 ^ 51)) false (2 * unit) (2 ^ (53 + k))
last_power_value k h =
    subst (λ (u : ℕ). HasValue (of_bits binary64 (2 ^ 51)) false (2 * u) (2 ^ (53 + k))) (sym unit_is)
    (value_by_lem (of_bits binary64 (2 ^ 51)) false (2 ^ 51) (2 ^ 1074) (2 * 2 ^ 1074) (2 ^ (53 + k)) (pow_pos 1074)
    (powers_meet 51 k (53 + k) (omega arith)) (subnormal_value (2 ^ 51) (lit< tt)))

pub power_told : (x : Float) → Normal x → to_bits binary64 x / 2 ^ 52 < 2046
    → HasValue (of_bits binary64 ((2046 - to_bits binary64 x / 2 ^ 52) * 2 ^ 52)) false (2 * unit) (2 ^ digits_of x)
power_told x n h =
    let k = n.above in
    subst (λ (d : ℕ). HasValue (of_bits binary64 ((2046 - to_bits binary64 x / 2 ^ 52) * 2 ^ 52)) false (2 * unit) (2 ^ d)) (sym n.count)
    (power_value k ((2046 - to_bits binary64 x / 2 ^ 52) * 2 ^ 52) (subst (λ (z : ℕ). z < 2046) n.field h)
    (ap (λ (z : ℕ). (2046 - z) * 2 ^ 52) n.field))

pub last_power_told : (x : Float) → Normal x → 2046 ≤ to_bits binary64 x / 2 ^ 52
    → HasValue (of_bits binary64 (2 ^ 51)) false (2 * unit) (2 ^ digits_of x)
last_power_told x n h =
    let e = n.field in
    let l = n.finite in
    subst (λ (d : ℕ). HasValue (of_bits binary64 (2 ^ 51)) false (2 * unit) (2 ^ d)) (sym n.count)
    (last_power_value n.above (omega (arith, h, e, l)))

-- what has a value is no NaN, by its pattern
pub pattern_number : (b : ℕ) (s : Bool) (a c : ℕ) → HasValue (of_bits binary64 b) s a c → T (not (nan_bits binary64 b))
pattern_number b s a c v = subst (λ (z : Bool). T (not z)) (sym (nan_bits_is binary64 b ∙ value_number (of_bits binary64 b) s a c v)) tt

-- ---- the two arguments of `scaled`
pub record Sized (x largest : Float) : Type 0 where
  pub sign : Bool
  pub count : ℕ
  pub most : ℕ
  pub value : HasValue x sign count unit
  pub largest_value : HasValue largest false most unit
  pub some : 0 < most
  pub within : count ≤ most

at_most_finite : (x y : Float) → le (absolute x) y ≡ true → is_finite y ≡ true → is_finite x ≡ true
unfolding le absolute is_finite
at_most_finite nan y h f = absurd (false≢true h)
at_most_finite (inf s) nan h f = absurd (false≢true f)
at_most_finite (inf s) (inf t) h f = absurd (false≢true f)
at_most_finite (inf s) (fin t n d) h f = absurd (false≢true h)
at_most_finite (fin s m e) y h f = refl

zero_value : HasValue (of_bits binary64 0) false 0 1
unfolding of_bits
zero_value = (refl, refl)

pub one_value : HasValue (of_bits binary64 0x3ff0_0000_0000_0000) false 1 1
unfolding of_bits
one_value = (refl, refl)

-- above 0: the sign is clear, and the units are some
pub record Positive (x : Float) (sign : Bool) (count : ℕ) : Type 0 where
  pub plain : sign ≡ false
  pub some : 0 < count

pub positive_units : (x : Float) (s : Bool) (n : ℕ) → HasValue x s n unit → lt (of_bits binary64 0) x ≡ true → Positive x s n
positive_units x s n v h = go s (sym (lt_values (of_bits binary64 0) x false s 0 1 n unit (lit< tt) unit_pos zero_value v) ∙ h)
  where
    go : (t : Bool) → below false (0 * unit) t (n * 1) ≡ true → Positive x t n
    go true e = absurd (false≢true e)
    go false e = let g = ltb-true (0 * unit) (n * 1) e in record { plain = refl; some = omega (arith, g, zero-mul unit) }

-- not larger in size: no more units
pub count_within : (x y : Float) (s : Bool) (n k : ℕ) → HasValue x s n unit → HasValue y false k unit → le (absolute x) y ≡ true → n ≤ k
count_within x y s n k v w h =
    let e : not (below false (k * unit) false (n * unit)) ≡ true =
    sym (le_values (absolute x) y false false n unit k unit unit_pos unit_pos (absolute_value x s n unit v) w) ∙ h in
    le_of_mul-le-mul_right (ltb-false (k * unit) (n * unit) (not-true (ltb (k * unit) (n * unit)) e)) unit_pos

pub sized : (x y : Float) → T (fits binary64 x) → T (fits binary64 y) → lt (of_bits binary64 0) y ≡ true → is_finite y ≡ true
    → le (absolute x) y ≡ true → Sized x y
sized x y f g p q h =
    let a = in_units_lem x f (at_most_finite x y h q) in
    let b = in_units_lem y g q in
    let above = positive_units y b.sign (b.digits * 2 ^ b.zeros) b.value p in
    let w = subst (λ (z : Bool). HasValue y z (b.digits * 2 ^ b.zeros) unit) above.plain b.value in
    record {
      sign = a.sign;
      count = a.digits * 2 ^ a.zeros;
      most = b.digits * 2 ^ b.zeros;
      value = a.value;
      largest_value = w;
      some = above.some;
      within = count_within x y a.sign (a.digits * 2 ^ a.zeros) (b.digits * 2 ^ b.zeros) a.value w h;
    }

module _ (x y : Float) (k : Sized x y) where
  -- against 1
  under_one : lt y (of_bits binary64 0x3ff0_0000_0000_0000) ≡ true → k.most < unit
  under_one h =
      let g =
      ltb-true (k.most * 1) (1 * unit)
      (sym (lt_values y (of_bits binary64 0x3ff0_0000_0000_0000) false false k.most unit 1 1 unit_pos (lit< tt)
      k.largest_value one_value) ∙ h) in
      omega (arith, g)

  from_one : lt y (of_bits binary64 0x3ff0_0000_0000_0000) ≡ false → unit ≤ k.most
  from_one h =
      let g =
      ltb-false (k.most * 1) (1 * unit)
      (sym (lt_values y (of_bits binary64 0x3ff0_0000_0000_0000) false false k.most unit 1 1 unit_pos (lit< tt)
      k.largest_value one_value) ∙ h) in
      omega (arith, g)

  -- from 1 on the largest is normal
  pub large_normal : lt y (of_bits binary64 0x3ff0_0000_0000_0000) ≡ false → 53 ≤ digits_of y
  large_normal h =
      let d = digits_by_value y false k.most k.largest_value in
      let s = above_size k.most 1074 (le_trans (le_of_eq (sym unit_is)) (from_one h)) in
      omega (arith, d, s)

  pub large_scaled : (p : Float) → HasValue p false (2 * unit) (2 ^ digits_of y) → mul binary64 x p ≡ scaled_by (digits_of y) x
  large_scaled p w = product_is_scaled (digits_of y) x p k.sign k.count k.value w

  -- below 1 it is, once lifted
  module _ (g : T (fits binary64 y)) (h : lt y (of_bits binary64 0x3ff0_0000_0000_0000) ≡ true) where
    lifted_most : HasValue (mul binary64 y lift) false (k.most * 2 ^ 537) unit
    lifted_most = lifted_value y false k.most g k.largest_value (under_one h)

    lifted_digits : digits_of (mul binary64 y lift) ≡ digits_of y + 537
    lifted_digits =
        digits_by_value (mul binary64 y lift) false (k.most * 2 ^ 537) lifted_most
        ∙ size_shifted k.most 537 k.some
        ∙ ap (λ (z : ℕ). z + 537) (sym (digits_by_value y false k.most k.largest_value))

    pub lifted_normal : 53 ≤ digits_of (mul binary64 y lift)
    lifted_normal = let e = lifted_digits in omega (arith, e)

    pub lifted_finite : is_finite (mul binary64 y lift) ≡ true
    lifted_finite = value_finite (mul binary64 y lift) false (k.most * 2 ^ 537) unit lifted_most

    pub lifted_above : lt (of_bits binary64 0) (mul binary64 y lift) ≡ true
    lifted_above =
        lt_values (of_bits binary64 0) (mul binary64 y lift) false false 0 1 (k.most * 2 ^ 537) unit
        (lit< tt) unit_pos zero_value lifted_most
        ∙ lt-ltb (0 * unit) (k.most * 2 ^ 537 * 1)
        (lt_of_le_of_lt (le_of_eq (zero-mul unit))
        (lt_of_lt_of_le (mul-pos k.some (pow_pos 537)) (le_of_eq (sym (mul-one (k.most * 2 ^ 537))))))

    pub small_scaled : (p : Float) → T (fits binary64 x) → HasValue p false (2 * unit) (2 ^ digits_of (mul binary64 y lift))
        → mul binary64 (mul binary64 x lift) p ≡ scaled_by (digits_of y) x
    small_scaled p f w =
        products_are_scaled (digits_of y) x p k.sign k.count f k.value (lt_of_le_of_lt k.within (under_one h))
        (subst (λ (z : ℕ). HasValue p false (2 * unit) (2 ^ z)) lifted_digits w)

-- ---- what comes of it
module _ (x y : Float) (k : Sized x y) where
  scaled_is : scaled_by (digits_of y) x ≡ round binary64 k.sign (2 * k.count) (2 ^ size k.most)
  scaled_is =
      scaled_by_value (digits_of y) x k.sign k.count k.value
      ∙ ap (λ (d : ℕ). round binary64 k.sign (2 * k.count) (2 ^ d)) (digits_by_value y false k.most k.largest_value)

  -- nothing is above 2 in size
  pub scaled_within : Within 1 (scaled_by (digits_of y) x)
  scaled_within =
      let d = size k.most in
      let l : k.count ≤ 2 ^ d = le_trans k.within (le_of_lt (size-lt k.most)) in
      subst (Within 1) (sym scaled_is) (rounded_within 1 k.sign (2 * k.count) (2 ^ d) (lit≤ tt) (pow_pos d) (omega (arith, l)))

-- the largest is not rounded: its digits are 53 at most
largest_exact : (m j : ℕ) → m < 2 ^ 53 → 0 < m * 2 ^ j → (s : Bool)
    → HasValue (round binary64 s (2 * (m * 2 ^ j)) (2 ^ size (m * 2 ^ j))) s (2 * (m * 2 ^ j)) (2 ^ size (m * 2 ^ j))
largest_exact m j few some s =
    let n = m * 2 ^ j in
    let d = size n in
    let under : n < 2 ^ (53 + j) = lt_of_lt_of_le (mul-lt-mul_of_pos_right few (pow_pos j)) (le_of_eq (sym (pow-add 2 53 j))) in
    let short : d ≤ 53 + j = size-le n (53 + j) under in
    let i = j + 1075 - d in
    let e : i + d ≡ 1 + (j + 1074) = omega (arith, short) in
    let whole : 2 * n * 2 ^ 1074 ≡ m * 2 ^ i * 2 ^ d =
    mul_assoc 2 (m * 2 ^ j) (2 ^ 1074)
    ∙ ap (λ (z : ℕ). 2 * z) (mul_assoc m (2 ^ j) (2 ^ 1074) ∙ ap (λ (z : ℕ). m * z) (sym (pow-add 2 j 1074)))
    ∙ mul_left_comm 2 m (2 ^ (j + 1074))
    ∙ ap (λ (z : ℕ). m * z) (sym (pow-add 2 1 (j + 1074)) ∙ ap (λ (z : ℕ). 2 ^ z) (sym e) ∙ pow-add 2 i d)
    ∙ sym (mul_assoc m (2 ^ i) (2 ^ d)) in
    let least : 2 ^ d ≤ 2 * n = size_reached n some in
    let most : n < 2 ^ d = size-lt n in
    let fine : m * 2 ^ i * 2 ^ d < 2 ^ 2098 * 2 ^ d =
    lt_of_le_of_lt (le_of_eq (sym whole))
    (lt_of_lt_of_le (mul-lt-mul_of_pos_right (double n (2 ^ d) most) (pow_pos 1074))
    (le_trans (le_of_eq (mul_right_comm 2 (2 ^ d) (2 ^ 1074))) (mul-le-mul_right (2 ^ d) (lit≤ {m = 2 * 2 ^ 1074} {n = 2 ^ 2098} tt)))) in
    round_exact binary64 s (2 * n) (2 ^ d) m i (pow_pos d) few (lt_of_mul-lt-mul_right (2 ^ d) fine) whole
  where
    double : (a b : ℕ) → a < b → 2 * a < 2 * b
    double a b h = omega arith

-- "brings its largest absolute component to at least 1 and below 2"
pub record FromOneToTwo (x : Float) : Type 0 where
  pub least : le (of_bits binary64 0x3ff0_0000_0000_0000) (absolute x) ≡ true
  pub most : lt (absolute x) (of_bits binary64 0x4000_0000_0000_0000) ≡ true

two_value : HasValue (of_bits binary64 0x4000_0000_0000_0000) false 2 1
unfolding of_bits
two_value = (refl, refl)

pub largest_from_one_to_two : (x : Float) → T (fits binary64 x) → is_finite x ≡ true → 0 < digits_of x
    → FromOneToTwo (scaled_by (digits_of x) x)
largest_from_one_to_two x f h p =
    let a = in_units_lem x f h in
    let n = a.digits * 2 ^ a.zeros in
    let d = digits_by_value x a.sign n a.value in
    let some : 0 < n = some_units n (lt_of_lt_of_le p (le_of_eq d)) in
    let is = scaled_by_value (digits_of x) x a.sign n a.value ∙ ap (λ (z : ℕ). round binary64 a.sign (2 * n) (2 ^ z)) d in
    let v : HasValue (scaled_by (digits_of x) x) a.sign (2 * n) (2 ^ size n) =
    subst (λ (z : Float). HasValue z a.sign (2 * n) (2 ^ size n)) (sym is)
    (largest_exact a.digits a.zeros a.few some a.sign) in
    let w = absolute_value (scaled_by (digits_of x) x) a.sign (2 * n) (2 ^ size n) v in
    let y = absolute (scaled_by (digits_of x) x) in
    let low = size_reached n some in
    let high = size-lt n in
    record {
      least =
          le_values (of_bits binary64 0x3ff0_0000_0000_0000) y false false 1 1 (2 * n) (2 ^ size n) (lit< tt) (pow_pos (size n)) one_value w
          ∙ ap not (le-ltb (2 * n * 1) (1 * 2 ^ size n) (omega (arith, low)));
      most =
          lt_values y (of_bits binary64 0x4000_0000_0000_0000) false false (2 * n) (2 ^ size n) 2 1 (pow_pos (size n)) (lit< tt) w two_value
          ∙ lt-ltb (2 * n * 1) (2 * 2 ^ size n) (omega (arith, high));
    }
  where
    some_units : (n : ℕ) → 0 < size n → 0 < n
    some_units n g = size_reaches n 0 g

-- the sign plays no part
pub absolute_scaled : (d : ℕ) (x : Float) → absolute (scaled_by d x) ≡ scaled_by d (absolute x)
unfolding scaled_by absolute
absolute_scaled d nan = refl
absolute_scaled d (inf s) = refl
absolute_scaled d (fin s m e) = absolute_round binary64 s (m * up e * (2 * unit)) (down e * 2 ^ d)

-- nothing that is not larger comes to 2
pub scaled_below_two : (x y : Float) → Sized x y → T (fits binary64 y) → is_finite y ≡ true
    → lt (absolute (scaled_by (digits_of y) x)) (of_bits binary64 0x4000_0000_0000_0000) ≡ true
scaled_below_two x y k f h =
    let d = digits_by_value y false k.most k.largest_value in
    let least : round binary64 false (2 * k.count) (2 ^ size k.most) ≡ absolute (scaled_by (digits_of y) x) =
    sym (ap absolute (scaled_is x y k) ∙ absolute_round binary64 k.sign (2 * k.count) (2 ^ size k.most)) in
    let most : round binary64 false (2 * k.most) (2 ^ size k.most) ≡ absolute (scaled_by (digits_of y) y) =
    sym
    (ap absolute
    (scaled_by_value (digits_of y) y false k.most k.largest_value ∙ ap (λ (z : ℕ). round binary64 false (2 * k.most) (2 ^ z)) d)
    ∙ absolute_round binary64 false (2 * k.most) (2 ^ size k.most)) in
    let within = k.within in
    let double : 2 * k.count ≤ 2 * k.most = omega (arith, within) in
    let ordered =
    round_mono binary64 (2 * k.count) (2 ^ size k.most) (2 * k.most) (2 ^ size k.most) (pow_pos (size k.most))
    (pow_pos (size k.most)) (mul-le-mul_right (2 ^ size k.most) double) in
    let le-most : T (le (absolute (scaled_by (digits_of y) x)) (absolute (scaled_by (digits_of y) y))) =
    subst (λ (z : Float). T (le z (absolute (scaled_by (digits_of y) y)))) least
    (subst (λ (z : Float). T (le (round binary64 false (2 * k.count) (2 ^ size k.most)) z)) most ordered) in
    let some : 0 < digits_of y = lt_of_lt_of_le (some_digits k.most k.some) (le_of_eq (sym d)) in
    lt_of_le_lt (absolute (scaled_by (digits_of y) x)) (absolute (scaled_by (digits_of y) y)) (of_bits binary64 0x4000_0000_0000_0000)
    (is_true (le (absolute (scaled_by (digits_of y) x)) (absolute (scaled_by (digits_of y) y))) le-most)
    (largest_from_one_to_two y f h some).most

-- a number above 0 has digits
pub digits_above : (x y : Float) → Sized x y → 0 < digits_of y
digits_above x y k =
    lt_of_lt_of_le (some_digits k.most k.some) (le_of_eq (sym (digits_by_value y false k.most k.largest_value)))

-- ---- 0 or not
above_zero_at : (x : Float) → is_finite x ≡ true → eq x (fin false 0 (pos 0)) ≡ false → lt (fin false 0 (pos 0)) (absolute x) ≡ true
unfolding is_finite absolute
above_zero_at nan h k = absurd (false≢true h)
above_zero_at (inf s) h k = absurd (false≢true h)
above_zero_at (fin s zero e) h k = absurd (true≢false (sym (zero_equal s e) ∙ k))
above_zero_at (fin s (suc m) e) h k = positive_above m e

pub size_above_zero : (x : Float) → is_finite x ≡ true → eq x (of_bits binary64 0) ≡ false → lt (of_bits binary64 0) (absolute x) ≡ true
size_above_zero x h k = ap (λ (z : Float). lt z (absolute x)) zero_pattern ∙ above_zero_at x h (ap (eq x) (sym zero_pattern) ∙ k)
