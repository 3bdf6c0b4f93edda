-- Numbers of at most a power of two in size stay so under a sum, a product and a quotient, so that none of these overflows. Assumes
-- nothing.
use Rattle.std.proofs.Common.{◌≡◌, ℕ, zero, suc, ◌+◌, ◌-◌, ◌*◌, ◌^◌, ◌<◌, ◌≤◌, Bool, true, false, cond, ◌&&◌, T, eqb, ltb, ℤ, pos, sym}
use Rattle.std.proofs.Common.{refl, ap, ◌∙◌, subst, true≢false, le_trans, le_of_eq, mul-le-mul_right, mul_assoc, mul_comm, mul-le-mul}
use Rattle.std.proofs.Common.{add_comm, pos_of_ne-zero, mul-pos, one-mul, pow-suc, zero-mul, mul-one, mul_right_comm}
use Rattle.std.proofs.Common.{le_of_mul-le-mul_right, arith, lit<, pow_mono, pow-add, ltb-false, le-ltb, ne_eqb}
use mathlib.Core.Bool.{beq}
use native.Mathlib.Nat.{mul-mul-mul_comm}
use lib.Pow.{pow-lt}
use lib.Ieee.{Float, nan, inf, fin, binary64, prec, emax, low, up, down, odd, units, round, neg, sum, add, sub, mul, div, lt, le, is_nan}
use lib.Ieee.{of_bits, unlike}
use lib.Ieee.Fits.{up_pos, down_pos, round_is}
use lib.Ieee.Exact.{HasValue, round_exact}
use lib.Ieee.Order.{round_mono}
use Rattle.arithmetic.specs.Basic.{is_finite, absolute, negative}
use Rattle.arithmetic.proofs.Order.{not_lt_of_le, le_of_not_lt, le_right_number}
use Rattle.arithmetic.proofs.Exactness.{neg_round}
use lib.Ieee.Bits.{is_true}

-- a finite number of at most 2 ^ k in size
pub data Within : ℕ → Float → Type 0 where
  within : {k : ℕ} (s : Bool) (m : ℕ) (e : ℤ) → m * up e ≤ 2 ^ k * down e → Within k (fin s m e)

-- a finite number of at least 1 / 2 ^ k in size
pub data Beyond : ℕ → Float → Type 0 where
  beyond : {k : ℕ} (s : Bool) (m : ℕ) (e : ℤ) → down e ≤ m * up e * 2 ^ k → Beyond k (fin s m e)

pub within_finite : {k : ℕ} {x : Float} → Within k x → is_finite x ≡ true
unfolding is_finite
within_finite (within s m e h) = refl

pub wider : {k j : ℕ} {x : Float} → k ≤ j → Within k x → Within j x
wider l (within s m e h) = within s m e (le_trans h (mul-le-mul_right (down e) (pow_mono l)))

neg_within : {k : ℕ} {x : Float} → Within k x → Within k (neg x)
unfolding neg
neg_within (within s m e h) = within _ m e h

chosen_within : {k : ℕ} {x y : Float} (b : Bool) → Within k x → Within k y → Within k (cond b x y)
chosen_within true p q = p
chosen_within false p q = q

-- ---- rounding: a fraction without a sign gives no NaN and no sign
unfoldable pub plain : Float → Type 0
plain nan = ⊥
plain (inf s) = s ≡ false
plain (fin s m e) = s ≡ false

odd_plain : (d q k l : ℕ) → plain (odd d false q k l)
unfolding odd plain
odd_plain d zero k l = refl
odd_plain d (suc q) k l = refl

units_plain : (q k : ℕ) → plain (units binary64 false q k)
unfolding units
units_plain q k = go (ltb (q * 2 ^ k) (2 ^ (low binary64 + suc (emax binary64))))
  where
    go : (b : Bool) → plain (cond b (odd (suc (prec binary64)) false q k (low binary64)) (inf false))
    go true = odd_plain (suc (prec binary64)) q k (low binary64)
    go false = unfold plain in refl

pub round_plain : (num den : ℕ) → plain (round binary64 false num den)
round_plain num den = subst plain (sym (round_is binary64 false num den)) (units_plain _ _)

-- 2 ^ k is a float
power_exact : (k : ℕ) → k ≤ 1023 → HasValue (round binary64 false (2 ^ k) 1) false (2 ^ k) 1
power_exact k l =
    round_exact binary64 false (2 ^ k) 1 1 (k + 1074) (lit< tt) (lit< tt)
    (subst (λ (n : ℕ). n < 2 ^ 2098) (sym (one-mul (2 ^ (k + 1074)))) (pow-lt {i = k + 1074} {j = 2098} (omega arith)))
    (sym (pow-add 2 k 1074) ∙ sym (one-mul (2 ^ (k + 1074))) ∙ sym (mul-one (1 * 2 ^ (k + 1074))))

at_most_power : (k : ℕ) (x y : Float) → plain x → HasValue y false (2 ^ k) 1 → lt y x ≡ false → Within k x
unfolding plain lt
at_most_power k nan y p v h = absurd p
at_most_power k (inf true) y p v h = absurd (true≢false p)
at_most_power k (inf false) nan p v h = absurd v
at_most_power k (inf false) (inf t) p v h = absurd v
at_most_power k (inf false) (fin t n d) p v h = absurd (true≢false h)
at_most_power k (fin true m e) y p v h = absurd (true≢false p)
at_most_power k (fin false m e) nan p v h = absurd v
at_most_power k (fin false m e) (inf t) p v h = absurd v
at_most_power k (fin false m e) (fin true n d) p v h = absurd (true≢false v.0)
at_most_power k (fin false m e) (fin false n d) p v h =
    let g : m * up e * down d ≤ n * up d * down e = ltb-false (n * up d * down e) (m * up e * down d) h in
    let w : n * up d * down e ≡ 2 ^ k * down e * down d =
    ap (λ (z : ℕ). z * down e) (sym (mul-one (n * up d)) ∙ v.1) ∙ mul_right_comm (2 ^ k) (down d) (down e) in
    within false m e (le_of_mul-le-mul_right (le_trans g (le_of_eq w)) (down_pos d))

plain_within : (k num den : ℕ) → k ≤ 1023 → 0 < den → num ≤ 2 ^ k * den → Within k (round binary64 false num den)
plain_within k num den l d h =
    let least : T (le (round binary64 false num den) (round binary64 false (2 ^ k) 1)) =
    round_mono binary64 num den (2 ^ k) 1 d (lit< tt) (le_trans (le_of_eq (mul-one num)) h) in
    at_most_power k (round binary64 false num den) (round binary64 false (2 ^ k) 1) (round_plain num den) (power_exact k l)
    (not_lt_of_le (round binary64 false num den) (round binary64 false (2 ^ k) 1)
    (is_true (le (round binary64 false num den) (round binary64 false (2 ^ k) 1)) least))

-- a fraction of at most 2 ^ k in size is rounded to such a number
pub rounded_within : (k : ℕ) (s : Bool) (num den : ℕ) → k ≤ 1023 → 0 < den → num ≤ 2 ^ k * den → Within k (round binary64 s num den)
rounded_within k false num den l d h = plain_within k num den l d h
rounded_within k true num den l d h = subst (Within k) (neg_round binary64 num den) (neg_within (plain_within k num den l d h))

-- ---- the operations
sum_rounded : (k : ℕ) (s : Bool) (a : ℕ) (t : Bool) (b c : ℕ) → suc k ≤ 1023 → 0 < c → a ≤ 2 ^ k * c → b ≤ 2 ^ k * c
    → Within (suc k) (sum binary64 s a t b c)
unfolding sum
sum_rounded k s a t b c l d h g =
    let twice : 2 ^ suc k * c ≡ 2 ^ k * c * 2 = ap (λ (z : ℕ). z * c) (pow-suc 2 k) ∙ mul_right_comm (2 ^ k) 2 c in
    chosen_within (beq s t) (rounded_within (suc k) s (a + b) c l d (omega arith))
    (chosen_within (ltb a b) (rounded_within (suc k) t (b - a) c l d (omega arith))
    (rounded_within (suc k) (s && ltb b a) (a - b) c l d (omega arith)))

pub sum_within : {k : ℕ} {x y : Float} → suc k ≤ 1023 → Within k x → Within k y → Within (suc k) (add binary64 x y)
unfolding add
sum_within {k} l (within s m e h) (within t n d g) =
    sum_rounded k s (m * up e * down d) t (n * up d * down e) (down e * down d) l (mul-pos (down_pos e) (down_pos d))
    (le_trans (mul-le-mul_right (down d) h) (le_of_eq (mul_assoc (2 ^ k) (down e) (down d))))
    (le_trans (mul-le-mul_right (down e) g) (le_of_eq (mul_right_comm (2 ^ k) (down d) (down e) ∙ mul_assoc (2 ^ k) (down e) (down d))))

pub difference_within : {k : ℕ} {x y : Float} → suc k ≤ 1023 → Within k x → Within k y → Within (suc k) (sub binary64 x y)
unfolding sub
difference_within l p q = sum_within l p (neg_within q)

pub product_within : {k j : ℕ} {x y : Float} → k + j ≤ 1023 → Within k x → Within j y → Within (k + j) (mul binary64 x y)
unfolding mul
product_within {k} {j} l (within s m e h) (within t n d g) =
    rounded_within (k + j) (unlike s t) (m * up e * (n * up d)) (down e * down d) l (mul-pos (down_pos e) (down_pos d))
    (le_trans (mul-le-mul h g)
    (le_of_eq (mul-mul-mul_comm (2 ^ k) (down e) (2 ^ j) (down d) ∙ ap (λ (z : ℕ). z * (down e * down d)) (sym (pow-add 2 k j)))))

-- a divisor that is not too small is not zero
beyond_not_zero : (k n : ℕ) (d : ℤ) → down d ≤ n * up d * 2 ^ k → n ≡ 0 → ⊥
beyond_not_zero k n d g z =
    let none : n * up d * 2 ^ k ≡ 0 =
    ap (λ (i : ℕ). i * up d * 2 ^ k) z ∙ ap (λ (i : ℕ). i * 2 ^ k) (zero-mul (up d)) ∙ zero-mul (2 ^ k) in
    let above : 0 < down d = down_pos d in
    omega arith

quotient_at_most : (k j a c b d : ℕ) → a ≤ 2 ^ k * c → d ≤ b * 2 ^ j → a * d ≤ 2 ^ (k + j) * (b * c)
quotient_at_most k j a c b d h g =
    le_trans (mul-le-mul h g)
    (le_of_eq
    (ap (λ (z : ℕ). 2 ^ k * c * z) (mul_comm b (2 ^ j))
    ∙ mul-mul-mul_comm (2 ^ k) c (2 ^ j) b
    ∙ ap (λ (z : ℕ). z * (c * b)) (sym (pow-add 2 k j))
    ∙ ap (λ (z : ℕ). 2 ^ (k + j) * z) (mul_comm c b)))

pub quotient_within : {k j : ℕ} {x y : Float} → k + j ≤ 1023 → Within k x → Beyond j y → Within (k + j) (div binary64 x y)
unfolding div
quotient_within {k} {j} l (within s m e h) (beyond t n d g) =
    let whole : 0 < n = pos_of_ne-zero (beyond_not_zero j n d g) in
    subst (λ (b : Bool). Within (k + j)
    (cond b (cond (eqb m 0) nan (inf (unlike s t))) (round binary64 (unlike s t) (m * up e * down d) (n * up d * down e))))
    (sym (ne_eqb n 0 (beyond_not_zero j n d g)))
    (rounded_within (k + j) (unlike s t) (m * up e * down d) (n * up d * down e) l (mul-pos (mul-pos whole (up_pos d)) (down_pos e))
    (quotient_at_most k j (m * up e) (down e) (n * up d) (down d) h g))

-- ---- at least 1
abbrev one : Float
one = of_bits binary64 0x3ff0_0000_0000_0000

-- a number of at least 1, or the infinity
abbrev pub FromOne : Float → Type 0
FromOne nan = ⊥
FromOne (inf s) = s ≡ false
FromOne (fin s m e) = (s ≡ false) × (down e ≤ m * up e)

one_is : one ≡ fin false 1 (pos 0)
unfolding of_bits
one_is = refl

from_one_at : (x : Float) → lt x (fin false 1 (pos 0)) ≡ false → is_nan x ≡ false → FromOne x
unfolding lt is_nan
from_one_at nan h n = absurd (true≢false n)
from_one_at (inf true) h n = absurd (true≢false h)
from_one_at (inf false) h n = refl
from_one_at (fin true m e) h n =
    let g = ltb-false 0 (m * up e * 1 + 1 * 1 * down e) h in
    let d = down_pos e in
    absurd (omega (arith, g, d))
from_one_at (fin false m e) h n = let g = ltb-false (m * up e * 1) (1 * 1 * down e) h in (refl, omega (arith, g))

pub from_one : (x : Float) → le one x ≡ true → FromOne x
from_one x h = from_one_at x (ap (lt x) (sym one_is) ∙ not_lt_of_le one x h) (le_right_number one x h)

above_one_at : (x : Float) → FromOne x → lt x (fin false 1 (pos 0)) ≡ false
unfolding lt
above_one_at nan h = absurd h
above_one_at (inf true) h = absurd (true≢false h)
above_one_at (inf false) h = refl
above_one_at (fin true m e) h = absurd (true≢false h.0)
above_one_at (fin false m e) h = let g = h.1 in le-ltb (m * up e * 1) (1 * 1 * down e) (omega (arith, g))

from_one_number : (x : Float) → FromOne x → is_nan x ≡ false
unfolding is_nan
from_one_number nan h = absurd h
from_one_number (inf s) h = refl
from_one_number (fin s m e) h = refl

one_number : is_nan one ≡ false
unfolding of_bits is_nan
one_number = refl

pub above_one : (x : Float) → FromOne x → le one x ≡ true
above_one x h = le_of_not_lt one x one_number (from_one_number x h) (ap (lt x) one_is ∙ above_one_at x h)

one_round : round binary64 false 1 1 ≡ one
unfolding round
one_round = refl ∙ sym one_is

rounded_from_one : (num den : ℕ) → 0 < den → den ≤ num → FromOne (round binary64 false num den)
rounded_from_one num den d h =
    from_one (round binary64 false num den)
    (is_true (le one (round binary64 false num den))
    (subst (λ (z : Float). T (le z (round binary64 false num den))) one_round (round_mono binary64 1 1 num den (lit< tt) d (omega arith))))

-- the square of what is at least 1 in size
pub square_from_one : (x : Float) → FromOne (absolute x) → FromOne (mul binary64 x x)
unfolding absolute mul
square_from_one nan h = h
square_from_one (inf true) h = refl
square_from_one (inf false) h = refl
square_from_one (fin true m e) h =
    rounded_from_one (m * up e * (m * up e)) (down e * down e) (mul-pos (down_pos e) (down_pos e)) (mul-le-mul h.1 h.1)
square_from_one (fin false m e) h =
    rounded_from_one (m * up e * (m * up e)) (down e * down e) (mul-pos (down_pos e) (down_pos e)) (mul-le-mul h.1 h.1)

-- a sum with what is not negative
larger : (a b c d : ℕ) → d ≤ a → d * c ≤ a * c + b * d
larger a b c d h = let g = mul-le-mul_right c h in omega (arith, g)

pub sum_from_one : (x y : Float) → FromOne x → negative y ≡ false → is_nan y ≡ false → FromOne (add binary64 x y)
unfolding add sum negative is_nan
sum_from_one nan y h p n = absurd h
sum_from_one (inf true) y h p n = absurd (true≢false h)
sum_from_one (inf false) nan h p n = absurd (true≢false n)
sum_from_one (inf false) (inf true) h p n = absurd (true≢false p)
sum_from_one (inf false) (inf false) h p n = refl
sum_from_one (inf false) (fin t i d) h p n = refl
sum_from_one (fin true m e) y h p n = absurd (true≢false h.0)
sum_from_one (fin false m e) nan h p n = absurd (true≢false n)
sum_from_one (fin false m e) (inf true) h p n = absurd (true≢false p)
sum_from_one (fin false m e) (inf false) h p n = refl
sum_from_one (fin false m e) (fin true i d) h p n = absurd (true≢false p)
sum_from_one (fin false m e) (fin false i d) h p n =
    rounded_from_one (m * up e * down d + i * up d * down e) (down e * down d) (mul-pos (down_pos e) (down_pos d))
    (larger (m * up e) (i * up d) (down d) (down e) h.1)

pub sum_from_one_second : (x y : Float) → negative x ≡ false → is_nan x ≡ false → FromOne y → FromOne (add binary64 x y)
unfolding add sum negative is_nan
sum_from_one_second nan y p n h = absurd (true≢false n)
sum_from_one_second (inf true) y p n h = absurd (true≢false p)
sum_from_one_second (inf false) nan p n h = absurd h
sum_from_one_second (inf false) (inf true) p n h = absurd (true≢false h)
sum_from_one_second (inf false) (inf false) p n h = refl
sum_from_one_second (inf false) (fin t i d) p n h = refl
sum_from_one_second (fin true m e) y p n h = absurd (true≢false p)
sum_from_one_second (fin false m e) nan p n h = absurd h
sum_from_one_second (fin false m e) (inf true) p n h = absurd (true≢false h)
sum_from_one_second (fin false m e) (inf false) p n h = refl
sum_from_one_second (fin false m e) (fin true i d) p n h = absurd (true≢false h.0)
sum_from_one_second (fin false m e) (fin false i d) p n h =
    rounded_from_one (m * up e * down d + i * up d * down e) (down e * down d) (mul-pos (down_pos e) (down_pos d))
    (le_trans (le_of_eq (mul_comm (down e) (down d)))
    (le_trans (larger (i * up d) (m * up e) (down e) (down d) h.1) (le_of_eq (add_comm (i * up d * down e) (m * up e * down d)))))
