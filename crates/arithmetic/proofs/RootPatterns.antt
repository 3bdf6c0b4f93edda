-- What the bit pattern of a float above zero says of its value: a subnormal number, a normal number, or the infinity. Assumes nothing.
use Rattle.std.proofs.Common.{◌≡◌, ℕ, zero, suc, ◌+◌, ◌-◌, ◌*◌, ◌/◌, ◌%◌, ◌^◌, ◌<◌, ◌≤◌, Bool, false, cond, eqb, leb, sym, refl, ap, ◌∙◌}
use Rattle.std.proofs.Common.{subst, inl, inr, le_trans, le_of_eq, lt_of_lt_of_le, le_of_suc-le-suc, not-suc-le-zero, lt_irrefl}
use Rattle.std.proofs.Common.{mul-le-mul_right, mod-eq_of_lt, zero-lt-suc, mul_assoc, mul_comm, add_comm, eq-or-lt_of_le, mul-le-mul_left}
use Rattle.std.proofs.Common.{mul-one, mul_right_comm, not-le_of_lt, arith, lit≤, pow_pos, pow-add, ne_eqb}
use native.Mathlib.Nat.{eq_of_mul-eq-mul_right}
use native.Mathlib.Nat.{mul-mul-mul_comm}
use native.Mathlib.Nat.{pow-succ'}
use lib.Ieee.{Float, nan, inf, fin, binary64, up, down, odd, of_fields, of_bits}
use lib.Ieee.Exact.{HasValue, odd_sign}
use borrow.Author.Tests.{lt-leb}

pub signed_fields : (b : ℕ) → of_bits binary64 b ≡ of_fields binary64 (leb (2 ^ 63) b) (b % 2 ^ 63 / 2 ^ 52) (b % 2 ^ 52)
unfolding of_bits
signed_fields b = refl

-- a pattern whose sign is clear
pub positive_fields : (b : ℕ) → b < 2 ^ 63 → of_bits binary64 b ≡ of_fields binary64 false (b / 2 ^ 52) (b % 2 ^ 52)
positive_fields b h =
    signed_fields b
    ∙ ap (λ (s : Bool). of_fields binary64 s (b % 2 ^ 63 / 2 ^ 52) (b % 2 ^ 52)) (lt-leb (2 ^ 63) b h)
    ∙ ap (λ (z : ℕ). of_fields binary64 false (z / 2 ^ 52) (b % 2 ^ 52)) (mod-eq_of_lt h)

low_field : (t : ℕ) → of_fields binary64 false 0 t ≡ odd 53 false t 0 1074
unfolding of_fields
low_field t = refl

middle_field : (x t : ℕ) → suc x < 2047 → of_fields binary64 false (suc x) t ≡ odd 53 false (2 ^ 52 + t) x 1074
unfolding of_fields
middle_field x t h = ap (λ (b : Bool). cond b (cond (eqb t 0) (inf false) nan) (odd 53 false (2 ^ 52 + t) x 1074))
    (ne_eqb (suc x) 2047 (λ e. apart e))
  where
    apart : suc x ≡ 2047 → ⊥
    apart e = omega arith

pub top_field : (t : ℕ) → of_fields binary64 false 2047 t ≡ cond (eqb t 0) (inf false) nan
unfolding of_fields
top_field t = refl

pub subnormal_value : (b : ℕ) → b < 2 ^ 52 → HasValue (of_bits binary64 b) false b (2 ^ 1074)
subnormal_value b h =
    let e : b / 2 ^ 52 ≡ 0 = omega arith in
    let t : b % 2 ^ 52 ≡ b = mod-eq_of_lt h in
    subst (λ (x : Float). HasValue x false b (2 ^ 1074))
    (sym (positive_fields b (omega arith) ∙ ap (λ (z : ℕ). of_fields binary64 false z (b % 2 ^ 52)) e ∙ ap (of_fields binary64 false 0) t ∙
    low_field b))
    (subst (λ (a : ℕ). HasValue (odd 53 false b 0 1074) false a (2 ^ 1074)) (mul-one b) (odd_sign 53 false b 0 1074))

pub normal_value : (b x : ℕ) → b / 2 ^ 52 ≡ suc x → suc x < 2047 → HasValue (of_bits binary64 b) false ((2 ^ 52 + b % 2 ^ 52) * 2 ^ x)
    (2 ^ 1074)
normal_value b x e h =
    subst (λ (v : Float). HasValue v false ((2 ^ 52 + b % 2 ^ 52) * 2 ^ x) (2 ^ 1074))
    (sym (positive_fields b (omega arith) ∙ ap (λ (z : ℕ). of_fields binary64 false z (b % 2 ^ 52)) e ∙ middle_field x (b % 2 ^ 52) h))
    (odd_sign 53 false (2 ^ 52 + b % 2 ^ 52) x 1074)

-- ---- the same values in units of 2 ^ -2148
finer : (x : Float) (a c d : ℕ) → HasValue x false a c → HasValue x false (a * d) (c * d)
finer nan a c d v = v
finer (inf s) a c d v = v
finer (fin s m e) a c d v = (v.0, sym (mul_assoc (m * up e) c d) ∙ ap (λ (z : ℕ). z * d) v.1 ∙ mul_right_comm a (down e) d)

-- 1 + p is 2 ^ p, at a digit p
digit_power : (p : ℕ) → p < 2 → 2 ^ p ≡ 1 + p
digit_power zero h = refl
digit_power (suc zero) h = refl
digit_power (suc (suc p)) h = absurd (not-suc-le-zero (le_of_suc-le-suc (le_of_suc-le-suc h)))

powers : (x p k : ℕ) → p < 2 → x + 1074 ≡ p + (52 + (k + k)) → 2 ^ x * 2 ^ 1074 ≡ (1 + p) * (2 ^ 52 * (2 ^ k * 2 ^ k))
powers x p k h e =
    sym (pow-add 2 x 1074)
    ∙ ap (λ (z : ℕ). 2 ^ z) e
    ∙ pow-add 2 p (52 + (k + k))
    ∙ ap (λ (z : ℕ). z * 2 ^ (52 + (k + k))) (digit_power p h)
    ∙ ap (λ (z : ℕ). (1 + p) * z) (pow-add 2 52 (k + k) ∙ ap (λ (z : ℕ). 2 ^ 52 * z) (pow-add 2 k k))

-- a normal number with the exponent's field x + 1 and the digits t
normal_at : (b x t p k : ℕ) → b / 2 ^ 52 ≡ suc x → b % 2 ^ 52 ≡ t → suc x < 2047 → p < 2 → x + 1074 ≡ p + (52 + (k + k))
    → HasValue (of_bits binary64 b) false ((t + 2 ^ 52) * (1 + p) * 2 ^ 52 * (2 ^ k * 2 ^ k)) (2 ^ 2148)
normal_at b x t p k f g h l e =
    subst (λ (z : ℕ). HasValue (of_bits binary64 b) false z (2 ^ 2148))
    (ap (λ (z : ℕ). (2 ^ 52 + z) * 2 ^ x * 2 ^ 1074) g
    ∙ ap (λ (z : ℕ). z * 2 ^ x * 2 ^ 1074) (add_comm (2 ^ 52) t)
    ∙ mul_assoc (t + 2 ^ 52) (2 ^ x) (2 ^ 1074)
    ∙ ap (λ (z : ℕ). (t + 2 ^ 52) * z) (powers x p k l e)
    ∙ sym (mul_assoc (t + 2 ^ 52) (1 + p) (2 ^ 52 * (2 ^ k * 2 ^ k)))
    ∙ sym (mul_assoc ((t + 2 ^ 52) * (1 + p)) (2 ^ 52) (2 ^ k * 2 ^ k)))
    (finer (of_bits binary64 b) ((2 ^ 52 + b % 2 ^ 52) * 2 ^ x) (2 ^ 1074) (2 ^ 1074) (normal_value b x f h))

-- the same by the numbers that `normal_root` finds: r is the pattern with 1021 added to the exponent's field
pub normal_scaled : (b r : ℕ) → 2 ^ 52 ≤ b → b < 2047 * 2 ^ 52 → r ≡ b + 1021 * 2 ^ 52
    → HasValue (of_bits binary64 b) false ((r % 2 ^ 53 % 2 ^ 52 + 2 ^ 52) * (1 + r % 2 ^ 53 / 2 ^ 52) * 2 ^ 52
    * (2 ^ (r / 2 ^ 53) * 2 ^ (r /
    2 ^ 53))) (2 ^ 2148)
normal_scaled b r lo hi e =
    normal_at b (b / 2 ^ 52 - 1) (r % 2 ^ 53 % 2 ^ 52) (r % 2 ^ 53 / 2 ^ 52) (r / 2 ^ 53) (omega arith) (omega arith) (omega arith)
    (omega arith) (omega arith)

-- ---- the digits, doubled or not, of `even_digits`
pub digits_once : (c : ℕ) → c < 2 ^ 52 → c + 2 ^ 52 ≡ (c % 2 ^ 52 + 2 ^ 52) * (1 + c / 2 ^ 52)
digits_once c h =
    let e : c / 2 ^ 52 ≡ 0 = omega arith in
    let f : c + 2 ^ 52 ≡ (c % 2 ^ 52 + 2 ^ 52) * (1 + 0) = omega arith in
    f ∙ ap (λ (z : ℕ). (c % 2 ^ 52 + 2 ^ 52) * (1 + z)) (sym e)

pub digits_twice : (c : ℕ) → 2 ^ 52 ≤ c → c < 2 ^ 53 → c + c ≡ (c % 2 ^ 52 + 2 ^ 52) * (1 + c / 2 ^ 52)
digits_twice c h k =
    let e : c / 2 ^ 52 ≡ 1 = omega arith in
    let f : c + c ≡ (c % 2 ^ 52 + 2 ^ 52) * (1 + 1) = omega arith in
    f ∙ ap (λ (z : ℕ). (c % 2 ^ 52 + 2 ^ 52) * (1 + z)) (sym e)

-- at 2 ^ 52 both are the same
pub digits_plain : (c : ℕ) → c ≤ 2 ^ 52 → c + 2 ^ 52 ≡ (c % 2 ^ 52 + 2 ^ 52) * (1 + c / 2 ^ 52)
digits_plain c h = elim (eq-or-lt_of_le h) [
  | inl e ↦ (let t : c + 2 ^ 52 ≡ c + c = omega arith in t ∙ digits_twice c (omega arith) (omega
      arith))
  | inr l ↦ digits_once c l
]

pub record EvenDigits (m : ℕ) : Type 0 where
  pub least : 2 ^ 52 ≤ m
  pub most : m ≤ 2 ^ 54 - 2

pub even_digits : (c m : ℕ) → c < 2 ^ 53 → m ≡ (c % 2 ^ 52 + 2 ^ 52) * (1 + c / 2 ^ 52) → EvenDigits m
even_digits c m h e =
    let q = c % 2 ^ 52 + 2 ^ 52 in
    let lo : q * 1 ≤ q * (1 + c / 2 ^ 52) = mul-le-mul_left q (omega arith) in
    let hi : q * (1 + c / 2 ^ 52) ≤ q * 2 = mul-le-mul_left q (omega arith) in
    record { least = omega arith; most = omega arith }

-- ---- from 1 to 4, in units of 2 ^ -52
coarse : (x : Float) (a c d : ℕ) → 0 < d → HasValue x false (a * d) (c * d) → HasValue x false a c
coarse nan a c d D v = v
coarse (inf s) a c d D v = v
coarse (fin s m e) a c d D v = (
  v.0,
  eq_of_mul-eq-mul_right d D (m * up e * c) (a * down e) (mul_assoc (m * up e) c d ∙ v.1 ∙
      mul_right_comm a d (down e)),
)

-- the pattern that is c above the one of 1
pub from_one_value : (c : ℕ) → c < 2 ^ 53 → HasValue (of_bits binary64 (c + 1023 * 2 ^ 52)) false ((c % 2 ^ 52 + 2 ^ 52) * (1 + c / 2 ^ 52))
    (2 ^ 52)
from_one_value c h =
    let b = c + 1023 * 2 ^ 52 in
    let x = 1022 + c / 2 ^ 52 in
    let t : 2 ^ 52 + b % 2 ^ 52 ≡ c % 2 ^ 52 + 2 ^ 52 = omega arith in
    let p : 2 ^ x ≡ (1 + c / 2 ^ 52) * 2 ^ 1022 = pow-add 2 1022 (c / 2 ^ 52) ∙ mul_comm (2 ^ 1022) (2 ^ (c / 2 ^ 52)) ∙ ap
    (λ (z : ℕ). z * 2 ^ 1022) (digit_power (c / 2 ^ 52) (omega arith)) in
    coarse (of_bits binary64 b) ((c % 2 ^ 52 + 2 ^ 52) * (1 + c / 2 ^ 52)) (2 ^ 52) (2 ^ 1022) (pow_pos 1022)
    (subst (λ (z : ℕ). HasValue (of_bits binary64 b) false z (2 ^ 1074))
    (ap (λ (z : ℕ). z * 2 ^ x) t ∙ ap (λ (z : ℕ). (c % 2 ^ 52 + 2 ^ 52) * z) p ∙ sym
    (mul_assoc (c % 2 ^ 52 + 2 ^ 52) (1 + c / 2 ^ 52) (2 ^ 1022)))
    (normal_value b x (omega arith) (omega arith)))

-- ---- the subnormal number b, times 4 until it has 53 digits or more: the invariant of the loop in `subnormal_root`
pub record Lifted (b m k : ℕ) : Type 0 where
  pub value : m * (2 ^ k * 2 ^ k) ≡ b * 2 ^ 1022
  pub small : m ≤ 2 ^ 54 - 4
  pub count : k ≤ 511

pub lifted_at_first : (b : ℕ) → b < 2 ^ 52 → Lifted b b 511
lifted_at_first b h = record { value = refl; small = omega arith; count = omega arith }

pub lifted_left : (b m k : ℕ) → 0 < b → Lifted b m k → m < 2 ^ 52 → 0 < k
lifted_left b m zero B l h =
    let e : m * 1 ≡ b * 2 ^ 1022 = l.value in
    let f : 1 * 2 ^ 1022 ≤ b * 2 ^ 1022 = mul-le-mul_right (2 ^ 1022) B in
    absurd (not-le_of_lt (lt_of_lt_of_le h (lit≤ tt)) (le_trans f (le_of_eq (sym e ∙ mul-one m))))
lifted_left b m (suc k) B l h = zero-lt-suc k

pub lifted_again : (b m k : ℕ) → 0 < k → Lifted b m k → m < 2 ^ 52 → Lifted b (m * 4) (k - 1)
lifted_again b m zero K l h = absurd (lt_irrefl 0 K)
lifted_again b m (suc k) K l h =
    let e : suc k - 1 ≡ k = omega arith in
    let s : 2 ^ suc k * 2 ^ suc k ≡ 2 * 2 * (2 ^ k * 2 ^ k) = ap (λ (z : ℕ). z * z) (pow-succ' 2 k) ∙ mul-mul-mul_comm 2 (2 ^ k) 2
    (2 ^ k) in
    subst (Lifted b (m * 4)) (sym e)
    (record {
      value = mul_assoc m 4 (2 ^ k * 2 ^ k) ∙ ap (λ (z : ℕ). m * z) (sym s) ∙ l.value;
      small = omega arith;
      count = omega
          (arith, l.count);
    })

pub lifted_scaled : (b m k : ℕ) → b < 2 ^ 52 → Lifted b m k → HasValue (of_bits binary64 b) false (m * 2 ^ 52 * (2 ^ k * 2 ^ k)) (2 ^ 2148)
lifted_scaled b m k h l =
    subst (λ (z : ℕ). HasValue (of_bits binary64 b) false z (2 ^ 2148))
    (sym (mul_right_comm m (2 ^ 52) (2 ^ k * 2 ^ k) ∙ ap (λ (z : ℕ). z * 2 ^ 52) l.value ∙ mul_assoc b (2 ^ 1022) (2 ^ 52)))
    (finer (of_bits binary64 b) b (2 ^ 1074) (2 ^ 1074) (subnormal_value b h))
