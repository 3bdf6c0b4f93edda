-- The bit patterns of floats that are not negative stand in the order of their values. Assumes nothing.
use Rattle.std.proofs.Common.{◌≡◌, ℕ, zero, suc, ◌+◌, ◌-◌, ◌*◌, ◌/◌, ◌%◌, ◌^◌, ◌<◌, ◌≤◌, Bool, true, false, T, ltb, ◌⊎◌, sym, refl, ap, ◌∙◌}
use Rattle.std.proofs.Common.{subst, inl, inr, true≢false, le_of_eq, le_of_lt, mul-le-mul_right, mul_assoc, mul_comm}
use Rattle.std.proofs.Common.{lt_of_mul-lt-mul_right, eq-or-lt_of_le, mul-lt-mul_of_pos_right, pow-suc, mul_right_comm, not-le_of_lt, arith}
use Rattle.std.proofs.Common.{lit<, pow_pos, ltb-false, ltb-true, lt-ltb}
use mathlib.Core.Bool.{false≢true}
use lib.Ieee.{Float, nan, inf, fin, binary64, up, down, of_bits, to_bits, nan_bits, fits, is_nan, lt, le}
use lib.Ieee.Bits.{of_bits-to_bits, nan_bits_above, is_false}
use lib.Ieee.Exact.{HasValue}
use lib.Ieee.Fits.{down_pos}
use lib.Ieee.Order.{le_of_values}
use lib.Ieee.Bits.{is_true}
use Rattle.arithmetic.specs.Basic.{is_finite, absolute}
use Rattle.arithmetic.proofs.Neighbours.{lt_units}
use Rattle.arithmetic.proofs.Numbers.{finite_number}
use Rattle.arithmetic.proofs.RootPatterns.{subnormal_value, normal_value}
use Rattle.arithmetic.proofs.SignBit.{sign_cleared, cleared_is_number, absolute_fits}

-- the pattern of infinity; those of finite numbers are below it
abbrev pub endless : ℕ
endless = 2047 * 2 ^ 52

-- ---- the value of a pattern, in units of 2 ^ -1074: of a field x and digits t, with the leading digit where x is not 0
pub scale : ℕ → ℕ → ℕ
scale zero t = t
scale (suc x) t = (2 ^ 52 + t) * 2 ^ x

unfoldable pub in_units : ℕ → ℕ
in_units b = scale (b / 2 ^ 52) (b % 2 ^ 52)

scale_digit : (x t : ℕ) → scale x t < scale x (suc t)
unfolding scale
scale_digit zero t = omega arith
scale_digit (suc x) t =
    let h : 2 ^ 52 + t < 2 ^ 52 + suc t = omega arith in
    mul-lt-mul_of_pos_right h (pow_pos x)

scale_field : (x : ℕ) → scale x (2 ^ 52 - 1) < scale (suc x) 0
unfolding scale
scale_field zero = lit< tt
scale_field (suc x) =
    let p : 0 < 2 ^ x = pow_pos x in
    let e : (2 ^ 52 + 0) * 2 ^ suc x ≡ 2 ^ 53 * 2 ^ x = ap (λ (z : ℕ). (2 ^ 52 + 0) * z) (pow-suc 2 x ∙ mul_comm (2 ^ x) 2) ∙ sym
    (mul_assoc (2 ^ 52 + 0) 2 (2 ^ x)) in
    subst (λ (z : ℕ). (2 ^ 52 + (2 ^ 52 - 1)) * 2 ^ x < z) (sym e)
    (mul-lt-mul_of_pos_right {m = 2 ^ 52 + (2 ^ 52 - 1)} {n = 2 ^ 53} (lit< tt) p)

-- the next pattern has the next digits, or the next field
next_units : (b : ℕ) → in_units b < in_units (suc b)
unfolding in_units
next_units b = go (ltb (b % 2 ^ 52 + 1) (2 ^ 52)) (ltb-true (b % 2 ^ 52 + 1) (2 ^ 52)) (ltb-false (b % 2 ^ 52 + 1) (2 ^ 52))
  where
    go : (k : Bool) → (k ≡ true → b % 2 ^ 52 + 1 < 2 ^ 52) → (k ≡ false → 2 ^ 52 ≤ b % 2 ^ 52 + 1)
        → scale (b / 2 ^ 52) (b % 2 ^ 52) < scale (suc b / 2 ^ 52) (suc b % 2 ^ 52)
    go true p q =
        let l : b % 2 ^ 52 + 1 < 2 ^ 52 = p refl in
        let e : suc b / 2 ^ 52 ≡ b / 2 ^ 52 = omega arith in
        let f : suc b % 2 ^ 52 ≡ suc (b % 2 ^ 52) = omega arith in
        subst (λ (i : ℕ). scale (b / 2 ^ 52) (b % 2 ^ 52) < scale i (suc b % 2 ^ 52)) (sym e)
        (subst (λ (i : ℕ). scale (b / 2 ^ 52) (b % 2 ^ 52) < scale (b / 2 ^ 52) i) (sym f) (scale_digit (b / 2 ^ 52) (b % 2 ^ 52)))
    go false p q =
        let l : 2 ^ 52 ≤ b % 2 ^ 52 + 1 = q refl in
        let e : suc b / 2 ^ 52 ≡ suc (b / 2 ^ 52) = omega arith in
        let f : suc b % 2 ^ 52 ≡ 0 = omega arith in
        let g : b % 2 ^ 52 ≡ 2 ^ 52 - 1 = omega arith in
        subst (λ (i : ℕ). scale (b / 2 ^ 52) (b % 2 ^ 52) < scale i (suc b % 2 ^ 52)) (sym e)
        (subst (λ (i : ℕ). scale (b / 2 ^ 52) (b % 2 ^ 52) < scale (suc (b / 2 ^ 52)) i) (sym f)
        (subst (λ (i : ℕ). scale (b / 2 ^ 52) i < scale (suc (b / 2 ^ 52)) 0) (sym g) (scale_field (b / 2 ^ 52))))

pub units_rise : (a b : ℕ) → a < b → in_units a < in_units b
units_rise a zero h = absurd (omega arith)
units_rise a (suc b) h = go (ltb a b) (ltb-true a b) (ltb-false a b) (units_rise a b)
  where
    go : (k : Bool) → (k ≡ true → a < b) → (k ≡ false → b ≤ a) → (a < b → in_units a < in_units b) → in_units a < in_units (suc b)
    go true p q r = let l = r (p refl) in let n = next_units b in omega arith
    go false p q r =
        let l : b ≤ a = q refl in
        let e : b ≡ a = omega arith in
        subst (λ (i : ℕ). in_units i < in_units (suc b)) e (next_units b)

pub units_mono : (a b : ℕ) → a ≤ b → in_units a ≤ in_units b
units_mono a b h = go (ltb a b) (ltb-true a b) (ltb-false a b)
  where
    go : (k : Bool) → (k ≡ true → a < b) → (k ≡ false → b ≤ a) → in_units a ≤ in_units b
    go true p q = le_of_lt (units_rise a b (p refl))
    go false p q = let l : b ≤ a = q refl in let e : a ≡ b = omega arith in le_of_eq (ap in_units e)

pub units_back : (a b : ℕ) → in_units a < in_units b → a < b
units_back a b h = go (ltb a b) (ltb-true a b) (ltb-false a b)
  where
    go : (k : Bool) → (k ≡ true → a < b) → (k ≡ false → b ≤ a) → a < b
    go true p q = p refl
    go false p q = absurd (not-le_of_lt h (units_mono b a (q refl)))

pub pattern_value : (b : ℕ) → b < endless → HasValue (of_bits binary64 b) false (in_units b) (2 ^ 1074)
unfolding in_units scale
pattern_value b h = go (b / 2 ^ 52) refl
  where
    go : (x : ℕ) → b / 2 ^ 52 ≡ x → HasValue (of_bits binary64 b) false (scale x (b % 2 ^ 52)) (2 ^ 1074)
    go zero e =
        let f : b ≡ b % 2 ^ 52 = omega arith in
        subst (λ (z : ℕ). HasValue (of_bits binary64 b) false z (2 ^ 1074)) f (subnormal_value b (omega arith))
    go (suc x) e = normal_value b x e (omega arith)

-- ---- comparisons by units
less : (a b d e R Y u : ℕ) → 0 < d → 0 < e → a * u ≡ R * d → b * u ≡ Y * e → R < Y → a * e < b * d
less a b d e R Y u D E p q h =
    let l : a * e * u ≡ R * d * e = mul_right_comm a e u ∙ ap (λ (z : ℕ). z * e) p in
    let r : b * d * u ≡ Y * d * e = mul_right_comm b d u ∙ ap (λ (z : ℕ). z * d) q ∙ mul_right_comm Y e d in
    lt_of_mul-lt-mul_right u (subst (λ (z : ℕ). z < b * d * u) (sym l)
    (subst (λ (z : ℕ). R * d * e < z) (sym r) (mul-lt-mul_of_pos_right (mul-lt-mul_of_pos_right h D) E)))

pub lt_of_units : (x y : Float) (R Y : ℕ) → HasValue x false R (2 ^ 1074) → HasValue y false Y (2 ^ 1074) → R < Y → lt x y ≡ true
unfolding lt
lt_of_units nan y R Y v w h = absurd v
lt_of_units (inf s) y R Y v w h = absurd v
lt_of_units (fin true m e) y R Y v w h = absurd (true≢false v.0)
lt_of_units (fin false m e) nan R Y v w h = absurd w
lt_of_units (fin false m e) (inf t) R Y v w h = absurd w
lt_of_units (fin false m e) (fin true n d) R Y v w h = absurd (true≢false w.0)
lt_of_units (fin false m e) (fin false n d) R Y v w h =
    lt-ltb (m * up e * down d) (n * up d * down e)
    (less (m * up e) (n * up d) (down e) (down d) R Y (2 ^ 1074) (down_pos e) (down_pos d) v.1 w.1 h)

pub patterns_le : (a b : ℕ) → a ≤ b → b < endless → le (of_bits binary64 a) (of_bits binary64 b) ≡ true
patterns_le a b h l =
    let k : a < endless = omega arith in
    is_true (le (of_bits binary64 a) (of_bits binary64 b))
    (le_of_values (of_bits binary64 a) (of_bits binary64 b) (in_units a) (2 ^ 1074) (in_units b) (2 ^ 1074) (pow_pos 1074) (pow_pos 1074)
    (pattern_value a k) (pattern_value b l) (mul-le-mul_right (2 ^ 1074) (units_mono a b h)))

pub patterns_lt : (a b : ℕ) → a < b → b < endless → lt (of_bits binary64 a) (of_bits binary64 b) ≡ true
patterns_lt a b h l =
    let k : a < endless = omega arith in
    lt_of_units (of_bits binary64 a) (of_bits binary64 b) (in_units a) (in_units b) (pattern_value a k) (pattern_value b l)
    (units_rise a b h)

pub patterns_back : (a b : ℕ) → a < endless → b < endless → lt (of_bits binary64 a) (of_bits binary64 b) ≡ true → a < b
patterns_back a b k l h =
    units_back a b
    (lt_units (of_bits binary64 a) (of_bits binary64 b) (in_units a) (in_units b) (pattern_value a k) (pattern_value b l)
    (subst T (sym h) tt))

-- ---- which pattern a number has
pub endless_is : of_bits binary64 endless ≡ inf false
unfolding of_bits
endless_is = refl

own_pattern : (x : Float) → T (fits binary64 x) → of_bits binary64 (to_bits binary64 (absolute x)) ≡ absolute x
own_pattern x f = of_bits-to_bits binary64 (absolute x) (absolute_fits x f)

-- of a number's size
pub pattern_most : (x : Float) → T (fits binary64 x) → is_nan x ≡ false → to_bits binary64 (absolute x) ≤ endless
pattern_most x f n =
    let b = to_bits binary64 x % 0x8000_0000_0000_0000 in
    let e : b ≡ to_bits binary64 (absolute x) = sign_cleared x f n in
    let l : b < 0x8000_0000_0000_0000 = omega arith in
    let c : ltb endless (b % 0x8000_0000_0000_0000) ≡ false = sym (nan_bits_above binary64 b) ∙ is_false (nan_bits binary64 b)
    (cleared_is_number x f n) in
    let k : b % 0x8000_0000_0000_0000 ≤ endless = ltb-false endless (b % 0x8000_0000_0000_0000) c in
    omega arith

pub absolute_finite : (x : Float) → is_finite (absolute x) ≡ is_finite x
unfolding absolute is_finite
absolute_finite nan = refl
absolute_finite (inf s) = refl
absolute_finite (fin s m e) = refl

pub pattern_finite : (x : Float) → T (fits binary64 x) → is_finite x ≡ true → to_bits binary64 (absolute x) < endless
pattern_finite x f h = go (eq-or-lt_of_le (pattern_most x f (finite_number x h)))
  where
    go : (to_bits binary64 (absolute x) ≡ endless) ⊎ (to_bits binary64 (absolute x) < endless) → to_bits binary64 (absolute x) < endless
    go (inr l) = l
    go (inl e) =
        absurd (false≢true
        (unfold is_finite in (ap is_finite (sym (sym (own_pattern x f) ∙ ap (of_bits binary64) e ∙ endless_is)) ∙ absolute_finite x ∙ h)))
