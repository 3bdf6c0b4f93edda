-- The root of a float whose value is N * 4 ^ k in units of 2 ^ -2148, N having 105 or 106 digits: by the whole number r nearest to N's
-- root, `root_of` is r * 2 ^ k
-- units of 2 ^ -1074, whose bit pattern is k * 2 ^ 52 + r. Assumes nothing.
use Rattle.std.proofs.Common.{◌≡◌, ℕ, zero, suc, ◌+◌, ◌-◌, ◌*◌, ◌/◌, ◌%◌, ◌^◌, ◌<◌, ◌≤◌, Bool, true, false, cond, not, T, ℤ, sym, refl, ap}
use Rattle.std.proofs.Common.{◌∙◌, subst, true≢false, le_trans, le_of_eq, lt_of_lt_of_le, le_of_lt, lt_irrefl, mul-le-mul_right, mul_assoc}
use Rattle.std.proofs.Common.{suc-mul, mul_comm, mul-le-mul, mul-le-mul_left, mul-lt-mul_of_pos_right, mul-pos, lt_of_not-le, zero-add}
use Rattle.std.proofs.Common.{zero-mul, not-le_of_lt, mul-div_cancel, arith, lit≤, pow_pos, pow_mono, pow-add, shl_lt, le-ltb, lt-ltb}
use Prim.Native.Nat.{compare}
use native.Mathlib.Nat.{mod-le}
use lib.Ieee.{Float, nan, inf, fin, binary64, up, down, size, nearest, odd, units, fits, of_bits, nan_bits, to_bits}
use lib.Ieee.Digits.{size-lt, size-le}
use lib.Ieee.Fits.{down_pos, odd-fits}
use lib.Ieee.Exact.{HasValue, odd_sign}
use lib.Ieee.Bits.{of_bits-to_bits, nan_bits_above}
use Rattle.arithmetic.specs.Root.{whole_root, root_round, root_of, NearestRoot}
use Rattle.arithmetic.proofs.RootWhole.{nearest_kept}

-- ---- the digits of N * 4 ^ k
pub size_above : (n j : ℕ) → 2 ^ j ≤ n → j < size n
size_above n j h = lt_of_not-le (λ (g : size n ≤ j). not-le_of_lt (lt_of_lt_of_le (size-lt n) (pow_mono g)) h)

pow_twice : (a k : ℕ) → 2 ^ (a + (k + k)) ≡ 2 ^ a * (2 ^ k * 2 ^ k)
pow_twice a k = pow-add 2 a (k + k) ∙ ap (λ (z : ℕ). 2 ^ a * z) (pow-add 2 k k)

half_digits : (z k : ℕ) → 104 + (k + k) < z → z ≤ 106 + (k + k) → (z + 1) / 2 - 53 ≡ k
half_digits z k a b = omega arith

dropped : (n k : ℕ) → 2 ^ 104 ≤ n → n < 2 ^ 106 → (size (n * (2 ^ k * 2 ^ k)) + 1) / 2 - 53 ≡ k
dropped n k lo hi =
    let p = 2 ^ k * 2 ^ k in
    let P : 0 < p = mul-pos (pow_pos k) (pow_pos k) in
    half_digits (size (n * p)) k
    (size_above (n * p) (104 + (k + k)) (le_trans (le_of_eq (pow_twice 104 k)) (mul-le-mul_right p lo)))
    (size-le (n * p) (106 + (k + k)) (lt_of_lt_of_le (mul-lt-mul_of_pos_right hi P) (le_of_eq (sym (pow_twice 106 k)))))

-- ---- `root_round`, from its n and its k on
abbrev core : ℕ → ℕ → ℕ → Float
core n den k =
    let u = den * (2 ^ k * 2 ^ k) in
    units binary64 false (nearest (whole_root (n / u)) (compare (n * 4) ((2 * whole_root (n / u) + 1) * (2 * whole_root (n / u) + 1) * u)))
    k

root_round_is : (num den : ℕ) → root_round binary64 num den ≡ core (num * 2 ^ 2148) den ((size (num * 2 ^ 2148 / den) + 1) / 2 - 53)
unfolding root_round
root_round_is num den = refl

core_is : (n den k r : ℕ) → 0 < n → 0 < den → NearestRoot n r → core (n * (den * (2 ^ k * 2 ^ k))) den k ≡ units binary64 false r k
core_is n den k r N D p =
    let u = den * (2 ^ k * 2 ^ k) in
    let U : 0 < u = mul-pos D (mul-pos (pow_pos k) (pow_pos k)) in
    ap (λ (z : ℕ). units binary64 false (nearest (whole_root z) (compare (n * u * 4) ((2 * whole_root z + 1) * (2 * whole_root z + 1) * u)))
    k)
    (mul-div_cancel n U)
    ∙ ap (λ (z : ℕ). units binary64 false z k) (nearest_kept n u r N U p)

root_round_scaled : (num den n k r : ℕ) → 0 < den → num * 2 ^ 2148 ≡ n * (2 ^ k * 2 ^ k) * den → 2 ^ 104 ≤ n → n < 2 ^ 106 → NearestRoot n r
    → root_round binary64 num den ≡ units binary64 false r k
root_round_scaled num den n k r D e lo hi p =
    let P = 2 ^ k * 2 ^ k in
    let q : num * 2 ^ 2148 / den ≡ n * P = ap (λ (z : ℕ). z / den) e ∙ mul-div_cancel (n * P) D in
    root_round_is num den
    ∙ ap (λ (z : ℕ). core (num * 2 ^ 2148) den ((size z + 1) / 2 - 53)) q
    ∙ ap (λ (z : ℕ). core (num * 2 ^ 2148) den z) (dropped n k lo hi)
    ∙ ap (λ (z : ℕ). core z den k) (e ∙ mul_assoc n P den ∙ ap (λ (z : ℕ). n * z) (mul_comm P den))
    ∙ core_is n den k r (positive lo) D p
  where
    positive : 2 ^ 104 ≤ n → 0 < n
    positive h = omega arith

no_zero : (e : ℤ) (a : ℕ) → 0 < a → zero * up e * 2 ^ 2148 ≡ a * down e → ⊥
no_zero e a A h = lt_irrefl 0 (subst (λ (z : ℕ). 0 < z) (sym h ∙ ap (λ (z : ℕ). z * 2 ^ 2148) (zero-mul (up e)) ∙ zero-mul (2 ^ 2148))
    (mul-pos A (down_pos e)))

pub root_of_scaled : (x : Float) (n k r : ℕ) → HasValue x false (n * (2 ^ k * 2 ^ k)) (2 ^ 2148) → 2 ^ 104 ≤ n → n < 2 ^ 106 → NearestRoot n
    r → root_of x ≡ units binary64 false r k
unfolding root_of
root_of_scaled nan n k r v lo hi p = absurd v
root_of_scaled (inf s) n k r v lo hi p = absurd v
root_of_scaled (fin true m e) n k r v lo hi p = absurd (true≢false v.0)
root_of_scaled (fin false zero e) n k r v lo hi p = absurd
    (no_zero e (n * (2 ^ k * 2 ^ k)) (mul-pos (above_zero lo) (mul-pos (pow_pos k) (pow_pos k))) v.1)
  where
    above_zero : 2 ^ 104 ≤ n → 0 < n
    above_zero h = omega arith
root_of_scaled (fin false (suc m) e) n k r v lo hi p = root_round_scaled (suc m * up e) (down e) n k r (down_pos e) v.1 lo hi p

-- ---- the pattern of r * 2 ^ k units, for an r of 53 digits
room : (k : ℕ) → k ≤ 1533 → 53 + k ≤ 2098
room k h = omega arith

pub under_top : (r k : ℕ) → r < 2 ^ 53 → k ≤ 1533 → r * 2 ^ k < 2 ^ 2098
under_top r k h l = lt_of_lt_of_le (shl_lt 53 k h) (pow_mono (room k l))

pub units_odd : (r k : ℕ) → r * 2 ^ k < 2 ^ 2098 → units binary64 false r k ≡ odd 54 false r k 1074
unfolding units
units_odd r k h = ap (λ (b : Bool). cond b (odd 54 false r k 1074) (inf false)) (lt-ltb (r * 2 ^ k) (2 ^ 2098) h)

pub digits : (z k : ℕ) → 52 + k < z → z ≤ 53 + k → z - 53 ≡ k
digits z k a b = omega arith

size_shifted : (r k : ℕ) → 2 ^ 52 ≤ r → r < 2 ^ 53 → size (r * 2 ^ k) - 53 ≡ k
size_shifted r k lo hi =
    digits (size (r * 2 ^ k)) k
    (size_above (r * 2 ^ k) (52 + k) (le_trans (le_of_eq (pow-add 2 52 k)) (mul-le-mul_right (2 ^ k) lo)))
    (size-le (r * 2 ^ k) (53 + k) (shl_lt 53 k hi))

to_bits_value : (x : Float) (a : ℕ) → HasValue x false a (2 ^ 1074) → to_bits binary64 x ≡ 0 + (size a - 53) * 2 ^ 52
    + a / 2 ^ (size a - 53)
unfolding to_bits
to_bits_value nan a v = absurd v
to_bits_value (inf s) a v = absurd v
to_bits_value (fin true m e) a v = absurd (true≢false v.0)
to_bits_value (fin false m e) a v =
    ap (λ (z : ℕ). 0 + (size z - 53) * 2 ^ 52 + z / 2 ^ (size z - 53)) (ap (λ (z : ℕ). z / down e) v.1 ∙ mul-div_cancel a (down_pos e))

pub units_pattern : (r k : ℕ) → 2 ^ 52 ≤ r → r < 2 ^ 53 → k ≤ 1533 → units binary64 false r k ≡ of_bits binary64 (k * 2 ^ 52 + r)
units_pattern r k lo hi l =
    let top = under_top r k hi l in
    let v : HasValue (odd 54 false r k 1074) false (r * 2 ^ k) (2 ^ 1074) = odd_sign 54 false r k 1074 in
    let f : T (fits binary64 (odd 54 false r k 1074)) = odd-fits binary64 54 false r k (lt_of_lt_of_le hi (lit≤ tt)) (below hi) top in
    let b : to_bits binary64 (odd 54 false r k 1074) ≡ k * 2 ^ 52 + r =
    to_bits_value (odd 54 false r k 1074) (r * 2 ^ k) v
    ∙ ap (λ (z : ℕ). 0 + z * 2 ^ 52 + r * 2 ^ k / 2 ^ z) (size_shifted r k lo hi)
    ∙ ap (λ (z : ℕ). 0 + k * 2 ^ 52 + z) (mul-div_cancel r (pow_pos k))
    ∙ ap (λ (z : ℕ). z + r) (zero-add (k * 2 ^ 52)) in
    units_odd r k top ∙ sym (of_bits-to_bits binary64 (odd 54 false r k 1074) f) ∙ ap (of_bits binary64) b
  where
    below : r < 2 ^ 53 → r ≤ 2 ^ 53
    below h = omega arith

-- ---- the root nearest to a number of 105 or 106 digits has 53
pub root_digits_lem : (n r : ℕ) → 2 ^ 104 ≤ n → n ≤ 2 ^ 106 - 2 ^ 53 → NearestRoot n r → (2 ^ 52 ≤ r) × (r < 2 ^ 53)
root_digits_lem n r lo hi p = (lt_of_not-le low, lt_of_not-le high)
  where
    low : r ≤ 2 ^ 52 - 1 → ⊥
    low h =
        let s : r * r ≤ (2 ^ 52 - 1) * (2 ^ 52 - 1) = mul-le-mul h h in
        omega (arith, p.below)

    clash : (c q t s : ℕ) → c ≤ q → t ≡ q + r → t ≤ s → s < n + r → n ≤ c → ⊥
    clash c q t s a b d e f = omega arith

    high : 2 ^ 53 ≤ r → ⊥
    high h = clash (2 ^ 106 - 2 ^ 53) ((2 ^ 53 - 1) * r) (2 ^ 53 * r) (r * r) (mul-le-mul_left (2 ^ 53 - 1) h) (suc-mul (2 ^ 53 - 1) r)
        (mul-le-mul_right r h) p.above hi

-- ---- what `scaled_root` puts together
pub no_nan : (n : ℕ) → n < 2047 * 2 ^ 52 → T (not (nan_bits binary64 n))
no_nan n h = subst (λ (b : Bool). T (not b)) (sym (nan_bits_above binary64 n ∙ le-ltb (2047 * 2 ^ 52) (n % 2 ^ 63) (le_trans (mod-le n (2 ^
    63)) (le_of_lt h)))) tt

pub record Assembled (m k r : ℕ) : Type 0 where
  pub small : k * 2 ^ 52 + r < 2047 * 2 ^ 52
  pub number : T (not (nan_bits binary64 (k * 2 ^ 52 + r)))
  pub is : (x : Float) → HasValue x false (m * 2 ^ 52 * (2 ^ k * 2 ^ k)) (2 ^ 2148) → of_bits binary64 (k * 2 ^ 52 + r) ≡ root_of x

pub assembled : (m k r : ℕ) → 2 ^ 52 ≤ m → m ≤ 2 ^ 54 - 2 → k ≤ 1533 → NearestRoot (m * 2 ^ 52) r → Assembled m k r
assembled m k r lo hi l p =
    let d = root_digits_lem (m * 2 ^ 52) r (omega arith) (omega arith) p in
    let s : k * 2 ^ 52 + r < 2047 * 2 ^ 52 = fit d.1 in
    record {
      small = s;
      number = no_nan (k * 2 ^ 52 + r) s;
      is = λ x v. sym
          (root_of_scaled x (m * 2 ^ 52) k r v (omega arith) (omega arith) p ∙ units_pattern r k d.0 d.1 l);
    }
  where
    fit : r < 2 ^ 53 → k * 2 ^ 52 + r < 2047 * 2 ^ 52
    fit h = omega arith
