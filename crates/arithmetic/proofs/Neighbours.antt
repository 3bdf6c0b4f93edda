-- Floats that are not negative as whole numbers of 2 ^ -1074 units, and the gaps between them: no float lies between two neighbours.
-- Assumes nothing.
use Rattle.std.proofs.Common.{◌≡◌, ℕ, zero, suc, ◌+◌, ◌-◌, ◌*◌, ◌%◌, ◌^◌, ◌<◌, ◌≤◌, Bool, true, false, ◌&&◌, T, eqb, ltb, leb, ℤ, pos}
use Rattle.std.proofs.Common.{negsuc, sym, refl, ap, ◌∙◌, subst, true≢false, le_trans, le_of_eq, lt_of_lt_of_le, le_of_suc-le-suc, le_of_lt}
use Rattle.std.proofs.Common.{lt_irrefl, mul-le-mul_right, mul_assoc, mul_comm, lt_of_mul-lt-mul_right, mul-lt-mul_of_pos_right}
use Rattle.std.proofs.Common.{lt_of_not-le, zero-mul, mul-one, mul_right_comm, not-le_of_lt, arith, ltb→lt, leb→le, pow_pos, pow_mono}
use Rattle.std.proofs.Common.{pow-add, leb-false, leb-true}
use lib.Pow.{pow-lt}
use lib.Ieee.{Float, nan, inf, fin, binary64, up, down, fits, lt, le}
use lib.Ieee.Digits.{back}
use lib.Ieee.Fits.{down_pos, and_l, and_r}
use lib.Ieee.Exact.{HasValue}
use lib.Ieee.Order.{le_of_values}

-- finite, with a clear sign
abbrev pub unsigned : Float → Bool
unsigned nan = false
unsigned (inf s) = false
unsigned (fin true m e) = false
unsigned (fin false m e) = true

-- ---- a float in units of 2 ^ -1074 is n * 2 ^ c with an n of 53 digits
pow_le_back : (a l : ℕ) → 2 ^ a ≤ 2 ^ l → a ≤ l
pow_le_back a l h = le_of_suc-le-suc (lt_of_not-le (λ (g : suc l ≤ a). lt_irrefl (2 ^ l) (lt_of_lt_of_le (pow-lt g) h)))

abbrev pub Units : Float → Type 0
Units y = (n : ℕ) × (c : ℕ) × (n < 2 ^ 53) × HasValue y false (n * 2 ^ c) (2 ^ 1074)

units_at : (n : ℕ) (d : ℤ) → n < 2 ^ 53 → down d ≤ 2 ^ 1074 → Units (fin false n d)
units_at n (pos a) h l = (
  n,
  a + 1074,
  h,
  (
    refl,
    mul_assoc n (2 ^ a) (2 ^ 1074) ∙ ap (λ (z : ℕ). n * z) (sym (pow-add 2 a 1074)) ∙ sym
        (mul-one (n * 2 ^ (a + 1074))),
  ),
)
units_at n (negsuc a) h l =
    let g : suc a ≤ 1074 = pow_le_back (suc a) 1074 l in (
      n,
      1074 - suc a,
      h,
      (
        refl,
        ap (λ (z : ℕ). z * 2 ^ 1074) (mul-one n)
            ∙ ap (λ (z : ℕ). n * z) (ap (λ (z : ℕ). 2 ^ z) (sym (back 1074 (suc a) g)) ∙ pow-add 2 (1074 - suc a) (suc a))
            ∙ sym (mul_assoc n (2 ^ (1074 - suc a)) (2 ^ suc a)),
      ),
    )

pub units_of : (y : Float) → T (unsigned y) → T (fits binary64 y) → Units y
unfolding fits
units_of nan u f = absurd u
units_of (inf s) u f = absurd u
units_of (fin true m e) u f = absurd u
units_of (fin false zero e) u f = (
  0,
  0,
  pow_pos 53,
  (
    refl,
    ap (λ (z : ℕ). z * 2 ^ 1074) (zero-mul (up e)) ∙ zero-mul (2 ^ 1074) ∙ sym
        (zero-mul (down e)),
  ),
)
units_of (fin false (suc m) e) u f =
    let A = eqb (suc m % 2) 1 in
    let B = ltb (suc m) (2 ^ 53) in
    let C = leb (down e) (2 ^ 1074) in
    let D = ltb (suc m * up e) (2 ^ 1024 * down e) in
    units_at (suc m) e (ltb→lt (suc m) (2 ^ 53) (and_r A B (and_l (A && B) C (and_l (A && B && C) D f))))
    (leb→le (down e) (2 ^ 1074) (and_r (A && B) C (and_l (A && B && C) D f)))

-- ---- the order of two floats in units
less_units : (a b d e R Y u : ℕ) → 0 < d → 0 < e → 0 < u → a * u ≡ R * d → b * u ≡ Y * e → a * e < b * d → R < Y
less_units a b d e R Y u D E U p q h =
    let l : a * e * u ≡ R * (d * e) = mul_right_comm a e u ∙ ap (λ (z : ℕ). z * e) p ∙ mul_assoc R d e in
    let r : b * d * u ≡ Y * (d * e) = mul_right_comm b d u ∙ ap (λ (z : ℕ). z * d) q ∙ mul_assoc Y e d ∙ ap (λ (z : ℕ). Y * z)
    (mul_comm e d) in
    lt_of_mul-lt-mul_right (d * e) (subst (λ (z : ℕ). z < Y * (d * e)) l (subst (λ (z : ℕ). a * e * u < z) r (mul-lt-mul_of_pos_right h U)))

pub lt_units : (x y : Float) (R Y : ℕ) → HasValue x false R (2 ^ 1074) → HasValue y false Y (2 ^ 1074) → T (lt x y) → R < Y
unfolding lt
lt_units nan y R Y v w h = absurd v
lt_units (inf s) y R Y v w h = absurd v
lt_units (fin true m e) y R Y v w h = absurd (true≢false v.0)
lt_units (fin false m e) nan R Y v w h = absurd w
lt_units (fin false m e) (inf t) R Y v w h = absurd w
lt_units (fin false m e) (fin true n d) R Y v w h = absurd (true≢false w.0)
lt_units (fin false m e) (fin false n d) R Y v w h =
    less_units (m * up e) (n * up d) (down e) (down d) R Y (2 ^ 1074) (down_pos e) (down_pos d) (pow_pos 1074) v.1 w.1
    (ltb→lt (m * up e * down d) (n * up d * down e) h)

-- ---- beside r * 2 ^ k, with an r of 53 digits, the next floats are 2 ^ k away or more; below 2 ^ 52 * 2 ^ k they may be nearer
finer_below : (n c k : ℕ) → n < 2 ^ 53 → c < k → n * 2 ^ c < 2 ^ 52 * 2 ^ k
finer_below n c k h l =
    lt_of_lt_of_le (mul-lt-mul_of_pos_right h (pow_pos c))
    (le_trans (le_of_eq (sym (pow-add 2 53 c))) (le_trans (pow_mono (more l)) (le_of_eq (pow-add 2 52 k))))
  where
    more : c < k → 53 + c ≤ 52 + k
    more l = omega arith

coarser : (n c k : ℕ) → k ≤ c → n * 2 ^ c ≡ n * 2 ^ (c - k) * 2 ^ k
coarser n c k h = ap (λ (z : ℕ). n * z) (ap (λ (z : ℕ). 2 ^ z) (sym (back c k h)) ∙ pow-add 2 (c - k) k) ∙ sym
    (mul_assoc n (2 ^ (c - k)) (2 ^ k))

pub next_up : (r k n c : ℕ) → 2 ^ 52 ≤ r → n < 2 ^ 53 → r * 2 ^ k < n * 2 ^ c → suc r * 2 ^ k ≤ n * 2 ^ c
next_up r k n c R N h = go (leb k c) (leb-true k c) (leb-false k c)
  where
    go : (b : Bool) → (b ≡ true → k ≤ c) → (b ≡ false → c < k) → suc r * 2 ^ k ≤ n * 2 ^ c
    go true p q =
        let e = coarser n c k (p refl) in
        le_trans (mul-le-mul_right (2 ^ k) (lt_of_mul-lt-mul_right (2 ^ k) (subst (λ (z : ℕ). r * 2 ^ k < z) e h))) (le_of_eq (sym e))
    go false p q = absurd (not-le_of_lt h (le_of_lt (lt_of_lt_of_le (finer_below n c k N (q refl)) (mul-le-mul_right (2 ^ k) R))))

pub next_down : (r k n c : ℕ) → 2 ^ 52 ≤ r → n < 2 ^ 53 → n * 2 ^ c < suc r * 2 ^ k → n * 2 ^ c ≤ r * 2 ^ k
next_down r k n c R N h = go (leb k c) (leb-true k c) (leb-false k c)
  where
    go : (b : Bool) → (b ≡ true → k ≤ c) → (b ≡ false → c < k) → n * 2 ^ c ≤ r * 2 ^ k
    go true p q =
        let e = coarser n c k (p refl) in
        le_trans (le_of_eq e) (mul-le-mul_right (2 ^ k) (le_of_suc-le-suc (lt_of_mul-lt-mul_right (2 ^ k) (subst (λ (z : ℕ). z < suc r * 2 ^
        k) e h))))
    go false p q = le_of_lt (lt_of_lt_of_le (finer_below n c k N (q refl)) (mul-le-mul_right (2 ^ k) R))

-- ---- x and y are neighbours: r * 2 ^ k and (r + 1) * 2 ^ k units, with an r of 53 digits
pub record Neighbours (x y : Float) (r k : ℕ) : Type 0 where
  pub digits : 2 ^ 52 ≤ r
  pub lower : HasValue x false (r * 2 ^ k) (2 ^ 1074)
  pub upper : HasValue y false (suc r * 2 ^ k) (2 ^ 1074)

module _ (x y z : Float) (r k : ℕ) (n : Neighbours x y r k) (u : T (unsigned z)) (f : T (fits binary64 z)) where
  pub below_upper : T (lt z y) → T (le z x)
  below_upper h =
      let w = units_of z u f in
      le_of_values z x (w.0 * 2 ^ w.1) (2 ^ 1074) (r * 2 ^ k) (2 ^ 1074) (pow_pos 1074) (pow_pos 1074) w.3 n.lower
      (mul-le-mul_right (2 ^ 1074) (next_down r k w.0 w.1 n.digits w.2 (lt_units z y (w.0 * 2 ^ w.1) (suc r * 2 ^ k) w.3 n.upper h)))

  pub above_lower : T (lt x z) → T (le y z)
  above_lower h =
      let w = units_of z u f in
      le_of_values y z (suc r * 2 ^ k) (2 ^ 1074) (w.0 * 2 ^ w.1) (2 ^ 1074) (pow_pos 1074) (pow_pos 1074) n.upper w.3
      (mul-le-mul_right (2 ^ 1074) (next_up r k w.0 w.1 n.digits w.2 (lt_units x z (r * 2 ^ k) (w.0 * 2 ^ w.1) n.lower w.3 h)))
