-- A fraction in the normal range is rounded with an error of at most 2^-53 of it. Assumes nothing.
use Rattle.std.proofs.Common.{◌≡◌, ℕ, zero, suc, ◌+◌, ◌*◌, ◌/◌, ◌%◌, ◌^◌, ◌<◌, ◌≤◌, Bool, not, T, eqb, sym, ap, ◌∙◌, subst, le_trans}
use Rattle.std.proofs.Common.{le_of_eq, lt_of_le_of_lt, mul-le-mul_right, mod-lt, mul_assoc, mul_comm, mul-pos, div-add-mod'}
use Rattle.std.proofs.Common.{le-div_iff_mul-le, le_of_mul-le-mul_right, arith, lit<, eqb→eq, leb→le, pow_pos, pow-add}
use Prim.Native.Nat.{compare, Ordering}
use lib.Dec.{is_le, compare_is_eq, nleb→lt, eqb_refl}
use lib.Arith.{lt_of_le-ne}
use lib.Ieee.{Float, binary64, size, nearest, round}
use lib.Ieee.Digits.{size_reaches}
use lib.Ieee.Fits.{round_is}
use lib.Ieee.Exact.{HasValue, units_val}
use lib.Ieee.Nearest.{closest}
use lib.Ieee.Order.{drop, kept}
use lib.Ieee.Scale.{grid, normal_of_fraction}
use Rattle.arithmetic.specs.Scaling.{unit}

-- ---- what `compare` says
abbrev pub Cmp : Ordering → ℕ → ℕ → Type 0
Cmp Ordering.lt a b = a < b
Cmp Ordering.eq a b = a ≡ b
Cmp Ordering.gt a b = b < a

pub cmp : (a b : ℕ) → Cmp (compare a b) a b
cmp a b = go (compare a b) (leb→le a b) (nleb→lt a b) (eqb→eq a b) (λ (e : a ≡ b). subst (λ (x : ℕ). T (eqb a x)) e (eqb_refl a))
  where
    go : (o : Ordering) → (T (is_le o) → a ≤ b) → (T (not (is_le o)) → b < a) → (T (compare_is_eq o) → a ≡ b)
        → (a ≡ b → T (compare_is_eq o)) → Cmp o a b
    go Ordering.lt h k e n = lt_of_le-ne (h tt) n
    go Ordering.eq h k e n = e tt
    go Ordering.gt h k e n = k tt

-- ---- the nearest whole number is half a unit away at most
half : (q r b : ℕ) (o : Ordering) → Cmp o (r * 2) b → r < b
    → (2 * (nearest q o * b) ≤ 2 * (q * b + r) + b) × (2 * (q * b + r) ≤ 2 * (nearest q o * b) + b)
half q r b Ordering.lt c h = (omega arith, omega arith)
half q r b Ordering.eq c h = go (q % 2) (omega arith)
  where
    go : (e : ℕ) → e ≤ 1 → (2 * ((q + e) * b) ≤ 2 * (q * b + r) + b) × (2 * (q * b + r) ≤ 2 * ((q + e) * b) + b)
    go zero l = (omega arith, omega arith)
    go (suc zero) l = (omega arith, omega arith)
    go (suc (suc e)) l = absurd (omega arith)
half q r b Ordering.gt c h = (omega arith, omega arith)

pub closest_near : (a b : ℕ) → 0 < b → (2 * (closest a b * b) ≤ 2 * a + b) × (2 * a ≤ 2 * (closest a b * b) + b)
closest_near a b B =
    subst (λ (z : ℕ). (2 * (closest a b * b) ≤ 2 * z + b) × (2 * z ≤ 2 * (closest a b * b) + b)) (div-add-mod' a b)
    (half (a / b) (a % b) b (compare (a % b * 2) b) (cmp (a % b * 2) b) (mod-lt a B))

-- ---- in the normal range a unit of the result is at most 2^-52 of the fraction
fine : (n c : ℕ) → 0 < c → 53 ≤ size (n / c) → 2 ^ 52 * (c * 2 ^ drop 53 n c) ≤ n
fine n c C h =
    let k = drop 53 n c in
    let r : 2 ^ (52 + k) ≤ n / c = size_reaches (n / c) (52 + k) (omega (arith, h)) in
    le_trans
    (le_of_eq
    (ap (λ (z : ℕ). 2 ^ 52 * z) (mul_comm c (2 ^ k)) ∙ sym (mul_assoc (2 ^ 52) (2 ^ k) c) ∙ ap (λ (z : ℕ). z * c) (sym (pow-add 2 52 k))))
    ((le-div_iff_mul-le C).0 r)

-- in units: |g * c - n| ≤ n / 2^53
abbrev pub Close : ℕ → ℕ → ℕ → Type 0
Close g c n = (2 ^ 53 * (g * c) ≤ 2 ^ 53 * n + n) × (2 ^ 53 * n ≤ 2 ^ 53 * (g * c) + n)

grid_close : (n c : ℕ) → 0 < c → 53 ≤ size (n / c) → Close (kept 53 n c * 2 ^ drop 53 n c) c n
grid_close n c C h =
    let k = drop 53 n c in
    let m = closest_near n (c * 2 ^ k) (mul-pos C (pow_pos k)) in
    let f = fine n c C h in
    let e : kept 53 n c * 2 ^ k * c ≡ kept 53 n c * (c * 2 ^ k) =
    mul_assoc (kept 53 n c) (2 ^ k) c ∙ ap (λ (z : ℕ). kept 53 n c * z) (mul_comm (2 ^ k) c) in
    subst (λ (z : ℕ). (2 ^ 53 * z ≤ 2 ^ 53 * n + n) × (2 ^ 53 * n ≤ 2 ^ 53 * z + n)) (sym e)
    (last (kept 53 n c * (c * 2 ^ k)) (c * 2 ^ k) n m.0 m.1 f)
  where
    last : (w u n : ℕ) → 2 * w ≤ 2 * n + u → 2 * n ≤ 2 * w + u → 2 ^ 52 * u ≤ n
        → (2 ^ 53 * w ≤ 2 ^ 53 * n + n) × (2 ^ 53 * n ≤ 2 ^ 53 * w + n)
    last w u n p q r = (omega arith, omega arith)

-- ---- so a fraction from 2^-1022 up to 2^100 is rounded to g units
room : (g c a l z : ℕ) → 0 < c → 2 ^ 53 * (g * c) ≤ 2 ^ 53 * (a * l) + a * l → a ≤ c * z → g ≤ 2 * (z * l)
room g c a l z C h k =
    le_of_mul-le-mul_right (let b : a * l ≤ c * z * l = mul-le-mul_right l k in omega (arith, h, b)) C

pub record Rounded (x : Float) (s : Bool) (a c : ℕ) : Type 0 where
  pub units : ℕ
  pub value : HasValue x s units unit
  pub close : Close units c (a * unit)

pub round_near : (s : Bool) (a c : ℕ) → 0 < c → 2 ^ 52 * c ≤ a * unit → a ≤ c * 2 ^ 100 → Rounded (round binary64 s a c) s a c
unfolding unit
round_near s a c C h k =
    let w = grid_close (a * 2 ^ 1074) c C (normal_of_fraction binary64 a c C h) in
    let g = grid binary64 a c in
    let r : g ≤ 2 * (2 ^ 100 * 2 ^ 1074) = room g c a (2 ^ 1074) (2 ^ 100) C w.0 k in
    record {
      units = g;
      value =
          subst (λ (x : Float). HasValue x s g (2 ^ 1074)) (sym (round_is binary64 s a c))
          (units_val binary64 s (kept 53 (a * 2 ^ 1074) c) (drop 53 (a * 2 ^ 1074) c) (lt_of_le_of_lt r (lit< tt)));
      close = w;
    }
