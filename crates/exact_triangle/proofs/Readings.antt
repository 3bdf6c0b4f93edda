-- What is a whole number of millimetres is read on the grid without error. Assumes nothing.
use Rattle.std.proofs.Common.{◌≡◌, ℕ, suc, ◌+◌, ◌*◌, ◌<◌, ◌≤◌, Bool, true, false, ℤ, pos, negsuc, ◌-ℤ◌, ◌*ℤ◌, neg_ℤ, nat_abs, sym, ap, ◌∙◌}
use Rattle.std.proofs.Common.{zero-lt-suc, lt_of_mul-lt-mul_right, mul-pos, arith}
use mathlib.Core.Bool.{false≢true}
use lib.Ieee.{Float, nan, inf, fin, up, down}
use lib.Ieee.Fits.{down_pos}
use lib.Ieee.Nearest.{closest}
use Rattle.arithmetic.specs.Basic.{is_finite}
use Rattle.arithmetic.proofs.SignedOrder.{plus, less}
use Rattle.arithmetic.proofs.RoundingError.{closest_near}
use Rattle.wide_integers.proofs.Integers.{no_factor}
use Rattle.wide_integers.proofs.Polynomials.{Rep, own_pos, rep_neg, rep_sub, rep_mul}
use Rattle.exact_depth.proofs.Standing.{Stands}
use Rattle.exact_triangle.specs.Grid.{signed, nearest_to, HalfFrom}

-- ---- a multiple is its own nearest
closest_exact : (n d : ℕ) → 0 < d → closest (n * d) d ≡ n
closest_exact n d D =
    let q = closest (n * d) d in
    let c = closest_near (n * d) d D in
    let c₀ = c.0 in
    let c₁ = c.1 in
    let u : (2 * q) * d < (2 * n + 2) * d = omega (arith, c₀, D) in
    let v : (2 * n) * d < (2 * q + 2) * d = omega (arith, c₁, D) in
    let u' = lt_of_mul-lt-mul_right d u in
    let v' = lt_of_mul-lt-mul_right d v in
    omega (arith, u', v')

closest_times : (a d n k : ℕ) → 0 < d → a ≡ n * d → closest (a * k) d ≡ k * n
closest_times a d n k D h =
    let e : a * k ≡ k * n * d = ap (λ (z : ℕ). z * k) h ∙ regroup n d k in
    ap (λ (z : ℕ). closest z d) e ∙ closest_exact (k * n) d D
  where
    regroup : (n d k : ℕ) → n * d * k ≡ k * n * d
    regroup n d k = omega arith

-- x is the whole number z, so k x is read as k z
pub reads : (k : ℕ) (x : Float) (z : ℤ) → Stands x z → nearest_to k x ≡ pos k *ℤ z
unfolding nearest_to
reads k nan z v = absurd v
reads k (inf s) z v = absurd v
reads k (fin false m e) (pos n) v = ap pos (closest_times (m * up e) (down e) n k (down_pos e) (omega (arith, v)))
reads k (fin false m e) (negsuc n) v = let d = mul-pos (zero-lt-suc n) (down_pos e) in absurd (omega (arith, v, d))
reads k (fin true m e) (pos n) v =
    let none : n ≡ 0 = no_factor n (down e) (down_pos e) (omega (arith, v)) in
    ap (λ (w : ℕ). neg_ℤ (pos w)) (closest_times (m * up e) (down e) 0 k (down_pos e) (omega (arith, v)))
    ∙ ap (λ (w : ℕ). neg_ℤ (pos w)) (nothing k) ∙ sym (ap pos (ap (λ (w : ℕ). k * w) none ∙ nothing k))
  where
    nothing : (k : ℕ) → k * 0 ≡ 0
    nothing k = omega arith
reads k (fin true m e) (negsuc n) v =
    ap (λ (w : ℕ). neg_ℤ (pos w)) (closest_times (m * up e) (down e) (suc n) k (down_pos e) (omega (arith, v)))

-- ---- any finite float is read as a whole number half a unit away at most
rep_size : (z : ℤ) (p n B : ℕ) → Rep z p n → p ≤ n + B → n ≤ p + B → nat_abs z ≤ B
rep_size (pos k) p n B r h g = let e = r.is in omega (arith, e, h)
rep_size (negsuc k) p n B r h g = let e = r.is in omega (arith, e, g)

-- ±k as a difference
signed_rep : (s : Bool) (k : ℕ) → Rep (signed s k) (plus s k) (less s k)
signed_rep false k = own_pos k
signed_rep true k = rep_neg (own_pos k)

half_parts : (s : Bool) (N d q : ℕ) → 2 * (q * d) ≤ 2 * N + d → 2 * N ≤ 2 * (q * d) + d
    → nat_abs (pos 2 *ℤ (signed s N -ℤ signed s q *ℤ pos d)) ≤ d
half_parts s N d q h g =
    rep_size (pos 2 *ℤ (signed s N -ℤ signed s q *ℤ pos d)) _ _ d
    (rep_mul (own_pos 2) (rep_sub (signed_rep s N) (rep_mul (signed_rep s q) (own_pos d)))) (most s) (least s)
  where
    most : (s : Bool) → 2 * (plus s N + (plus s q * 0 + less s q * d)) + 0 * (less s N + (plus s q * d + less s q * 0))
        ≤ 2 * (less s N + (plus s q * d + less s q * 0)) + 0 * (plus s N + (plus s q * 0 + less s q * d)) + d
    most false = omega (arith, g)
    most true = omega (arith, h)

    least : (s : Bool) → 2 * (less s N + (plus s q * d + less s q * 0)) + 0 * (plus s N + (plus s q * 0 + less s q * d))
        ≤ 2 * (plus s N + (plus s q * 0 + less s q * d)) + 0 * (less s N + (plus s q * d + less s q * 0)) + d
    least false = omega (arith, h)
    least true = omega (arith, g)

pub reads_half : (k : ℕ) (x : Float) → is_finite x ≡ true → HalfFrom k x (nearest_to k x)
unfolding is_finite nearest_to
reads_half k nan h = absurd (false≢true h)
reads_half k (inf s) h = absurd (false≢true h)
reads_half k (fin s m e) h =
    let n = closest_near (m * up e * k) (down e) (down_pos e) in
    half_parts s (m * up e * k) (down e) (closest (m * up e * k) (down e)) n.0 n.1
