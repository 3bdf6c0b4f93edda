-- A float that is at most another is read on the grid as a number that is at most the other's, and lies below the number after its own.
-- Assumes nothing.
use Prim.Native.Nat.{ℕ, suc, ◌+◌, ◌*◌, ◌^◌, ◌≤◌, ◌<◌}
use mathlib.Core.Path.{◌≡◌, refl, sym, ap, ◌∙◌, subst}
use mathlib.Core.Bool.{Bool, true, false, false≢true}
use native.Mathlib.Nat.{le_trans, le_of_lt, lt_of_le_of_lt, mul_assoc, mul-le-mul_right, le_of_mul-le-mul_right}
use native.Mathlib.Omega.{arith}
use lib.Dec.{lit<, lit≤}
use lib.IntN.{pos, neg_ℤ, nat_abs}
use lib.Signed.{le_z}
use lib.Ieee.{Float, nan, inf, fin, binary64, up, down, le, lt, eq, round, below}
use lib.Ieee.Fits.{down_pos}
use lib.Ieee.Exact.{HasValue, round_exact}
use lib.Ieee.Nearest.{closest, closest_mono}
use borrow.Author.Tests.{lt-ltb}
use Rattle.arithmetic.specs.Basic.{is_finite, absolute}
use Rattle.arithmetic.proofs.SignedOrder.{plus, less}
use Rattle.arithmetic.proofs.SumOrder.{le_parts}
use Rattle.arithmetic.proofs.ValueOrder.{lt_values}
use Rattle.arithmetic.proofs.RoundingError.{closest_near}
use Rattle.wide_integers.proofs.Integers.{neg_pp, neg_np}
use Rattle.wide_integers.proofs.Polynomials.{own}
use Rattle.wide_integers.proofs.Order.{le_rep}
use Rattle.exact_triangle.specs.Grid.{units, signed, nearest_to, within, furthest, longest}
use Rattle.exact_triangle.proofs.Touching.{furthest_is, longest_is, signed_size, bounded}

-- ---- the order
nothing_read : (a d k : ℕ) → 0 < d → a ≤ 0 → closest (a * k) d ≤ 0
nothing_read a d k p h =
    let m : a * k ≤ 0 * k = mul-le-mul_right k h in closest_mono (a * k) d 0 1 p (lit< tt) (omega (arith, m))

no_more : (a b d e : ℕ) → 0 < e → a * e + b * d ≤ 0 → a ≤ 0
no_more a b d e q h = le_of_mul-le-mul_right (omega (arith, h)) q

-- ±a / d is at most ±b / e
signed_mono : (s t : Bool) (k a d b e : ℕ) → 0 < d → 0 < e → plus s a * e + less t b * d ≤ plus t b * d + less s a * e
    → le_z (signed s (closest (a * k) d)) (signed t (closest (b * k) e)) ≡ true
signed_mono false false k a d b e p q h =
    let m : a * e * k ≤ b * d * k = mul-le-mul_right k (omega (arith, h)) in
    let n = closest_mono (a * k) d (b * k) e p q (omega (arith, m)) in
    le_rep (own (pos (closest (a * k) d))) (own (pos (closest (b * k) e))) (omega (arith, n))
signed_mono true true k a d b e p q h =
    let m : b * d * k ≤ a * e * k = mul-le-mul_right k (omega (arith, h)) in
    let n = closest_mono (b * k) e (a * k) d q p (omega (arith, m)) in
    let x = pos (closest (a * k) d) in
    let y = pos (closest (b * k) e) in
    le_rep (own (neg_ℤ x)) (own (neg_ℤ y)) (omega (arith, n, neg_pp x, neg_np x, neg_pp y, neg_np y))
signed_mono true false k a d b e p q h =
    let x = pos (closest (a * k) d) in
    le_rep (own (neg_ℤ x)) (own (pos (closest (b * k) e))) (omega (arith, neg_pp x, neg_np x))
signed_mono false true k a d b e p q h =
    let u = nothing_read a d k p (no_more a b d e q (omega (arith, h))) in
    let v = nothing_read b e k q (no_more b a e d p (omega (arith, h))) in
    let y = pos (closest (b * k) e) in
    le_rep (own (pos (closest (a * k) d))) (own (neg_ℤ y)) (omega (arith, u, v, neg_pp y, neg_np y))

pub read_mono : (k : ℕ) (x y : Float) → is_finite x ≡ true → is_finite y ≡ true → le x y ≡ true → le_z (nearest_to k x) (nearest_to k y)
    ≡ true
unfolding nearest_to is_finite
read_mono k nan y p q h = absurd (false≢true p)
read_mono k (inf s) y p q h = absurd (false≢true p)
read_mono k (fin s m e) nan p q h = absurd (false≢true q)
read_mono k (fin s m e) (inf t) p q h = absurd (false≢true q)
read_mono k (fin s m e) (fin t n d) p q h =
    signed_mono s t k (m * up e) (down e) (n * up d) (down d) (down_pos e) (down_pos d) (le_parts (fin s m e) (fin t n d) p q h)

-- ---- what is within a bound
-- a whole power of two
module _ (e : ℕ) where
  abbrev bound : Float
  bound = fin false 1 (pos e)

  size_finite : (x : Float) → le (absolute x) bound ≡ true → is_finite x ≡ true
  unfolding absolute is_finite
  size_finite nan h = unfold le lt eq in absurd (false≢true h)
  size_finite (inf s) h = unfold le lt eq in absurd (false≢true h)
  size_finite (fin s m c) h = refl

pub within_finite : (x : Float) → within furthest x ≡ true → is_finite x ≡ true
within_finite x h = size_finite 13 x (ap (le (absolute x)) (sym furthest_is) ∙ h)

-- ---- below the next number
value_of : (n : ℕ) → n < 2 ^ 53 → HasValue (round binary64 false n units) false n units
value_of n l =
    let room : n * 2 ^ 1059 ≤ 2 ^ 53 * 2 ^ 1059 = mul-le-mul_right (2 ^ 1059) (le_of_lt l) in
    round_exact binary64 false n units n 1059 (lit< tt) l (lt_of_le_of_lt room (lit< tt)) (sym (mul_assoc n (2 ^ 1059) units))

next_above : (s : Bool) (a d q : ℕ) → 0 < d → 2 * (a * units) ≤ 2 * (q * d) + d → below s (a * units) false (suc q * d) ≡ true
next_above false a d q p h = lt-ltb (a * units) (suc q * d) (omega (arith, h, p))
next_above true a d q p h = lt-ltb 0 (a * units + suc q * d) (omega (arith, p))

read_below_in : (x : Float) → le (absolute x) (fin false 1 (pos 15)) ≡ true
    → lt x (round binary64 false (suc (nat_abs (nearest_to units x))) units) ≡ true
unfolding nearest_to absolute
read_below_in nan h = unfold le lt eq in absurd (false≢true h)
read_below_in (inf s) h = unfold le lt eq in absurd (false≢true h)
read_below_in (fin s m e) h =
    let a = m * up e in
    let d = down e in
    let q = closest (a * units) d in
    let near = closest_near (a * units) d (down_pos e) in
    let p = le_parts (fin false m e) (fin false 1 (pos 15)) (unfold is_finite in refl) (unfold is_finite in refl) h in
    let small : q ≤ 2 ^ 15 * units = bounded a d q units (2 ^ 15) (down_pos e) near.0 (omega (arith, p)) in
    let room : suc q < 2 ^ 53 = le_trans (omega (arith, small)) (lit≤ {m = 1073741826} {n = 2 ^ 53} tt) in
    subst (λ (n : ℕ). lt (fin s m e) (round binary64 false (suc n) units) ≡ true) (sym (signed_size s q))
    (lt_values (fin s m e) (round binary64 false (suc q) units) s false a d (suc q) units (down_pos e) (lit< tt) (refl, refl)
    (value_of (suc q) room)
    ∙ next_above s a d q (down_pos e) near.1)

pub read_below : (x : Float) → within longest x ≡ true → lt x (round binary64 false (suc (nat_abs (nearest_to units x))) units) ≡ true
read_below x h = read_below_in x (ap (le (absolute x)) (sym longest_is) ∙ h)
