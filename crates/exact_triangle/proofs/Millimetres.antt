-- A float lies between its grid point's neighbours, and a grid point's float is exact. Assumes nothing.
use Rattle.std.proofs.Common.{◌≡◌, ℕ, suc, ◌+◌, ◌*◌, ◌^◌, ◌<◌, ◌≤◌, Bool, true, false, not, ℤ, pos, negsuc, ◌+ℤ◌, nat_abs, sym, refl, ap}
use Rattle.std.proofs.Common.{◌∙◌, lt_of_le_of_lt, le_of_lt, mul-le-mul_right, mul_assoc, arith, lit<}
use mathlib.Core.Bool.{false≢true}
use lib.Signed.{le_z}
use lib.Ieee.{Float, nan, inf, fin, binary64, up, down, round, le}
use lib.Ieee.Fits.{down_pos}
use lib.Ieee.Exact.{HasValue, round_exact}
use lib.Ieee.Nearest.{closest}
use Rattle.arithmetic.specs.Basic.{is_finite}
use Rattle.arithmetic.proofs.SignedOrder.{plus, less, below_not}
use Rattle.arithmetic.proofs.ValueOrder.{le_values}
use Rattle.arithmetic.proofs.RoundingError.{closest_near}
use Rattle.wide_integers.proofs.Integers.{pp, np, neg_pp, neg_np}
use Rattle.wide_integers.proofs.Polynomials.{own, own_pos, rep_add}
use Rattle.wide_integers.proofs.Order.{rep_le}
use Rattle.exact_triangle.specs.Grid.{units, signed, nearest_to}
use Rattle.exact_triangle.specs.Box.{in_millimetres}

-- ---- z units are exact as a float
pub value_of : (s : Bool) (n : ℕ) → n < 2 ^ 53 → HasValue (round binary64 s n units) s n units
value_of s n l =
    let room : n * 2 ^ 1059 ≤ 2 ^ 53 * 2 ^ 1059 = mul-le-mul_right (2 ^ 1059) (le_of_lt l) in
    round_exact binary64 s n units n 1059 (lit< tt) l (lt_of_le_of_lt room (lit< tt)) (sym (mul_assoc n (2 ^ 1059) units))

-- ---- a float by its grid point
signed_pp : (s : Bool) (q : ℕ) → pp (signed s q) ≡ plus s q
signed_pp false q = refl
signed_pp true q = neg_pp (pos q)

signed_np : (s : Bool) (q : ℕ) → np (signed s q) ≡ less s q
signed_np false q = refl
signed_np true q = neg_np (pos q)

-- ±a / c is at most ±b / d
value_le : (x y : Float) (s t : Bool) (a c b d : ℕ) → 0 < c → 0 < d → HasValue x s a c → HasValue y t b d
    → plus s a * d + less t b * c ≤ plus t b * c + less s a * d → le x y ≡ true
value_le x y s t a c b d C D v w h = le_values x y s t a c b d C D v w ∙ ap not (below_not t b d s a c h)

-- beside the float at z units
abbrev Below : Bool → ℕ → ℕ → ℤ → Type 0
Below s a d z = plus s a * units + np z * d ≤ pp z * d + less s a * units

abbrev Above : Bool → ℕ → ℕ → ℤ → Type 0
Above s a d z = pp z * d + less s a * units ≤ plus s a * units + np z * d

module _ (s : Bool) (m : ℕ) (e : ℤ) where
  at_most_of : (z : ℤ) → nat_abs z < 2 ^ 53 → Below s (m * up e) (down e) z → le (fin s m e) (in_millimetres z) ≡ true
  at_most_of (pos n) l h =
      value_le (fin s m e) (round binary64 false n units) s false (m * up e) (down e) n units (down_pos e) (lit< tt) (refl, refl)
      (value_of false n l) h
  at_most_of (negsuc n) l h =
      value_le (fin s m e) (round binary64 true (suc n) units) s true (m * up e) (down e) (suc n) units (down_pos e) (lit< tt) (refl, refl)
      (value_of true (suc n) l) h

  at_least_of : (z : ℤ) → nat_abs z < 2 ^ 53 → Above s (m * up e) (down e) z → le (in_millimetres z) (fin s m e) ≡ true
  at_least_of (pos n) l h =
      value_le (round binary64 false n units) (fin s m e) false s n units (m * up e) (down e) (lit< tt) (down_pos e) (value_of false n l)
      (refl, refl) h
  at_least_of (negsuc n) l h =
      value_le (round binary64 true (suc n) units) (fin s m e) true s (suc n) units (m * up e) (down e) (lit< tt) (down_pos e)
      (value_of true (suc n) l) (refl, refl) h

-- a is the float's size, N units; q the nearest
half_below : (s : Bool) (a d q p n : ℕ) → 2 * (q * d) ≤ 2 * (a * units) + d → 2 * (a * units) ≤ 2 * (q * d) + d
    → plus s q + 1 + n ≤ p + less s q → plus s a * units + n * d ≤ p * d + less s a * units
half_below false a d q p n l h g =
    let g' : (q + 1 + n) * d ≤ (p + 0) * d = mul-le-mul_right d g in omega (arith, h, g')
half_below true a d q p n l h g =
    let g' : (0 + 1 + n) * d ≤ (p + q) * d = mul-le-mul_right d g in omega (arith, l, g')

half_above : (s : Bool) (a d q p n : ℕ) → 2 * (q * d) ≤ 2 * (a * units) + d → 2 * (a * units) ≤ 2 * (q * d) + d
    → p + 1 + less s q ≤ plus s q + n → p * d + less s a * units ≤ plus s a * units + n * d
half_above false a d q p n l h g =
    let g' : (p + 1 + 0) * d ≤ (q + n) * d = mul-le-mul_right d g in omega (arith, l, g')
half_above true a d q p n l h g =
    let g' : (p + 1 + q) * d ≤ (0 + n) * d = mul-le-mul_right d g in omega (arith, h, g')

-- a float is at most the one at z units, if z is past its grid point
pub at_most : (x : Float) → is_finite x ≡ true → (z : ℤ) → nat_abs z < 2 ^ 53 → le_z (nearest_to units x +ℤ pos 1) z ≡ true
    → le x (in_millimetres z) ≡ true
unfolding is_finite nearest_to
at_most nan i z l h = absurd (false≢true i)
at_most (inf s) i z l h = absurd (false≢true i)
at_most (fin s m e) i z l h =
    let q = closest (m * up e * units) (down e) in
    let c = closest_near (m * up e * units) (down e) (down_pos e) in
    let g = rep_le (rep_add (own (signed s q)) (own_pos 1)) (own z) h in
    let p⁺ = signed_pp s q in
    let p⁻ = signed_np s q in
    at_most_of s m e z l (half_below s (m * up e) (down e) q (pp z) (np z) c.0 c.1 (omega (arith, g, p⁺, p⁻)))

-- .. and at least, if z is before it
pub at_least : (x : Float) → is_finite x ≡ true → (z : ℤ) → nat_abs z < 2 ^ 53 → le_z (z +ℤ pos 1) (nearest_to units x) ≡ true
    → le (in_millimetres z) x ≡ true
unfolding is_finite nearest_to
at_least nan i z l h = absurd (false≢true i)
at_least (inf s) i z l h = absurd (false≢true i)
at_least (fin s m e) i z l h =
    let q = closest (m * up e * units) (down e) in
    let c = closest_near (m * up e * units) (down e) (down_pos e) in
    let g = rep_le (rep_add (own z) (own_pos 1)) (own (signed s q)) h in
    let p⁺ = signed_pp s q in
    let p⁻ = signed_np s q in
    at_least_of s m e z l (half_above s (m * up e) (down e) q (pp z) (np z) c.0 c.1 (omega (arith, g, p⁺, p⁻)))
