-- One number has one float, and a float is its own rounding. Assumes nothing.
use Rattle.std.proofs.Common.{◌≡◌, ℕ, ◌+◌, ◌-◌, ◌*◌, ◌/◌, ◌^◌, ◌<◌, Bool, cond, T, ℤ, sym, refl, ap, ◌∙◌, subst, mul-one, mul_right_comm}
use native.Mathlib.Nat.{eq_of_mul-eq-mul_right}
use lib.Ieee.{Float, nan, inf, fin, binary64, low, size, up, down, fits, to_bits, round}
use lib.Ieee.Exact.{HasValue}
use lib.Ieee.Fits.{down_pos, round-fits}
use lib.Ieee.Nearest.{div_same}
use Rattle.arithmetic.proofs.Exactness.{fits_parts, scaled_exact}
use Rattle.arithmetic.proofs.Numbers.{same_bits}

-- ---- one number has one float
same_pattern : (s : Bool) (m : ℕ) (e : ℤ) (n : ℕ) (d : ℤ) → m * up e * down d ≡ n * up d * down e
    → to_bits binary64 (fin s m e) ≡ to_bits binary64 (fin s n d)
unfolding to_bits
same_pattern s m e n d h =
    let u = 2 ^ low binary64 in
    let g : m * up e * u * down d ≡ n * up d * u * down e = mul_right_comm (m * up e) u (down d) ∙ ap (λ (z : ℕ). z * u) h
    ∙ mul_right_comm (n * up d) (down e) u in
    let same : m * up e * u / down e ≡ n * up d * u / down d = div_same (m * up e * u) (down e) (n * up d * u) (down d) (down_pos e)
    (down_pos d) g in
    ap (λ (z : ℕ). cond s (2 ^ 63) 0 + (size z - 53) * 2 ^ 52 + z / 2 ^ (size z - 53)) same

same_value : (a c x y p q : ℕ) → 0 < c → x * c ≡ a * p → y * c ≡ a * q → x * q ≡ y * p
same_value a c x y p q C h k =
    eq_of_mul-eq-mul_right c C (x * q) (y * p)
    (mul_right_comm x q c ∙ ap (λ (z : ℕ). z * q) h ∙ mul_right_comm a p q ∙ ap (λ (z : ℕ). z * p) (sym k) ∙ mul_right_comm y c p)

pub same_float : (x y : Float) (s : Bool) (a c : ℕ) → 0 < c → T (fits binary64 x) → T (fits binary64 y) → HasValue x s a c
    → HasValue y s a c → x ≡ y
same_float nan y s a c C f g v w = absurd v
same_float (inf t) y s a c C f g v w = absurd v
same_float (fin t m e) nan s a c C f g v w = absurd w
same_float (fin t m e) (inf u) s a c C f g v w = absurd w
same_float (fin t m e) (fin u n d) s a c C f g v w =
    same_bits (fin t m e) (fin u n d) f g
    (same_pattern t m e n d (same_value a c (m * up e) (n * up d) (down e) (down d) C v.1 w.1)
    ∙ ap (λ (z : Bool). to_bits binary64 (fin z n d)) (v.0 ∙ sym w.0))

-- a float is its own rounding
pub own_rounding : (s : Bool) (m : ℕ) (e : ℤ) → T (fits binary64 (fin s m e)) → round binary64 s (m * up e) (down e) ≡ fin s m e
own_rounding s m e f =
    let room : m * up e * 2 ^ 0 < 2 ^ 1024 * down e = subst (λ (z : ℕ). z < 2 ^ 1024 * down e) (sym (mul-one (m * up e)))
    (fits_parts binary64 s m e f).1.1 in
    let v : HasValue (round binary64 s (m * up e) (down e)) s (m * up e) (down e) =
    subst (λ (z : ℕ). HasValue (round binary64 s z (down e)) s z (down e)) (mul-one (m * up e)) (scaled_exact binary64 s m e 0 f room) in
    same_float (round binary64 s (m * up e) (down e)) (fin s m e) s (m * up e) (down e) (down_pos e)
    (round-fits binary64 s (m * up e) (down e)) f v (refl, refl)
