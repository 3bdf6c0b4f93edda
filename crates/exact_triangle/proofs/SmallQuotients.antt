-- One division of two whole numbers that are floats exactly rounds their fraction. Assumes nothing.
use Rattle.std.proofs.Common.{◌≡◌, ℕ, zero, suc, ◌*◌, ◌^◌, ◌<◌, ◌≤◌, Bool, true, false, cond, eqb, ℤ, pos, negsuc, ap, ◌∙◌, true≢false}
use Rattle.std.proofs.Common.{le_trans, zero-lt-suc, mul-pos, arith, lit≤, ne_eqb}
use mathlib.Core.Bool.{false≢true}
use lib.Signed.{lt_z}
use lib.Ieee.{Float, nan, inf, fin, binary64, up, down, round, div, of_int}
use lib.Ieee.Back.{round_whole}
use lib.Ieee.Exact.{HasValue}
use lib.Ieee.Fits.{down_pos}
use lib.Ieee.Scale.{round_same}
use Rattle.wide_integers.specs.Sizes.{Sized}
use Rattle.wide_integers.specs.Division.{fraction_of}

divided : (m : ℕ) (e : ℤ) (n : ℕ) (g : ℤ) → 0 < n
    → div binary64 (fin false m e) (fin false n g) ≡ round binary64 false (m * up e * down g) (n * up g * down e)
unfolding div
divided m e n g l =
    ap (λ (b : Bool). cond b (cond (eqb m 0) nan (inf false)) (round binary64 false (m * up e * down g) (n * up g * down e)))
    (ne_eqb n 0 (λ z. omega (arith, z, l)))

divide_values : (x y : Float) (a b : ℕ) → 0 < b → HasValue x false a 1 → HasValue y false b 1
    → div binary64 x y ≡ round binary64 false a b
divide_values nan y a b B v w = absurd v
divide_values (inf r) y a b B v w = absurd v
divide_values (fin r m e) nan a b B v w = absurd w
divide_values (fin r m e) (inf q) a b B v w = absurd w
divide_values (fin r m e) (fin q n g) a b B v w =
    (λ i. div binary64 (fin (v.0 i) m e) (fin (w.0 i) n g)) ∙ divided m e n g (some n w.1)
    ∙ round_same binary64 false (m * up e * down g) (n * up g * down e) a b
    (mul-pos (above (n * up g) (b * down g) w.1 (mul-pos B (down_pos g))) (down_pos e)) B
    (same (m * up e) (down e) (n * up g) (down g) a b v.1 w.1)
  where
    above : (x y : ℕ) → x * 1 ≡ y → 0 < y → 0 < x
    above x y e h = omega (arith, e, h)

    some : (n : ℕ) → n * up g * 1 ≡ b * down g → 0 < n
    some zero e = let m = mul-pos B (down_pos g) in absurd (omega (arith, e, m))
    some (suc n) e = zero-lt-suc n

    same : (x d y h a b : ℕ) → x * 1 ≡ a * d → y * 1 ≡ b * h → x * h * b ≡ a * (y * d)
    same x d y h a b e g =
        let e' : x * 1 * (h * b) ≡ a * d * (h * b) = ap (λ (z : ℕ). z * (h * b)) e in
        let g' : a * d * (y * 1) ≡ a * d * (b * h) = ap (λ (z : ℕ). a * d * z) g in
        omega (arith, e', g')

whole_value : (n : ℕ) → n ≤ 2 ^ 53 → HasValue (of_int binary64 (pos n)) false n 1
unfolding of_int
whole_value n l = round_whole binary64 false n l

pub small_quotient : (t w : ℤ) → Sized 17592186044416 t → Sized 2147483648 w → lt_z t (pos 0) ≡ false → lt_z (pos 0) w ≡ true
    → div binary64 (of_int binary64 t) (of_int binary64 w) ≡ fraction_of t w
small_quotient (negsuc t) w h g p q = absurd (true≢false p)
small_quotient (pos t) (negsuc w) h g p q = absurd (false≢true q)
small_quotient (pos t) (pos zero) h g p q = absurd (false≢true q)
small_quotient (pos t) (pos (suc w)) h g p q =
    divide_values (of_int binary64 (pos t)) (of_int binary64 (pos (suc w))) t (suc w) (zero-lt-suc w)
    (whole_value t (le_trans h.size (lit≤ tt))) (whole_value (suc w) (le_trans g.size (lit≤ tt)))
