-- A whole number of the grid's units in millimetres, as the code computes it. Assumes nothing.
use Rattle.std.proofs.Common.{◌≡◌, ℕ, suc, ◌^◌, ◌≤◌, true, false, T, ℤ, pos, negsuc, nat_abs, sym, refl, ap, ◌∙◌, subst, le_trans, mul-one}
use Rattle.std.proofs.Common.{lit<, lit≤, lt-ltb, le-leb}
use lib.Ieee.{Float, fin, binary64, round, mul, of_int, of_bits, in_float}
use Rattle.wide_integers.specs.Sizes.{Sized}
use Rattle.wide_integers.proofs.Reading.{bits, plain, widen}
use lib.Ieee.Back.{round_whole}
use lib.Ieee.Exact.{HasValue}
use Rattle.arithmetic.proofs.ValueOrder.{mul_values}
use Rattle.exact_triangle.specs.Box.{in_millimetres}

abbrev unitᶠ : Float
unitᶠ = of_bits binary64 0x3f00_0000_0000_0000

unit_is : unitᶠ ≡ fin false 1 (negsuc 14)
unfolding of_bits
unit_is = refl

unit_value : HasValue unitᶠ false 1 32768
unit_value = subst (λ (x : Float). HasValue x false 1 32768) (sym unit_is) (refl, refl)

pub in_millimetres_lem : (z : ℤ) → nat_abs z ≤ 4299161602 → mul binary64 (of_int binary64 z) unitᶠ ≡ in_millimetres z
unfolding of_int
in_millimetres_lem (pos n) l =
    mul_values (round binary64 false n 1) unitᶠ false false n 1 1 32768 (lit< tt) (lit< tt)
    (round_whole binary64 false n (le_trans l (lit≤ tt))) unit_value
    ∙ ap (λ (k : ℕ). round binary64 false k 32768) (mul-one n)
in_millimetres_lem (negsuc n) l =
    mul_values (round binary64 true (suc n) 1) unitᶠ true false (suc n) 1 1 32768 (lit< tt) (lit< tt)
    (round_whole binary64 true (suc n) (le_trans l (lit≤ tt))) unit_value
    ∙ ap (λ (k : ℕ). round binary64 true k 32768) (mul-one (suc n))

-- ---- up to 2^53 a whole number is a float
pub in_float_lem : {B : ℕ} {z : ℤ} → Sized B z → B ≤ 4503599627370496 → T (in_float binary64 (bits z))
unfolding in_float
in_float_lem {B} {z} h l =
    subst (λ (y : ℤ). T (in_float binary64 y)) (sym (plain (widen h (le_trans l (lit≤ tt))))) (go z (le_trans h.size l))
  where
    go : (z : ℤ) → nat_abs z ≤ 4503599627370496 → T (in_float binary64 z)
    go (pos n) m = subst T (sym (le-leb n (2 ^ 53) (le_trans m (lit≤ tt)))) tt
    go (negsuc n) m = subst T (sym (lt-ltb n (2 ^ 53) (le_trans m (lit≤ tt)))) tt
