-- The bit pattern without its highest bit is that of the absolute value. Assumes nothing.
use Rattle.std.proofs.Common.{◌≡◌, ℕ, ◌+◌, ◌*◌, ◌%◌, ◌<◌, Bool, true, false, not, T, ℤ, sym, refl, ap, ◌∙◌, subst, true≢false, arith}
use lib.Ieee.{Float, nan, inf, fin, binary64, is_nan, fits, to_bits, of_bits, nan_bits}
use lib.Ieee.Bits.{of_bits-to_bits, to_bits-lt, nan_bits_is}
use Rattle.arithmetic.specs.Basic.{absolute}

abbrev sign_bit : ℕ
sign_bit = 0x8000_0000_0000_0000

-- the sign stands in the highest bit alone
signed : (m : ℕ) (e : ℤ) → to_bits binary64 (fin true m e) ≡ sign_bit + to_bits binary64 (fin false m e)
unfolding to_bits
signed m e = omega arith

fits_signed : (m : ℕ) (e : ℤ) → T (fits binary64 (fin false m e)) → T (fits binary64 (fin true m e))
unfolding fits
fits_signed m e t = t

pub absolute_fits : (x : Float) → T (fits binary64 x) → T (fits binary64 (absolute x))
unfolding absolute fits
absolute_fits nan t = t
absolute_fits (inf s) t = t
absolute_fits (fin s m e) t = t

infinite_cleared : (s : Bool) → to_bits binary64 (inf s) % sign_bit ≡ to_bits binary64 (inf false)
unfolding to_bits
infinite_cleared true = refl
infinite_cleared false = refl

pub sign_cleared : (x : Float) → T (fits binary64 x) → is_nan x ≡ false → to_bits binary64 x % sign_bit ≡ to_bits binary64 (absolute x)
unfolding absolute is_nan
sign_cleared nan t n = absurd (true≢false n)
sign_cleared (inf s) t n = infinite_cleared s
sign_cleared (fin true m e) t n =
    let h = signed m e in
    let l : to_bits binary64 (fin true m e) < 2 * sign_bit = to_bits-lt binary64 (fin true m e) t in
    omega arith
sign_cleared (fin false m e) t n =
    let h = signed m e in
    let l : to_bits binary64 (fin true m e) < 2 * sign_bit = to_bits-lt binary64 (fin true m e) (fits_signed m e t) in
    omega arith

pub absolute_of_bits : (x : Float) → T (fits binary64 x) → is_nan x ≡ false → of_bits binary64 (to_bits binary64 x % sign_bit) ≡ absolute x
absolute_of_bits x t n = ap (of_bits binary64) (sign_cleared x t n) ∙ of_bits-to_bits binary64 (absolute x) (absolute_fits x t)

absolute_is_number : (x : Float) → is_nan x ≡ false → is_nan (absolute x) ≡ false
unfolding absolute is_nan
absolute_is_number nan n = n
absolute_is_number (inf s) n = refl
absolute_is_number (fin s m e) n = refl

-- so that the pattern is no NaN's
pub cleared_is_number : (x : Float) → T (fits binary64 x) → is_nan x ≡ false → T (not (nan_bits binary64 (to_bits binary64 x % sign_bit)))
cleared_is_number x t n = subst (λ (b : Bool). T (not b))
    (sym (nan_bits_is binary64 (to_bits binary64 x % sign_bit) ∙ (ap is_nan (absolute_of_bits x t n) ∙ absolute_is_number x n))) tt

pub nan_absolute : (x : Float) → is_nan x ≡ true → x ≡ absolute x
unfolding absolute is_nan
nan_absolute nan n = refl
nan_absolute (inf s) n = absurd (true≢false (sym n))
nan_absolute (fin s m e) n = absurd (true≢false (sym n))
