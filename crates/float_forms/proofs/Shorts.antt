-- The answer for each return of `short_of`. Assumes nothing.
use Prim.Native.Nat.{ℕ, ◌%◌, ◌<◌, ◌≤◌}
use mathlib.Core.Path.{◌≡◌, refl, sym, ap, subst, ◌∙◌}
use mathlib.Core.Bool.{Bool, true, false, not, ◌&&◌, cond}
use lib.Dec.{T}
use lib.Ieee.{Float, binary32, binary64, is_nan, fits, ne, to_bits, of_bits}
use lib.Ieee.Bits.{of_bits-to_bits, to_bits-of_bits, of_bits-fits, nan_bits_is}
use lib.Ieee.Fits.{and_i, and_l, and_r, fits_widens}
use Rattle.arithmetic.proofs.Order.{is_nan_lem, ne_self_is_nan, ne_self_passes}
use Rattle.std.specs.Prelude.{Some, None}
use Rattle.float_forms.specs.declared.forms.Form.TheVariants.{Short}
use Rattle.float_forms.specs.Representable.{representable}
use Rattle.float_forms.specs.Short.{guess, short_of}
use Rattle.arithmetic.proofs.RootCases.{zero_over_zero}
use Rattle.float_forms.proofs.Patterns.{nan_pattern, number_pattern}
use Rattle.float_forms.proofs.Narrow.{narrow_right, widened_representable}

pub nan_number : (x : Float) → ne x x ≡ true → is_nan x ≡ true
nan_number x h = sym (ne_self_is_nan x) ∙ h

-- ---- patterns of 4 bytes

pub pattern_number : (bits : ℕ) → bits % 0x8000_0000 ≤ 0x7f80_0000 → T (not (is_nan (of_bits binary32 bits)))
pattern_number bits h = subst (λ (b : Bool). T (not b)) (nan_bits_is binary32 bits) (number_pattern binary32 bits h)

pub widens : (bits : ℕ) → bits % 0x8000_0000 ≤ 0x7f80_0000 → T
    (fits binary64 (of_bits binary32 bits) && not (is_nan (of_bits binary32 bits)))
widens bits h =
    and_i (fits binary64 (of_bits binary32 bits)) (not (is_nan (of_bits binary32 bits)))
    (fits_widens (of_bits binary32 bits) (of_bits-fits binary32 bits)) (pattern_number bits h)

-- ---- the returns

pub nan_unrepresentable : (x : Float) → ne x x ≡ true → None ≡ short_of x
unfolding short_of representable is_nan
nan_unrepresentable x h = subst (λ (z : Float). None ≡ short_of z) (sym (is_nan_lem x (sym (ne_self_is_nan x) ∙ h))) refl

-- where the float is representable, the guess is its pattern
guessed : (x : Float) → T (representable Short x) → guess (to_bits binary64 x) ≡ to_bits binary32 x
unfolding representable
guessed x h = narrow_right x (and_r (not (is_nan x)) (fits binary32 x) h) (and_l (not (is_nan x)) (fits binary32 x) h)

guess_back : (x : Float) → T (representable Short x) → of_bits binary32 (guess (to_bits binary64 x)) ≡ x
unfolding representable
guess_back x h = ap (of_bits binary32) (guessed x h) ∙ of_bits-to_bits binary32 x (and_r (not (is_nan x)) (fits binary32 x) h)

-- so what contradicts the guess is not representable
pub unrepresentable : (x : Float) → (of_bits binary32 (guess (to_bits binary64 x)) ≡ x → ⊥) → None ≡ short_of x
unfolding short_of
unrepresentable x h = go (representable Short x) (λ t. h (guess_back x t))
  where
    go : (b : Bool) → (T b → ⊥) → None ≡ cond b (Some (to_bits binary32 x)) None
    go true k = absurd (k tt)
    go false k = refl

pub nan_guess : (x : Float) → ne x x ≡ false → 0x7f80_0000 < guess (to_bits binary64 x) % 0x8000_0000 → None ≡ short_of x
unfolding is_nan
nan_guess x n h = unrepresentable x (λ e. subst (λ (z : Float). T (not (is_nan z))) (sym e ∙ nan_pattern binary32 _ h) (ne_self_passes x n))

pub other_guess : (x : Float) → (to_bits binary64 (of_bits binary32 (guess (to_bits binary64 x))) ≡ to_bits binary64 x → ⊥)
    → None ≡ short_of x
other_guess x h = unrepresentable x (λ e. h (ap (to_bits binary64) e))

pub right_guess : (x : Float) (p : ℕ) → T (fits binary64 x) → p < 0x1_0000_0000 → p % 0x8000_0000 ≤ 0x7f80_0000
    → to_bits binary64 (of_bits binary32 p) ≡ to_bits binary64 x → Some p ≡ short_of x
unfolding short_of
right_guess x p f small h e =
    subst (λ (z : Float). Some p ≡ cond (representable Short z) (Some (to_bits binary32 z)) None) same
    (at_pattern (representable Short (of_bits binary32 p)) (widened_representable p (pattern_number p h)))
  where
    same : of_bits binary32 p ≡ x
    same =
        sym (of_bits-to_bits binary64 (of_bits binary32 p) (fits_widens (of_bits binary32 p) (of_bits-fits binary32 p)))
        ∙ ap (of_bits binary64) e
        ∙ of_bits-to_bits binary64 x f

    at_pattern : (b : Bool) → T b → Some p ≡ cond b (Some (to_bits binary32 (of_bits binary32 p))) None
    at_pattern true _ = ap Some (sym (to_bits-of_bits binary32 p small (pattern_number p h)))
    at_pattern false k = absurd k

-- ---- for `float_forms::short`

pub ruleset shorts = (
  ne_self_passes,
  nan_unrepresentable,
  nan_guess,
  pattern_number,
  widens,
  other_guess,
  right_guess,
  number_pattern,
)

pub ruleset widening = (zero_over_zero, nan_pattern, number_pattern, widens)
