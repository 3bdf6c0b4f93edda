-- The pattern of a float, for each return of the functions that find it. Assumes nothing.
use Prim.Native.Nat.{ℕ, ◌*◌, ◌<◌}
use mathlib.Core.Path.{◌≡◌, refl, sym, ap, subst, ◌∙◌}
use mathlib.Core.Bool.{Bool, true, false, not, ◌&&◌, cond}
use native.Mathlib.Omega.{arith}
use lib.Dec.{T}
use lib.Ieee.{Float, nan, top, binary32, binary64, is_nan, fits, ne, to_bits}
use lib.Ieee.Bits.{is_true, to_bits-lt}
use Rattle.arithmetic.proofs.Order.{is_nan_lem, ne_self_passes}
use Rattle.std.specs.Prelude.{Some, None}
use Rattle.float_forms.specs.Short.{short_of}
use Rattle.float_forms.proofs.Shorts.{nan_number}
use Rattle.float_forms.specs.declared.forms.Form.{Form}
use Rattle.float_forms.specs.declared.forms.Form.TheVariants.{First, Long, Short}
use Rattle.float_forms.specs.Forms.{format_of}
use Rattle.float_forms.specs.Representable.{fits_in, representable}
use Rattle.float_forms.specs.Representable.{pattern_for}

-- ---- in eight bytes

pub nan_unrepresentable : (form : Form) (x : Float) → ne x x ≡ true → None ≡ pattern_for form x
unfolding pattern_for representable
nan_unrepresentable form x h = rw (nan_number x h)

pub long_bits : (x : Float) → T (fits binary64 x) → ne x x ≡ false → Some (to_bits binary64 x) ≡ pattern_for Long x
unfolding pattern_for representable
long_bits x f h = rw (is_true (not (is_nan x)) (ne_self_passes x h), is_true (fits binary64 x) f)

pub first_pattern : (x : Float) → pattern_for Long x ≡ pattern_for First x
unfolding pattern_for representable
first_pattern x = refl

-- ---- in four: `float_forms::short::short_of` says the same

pub short_representable : (x : Float) (bits : ℕ) → short_of x ≡ Some bits → Some bits ≡ pattern_for Short x
unfolding short_of pattern_for
short_representable x bits e = go (representable Short x) e
  where
    go : (b : Bool) → cond b (Some (to_bits binary32 x)) None ≡ Some bits
        → Some bits ≡ cond b (Some (to_bits binary32 x)) None
    go true e = cc
    go false e = absurd (let z : ◌≡◌ {A = ℕ} 0 1 = cc in omega arith)

pub short_unrepresentable : (x : Float) → short_of x ≡ None → None ≡ pattern_for Short x
unfolding short_of pattern_for
short_unrepresentable x e = go (representable Short x) e
  where
    go : (b : Bool) → cond b (Some (to_bits binary32 x)) None ≡ None
        → None ≡ cond b (Some (to_bits binary32 x)) None
    go true e = absurd (let z : ◌≡◌ {A = ℕ} 0 1 = cc in omega arith)
    go false e = refl

-- ---- in any form

pub representable_by_pattern : (form : Form) (x : Float) (bits : ℕ) → pattern_for form x ≡ Some bits → true ≡ representable form x
unfolding pattern_for
representable_by_pattern form x bits e = go (representable form x) e
  where
    go : (b : Bool) → cond b (Some (to_bits (format_of form) x)) None ≡ Some bits → true ≡ b
    go true e = refl
    go false e = absurd (let z : ◌≡◌ {A = ℕ} 0 1 = cc in omega arith)

pub unrepresentable_by_pattern : (form : Form) (x : Float) → pattern_for form x ≡ None → false ≡ representable form x
unfolding pattern_for
unrepresentable_by_pattern form x e = go (representable form x) e
  where
    go : (b : Bool) → cond b (Some (to_bits (format_of form) x)) None ≡ None → false ≡ b
    go true e = absurd (let z : ◌≡◌ {A = ℕ} 0 1 = cc in omega arith)
    go false e = refl

-- ---- NaN

pub long_nan : 0x7ff8_0000_0000_0000 ≡ to_bits binary64 nan
unfolding to_bits
long_nan = refl

pub short_nan : 0x7fc0_0000 ≡ to_bits binary32 nan
unfolding to_bits
short_nan = refl

-- ---- a float of the form's format: NaN, or representable

module _ (form : Form) (x : Float) (bits : ℕ) (f : fits_in form x ≡ true) where
  stands : bits ≡ to_bits (format_of form) x → (bits ≡ to_bits (format_of form) x) × (bits < 2 * top (format_of form))
  stands same = (same, rw same (to_bits-lt (format_of form) x (subst T (sym f) tt)))

  pub number_stands : pattern_for form x ≡ Some bits → (bits ≡ to_bits (format_of form) x) × (bits < 2 * top (format_of form))
  unfolding pattern_for
  number_stands e = stands (go (representable form x) e)
    where
      go : (b : Bool) → cond b (Some (to_bits (format_of form) x)) None ≡ Some bits → bits ≡ to_bits (format_of form) x
      go true e = cc
      go false e = absurd (let z : ◌≡◌ {A = ℕ} 0 1 = cc in omega arith)

  only_nan : false ≡ representable form x → is_nan x ≡ true
  unfolding representable
  only_nan h = go (is_nan x) (rw f at h)
    where
      go : (b : Bool) → false ≡ (not b && true) → b ≡ true
      go true e = refl
      go false e = e

  pub nan_stands : pattern_for form x ≡ None → bits ≡ to_bits (format_of form) nan
      → (bits ≡ to_bits (format_of form) x) × (bits < 2 * top (format_of form))
  nan_stands h e =
      stands (e ∙ ap (to_bits (format_of form)) (sym (is_nan_lem x (only_nan (unrepresentable_by_pattern form x h)))))

-- ---- for `float_forms::representable`

pub ruleset long_patterns = (ne_self_passes, nan_unrepresentable, long_bits)

pub ruleset by_pattern = (representable_by_pattern, unrepresentable_by_pattern)
