-- Which floats a form represents exactly, and their patterns. Definitions only. Assumes nothing.
use Rattle.std.specs.Prelude.{ℕ, Bool, true, not, ◌&&◌, cond, List, [], ◌∷◌, Float, Option, Some, None}
use Rattle.std.specs.Float.Ieee.{is_nan, fits, to_bits}
use Rattle.float_forms.specs.declared.forms.Form.{Form}
use Rattle.float_forms.specs.Forms.{format_of}

-- each of some floats passes a test
unfoldable pub every : (Float → Bool) → List Float → Bool
every test [] = true
every test (x ∷ xs) = test x && every test xs

-- no NaN
abbrev pub is_number : Float → Bool
is_number x = not (is_nan x)

-- a float of the form's format, of which NaN is one; f64 has every f32 (`long_fits`, record_bytes/proofs/Tests.antt)
abbrev pub fits_in : Form → Float → Bool
fits_in form x = fits (format_of form) x

-- not "a float that f32 does not hold exactly or that is NaN"
unfoldable pub representable : Form → Float → Bool
representable form x = not (is_nan x) && fits (format_of form) x

-- the pattern that stands for a float exactly, if the form has one
unfoldable pub pattern_for : Form → Float → Option ℕ
pattern_for form x = cond (representable form x) (Some (to_bits (format_of form) x)) None
