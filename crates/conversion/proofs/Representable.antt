-- What a record says that a form represents exactly. Assumes nothing.
use mathlib.Core.Bool.{true, not}
use mathlib.Core.List.{List}
use mathlib.Core.Path.{◌≡◌, sym, subst}
use Prim.Native.Nat.{ℕ}
use lib.Dec.{T}
use lib.Ieee.{Float, is_nan, fits}
use lib.Ieee.Bits.{is_true}
use lib.Ieee.Fits.{and_i}
use Rattle.float_forms.specs.declared.forms.Form.{Form}
use Rattle.float_forms.specs.declared.forms.Form.TheVariants.{Long}
use Rattle.float_forms.specs.Forms.{format_of}
use Rattle.float_forms.specs.Representable.{is_number, fits_in, representable}
use Rattle.record_bytes.specs.Records.{Said, said_of, said_fits, without_nan}
use Rattle.conversion.specs.Convert.{said_representable}
use Rattle.float_forms.proofs.RunLaws.{number_representable, fits_representable}
use Rattle.record_bytes.proofs.Tests.{said_both, long_fits_said, own_fits_said}

pub without_nan_lem : (form : Form) (s : Said) → T (said_representable form s) → T (without_nan s)
without_nan_lem form s h = said_both (representable form) (representable form) is_number (λ x k _. number_representable form x k) s h h

pub representable_fits : (form : Form) (s : Said) → T (said_representable form s) → T (said_fits form s)
representable_fits form s h = said_both (representable form) (representable form) (fits_in form) (λ x k _. fits_representable form x k) s h
    h

pub representable_fits_said : (form : Form) (s : Said) → said_representable form s ≡ true → said_fits form s ≡ true
representable_fits_said form s h = is_true (said_fits form s) (representable_fits form s (subst T (sym h) tt))

number_represents : (form : Form) (x : Float) → T (is_number x) → T (fits_in form x) → T (representable form x)
unfolding representable
number_represents form x n f = and_i (not (is_nan x)) (fits (format_of form) x) n f

-- the long form represents what any record without a NaN says; and so does the record's own
pub long_represents_said : (form : Form) (l : List ℕ) → T (without_nan (said_of form l)) → T (said_representable Long (said_of form l))
long_represents_said form l h =
    said_both is_number (fits_in Long) (representable Long) (number_represents Long) (said_of form l) h (long_fits_said form l)

pub own_represents_said : (form : Form) (l : List ℕ) → T (without_nan (said_of form l)) → T (said_representable form (said_of form l))
own_represents_said form l h =
    said_both is_number (fits_in form) (representable form) (number_represents form) (said_of form l) h (own_fits_said form l)
