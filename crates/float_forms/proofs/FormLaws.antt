-- A form by its version byte. Assumes nothing.
use Prim.Native.Nat.{ℕ}
use mathlib.Core.Path.{◌≡◌, refl, sym, subst}
use mathlib.Core.Bool.{Bool, true, false, cond}
use lib.Dec.{eqb}
use borrow.Author.Tests.{eqb-true}
use Rattle.std.specs.Prelude.{Result, Ok, Err}
use Rattle.std.specs.Result.{result_unwrap_or}
use Rattle.float_forms.specs.declared.forms.Form.{Form}
use Rattle.float_forms.specs.declared.forms.Form.TheVariants.{First, Long, Short}
use Rattle.float_forms.specs.declared.forms.UnknownVersion.{UnknownVersion}
use Rattle.float_forms.specs.Forms.{version_of, form_of, Versioned}

own_form : (form : Form) → form ≡ form_of (version_of form)
unfolding form_of
own_form First = refl
own_form Long = refl
own_form Short = refl

-- a form is the one of its version byte
form_known : (form : Form) (version : ℕ) → version_of form ≡ version → form ≡ form_of version
form_known form version e = subst (λ (n : ℕ). form ≡ form_of n) e (own_form form)

-- a byte that is no form's reads as Long
form_unknown : (version : ℕ) → ((form : Form) → version_of form ≡ version → ⊥) → Long ≡ form_of version
unfolding form_of
form_unknown version n = go (eqb version 1) (eqb version 3) (eqb-true version 1) (eqb-true version 3)
  where
    go : (a b : Bool) → (a ≡ true → version ≡ 1) → (b ≡ true → version ≡ 3) → Long ≡ cond a First (cond b Short Long)
    go true b p q = absurd (n First (sym (p refl)))
    go false true p q = absurd (n Short (sym (q refl)))
    go false false p q = refl

-- the form read, or Long
pub form_or_long : (version : ℕ) (r : Result Form UnknownVersion) → Versioned version r → result_unwrap_or r Long ≡ form_of version
form_or_long version (Ok form) v = form_known form version v
form_or_long version (Err e) v = form_unknown version v.1
