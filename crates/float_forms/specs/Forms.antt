-- The forms of a record, by its version byte: "Version byte 2 carries near after the maximum; version 1 means near 0."
-- Definitions only. Assumes nothing.
use Rattle.std.specs.Prelude.{ℕ, ◌≡◌, cond, eqb, Result, MatchResult}
use Rattle.std.specs.Float.{Format, binary32, binary64}
use Rattle.float_forms.specs.declared.forms.Form.{Form}
use Rattle.float_forms.specs.declared.forms.Form.TheVariants.{First, Long, Short}
use Rattle.float_forms.specs.declared.forms.UnknownVersion.{UnknownVersion}

-- how many bytes a float has
abbrev pub size_of : Form → ℕ
size_of First = 8
size_of Long = 8
size_of Short = 4

-- "Version byte 3 is version 2 with every float as an f32"
abbrev pub format_of : Form → Format
format_of First = binary64
format_of Long = binary64
format_of Short = binary32

-- how many floats a ray has: origin, direction, maximum, and near
abbrev pub rays_of : Form → ℕ
rays_of First = 7
rays_of Long = 8
rays_of Short = 8

abbrev pub version_of : Form → ℕ
version_of First = 1
version_of Long = 2
version_of Short = 3

-- the form of a version byte; one of no form reads as Long, whose version byte it is not
unfoldable pub form_of : ℕ → Form
form_of version = cond (eqb version 1) First (cond (eqb version 3) Short Long)

-- the form with this version byte, or an error with a byte that is no form's
abbrev pub Versioned : ℕ → Result Form UnknownVersion → Type 0
Versioned version r =
    MatchResult r (λ form. version_of form ≡ version) (λ e. (e.0 ≡ version) × ((form : Form) → version_of form ≡ version → ⊥))

-- the form with the same fields and floats of 8 bytes
abbrev pub long_form : Form → Form
long_form First = First
long_form Long = Long
long_form Short = Long
