-- The kinds of shape and their bytes: "kind byte 1 to 5 in mission order". Definitions only. Assumes nothing.
use Rattle.std.specs.Prelude.{ℕ, ◌≡◌, false, cond, eqb, Result, MatchResult}
use Rattle.record_bytes.specs.Records.{is_kind}
use Rattle.record_bytes.specs.declared.kind.Kind.{Kind}
use Rattle.record_bytes.specs.declared.kind.Kind.TheVariants.{Plane, Triangle, Mesh, HeightGrid, DistanceGrid}
use Rattle.record_bytes.specs.declared.kind.UnknownKind.{UnknownKind}

abbrev pub byte_of : Kind → ℕ
byte_of Plane = 1
byte_of Triangle = 2
byte_of Mesh = 3
byte_of HeightGrid = 4
byte_of DistanceGrid = 5

-- the kind that a byte names; a byte of no kind reads as DistanceGrid, whose byte it is not
unfoldable pub kind_named : ℕ → Kind
kind_named byte =
    cond (eqb byte 1) Plane (cond (eqb byte 2) Triangle (cond (eqb byte 3) Mesh (cond (eqb byte 4) HeightGrid DistanceGrid)))

-- the kind with this byte, or an error with a byte that no kind has
abbrev pub Named : ℕ → Result Kind UnknownKind → Type 0
Named byte r = MatchResult r (λ kind. byte_of kind ≡ byte) (λ e. (e.0 ≡ byte) × (is_kind byte ≡ false))
