-- A kind and its byte. Assumes nothing.
use Prim.Native.Nat.{ℕ, zero, suc}
use mathlib.Core.Path.{◌≡◌, refl, subst}
use mathlib.Core.Bool.{true}
use native.Mathlib.Omega.{arith}
use lib.Dec.{T, leb, leb→le}
use lib.Ieee.Fits.{and_r}
use Rattle.record_bytes.specs.Records.{is_kind}
use Rattle.record_bytes.specs.declared.kind.Kind.{Kind}
use Rattle.record_bytes.specs.declared.kind.Kind.TheVariants.{Plane, Triangle, Mesh, HeightGrid, DistanceGrid}
use Rattle.record_bytes.specs.Kinds.{byte_of, kind_named}

named : (kind : Kind) → kind ≡ kind_named (byte_of kind)
unfolding kind_named
named Plane = refl
named Triangle = refl
named Mesh = refl
named HeightGrid = refl
named DistanceGrid = refl

-- a kind is the one that its byte names
pub named_kind : (kind : Kind) (byte : ℕ) → byte_of kind ≡ byte → kind ≡ kind_named byte
named_kind kind byte e = subst (λ (n : ℕ). kind ≡ kind_named n) e (named kind)

pub known_byte : (kind : Kind) → is_kind (byte_of kind) ≡ true
known_byte Plane = refl
known_byte Triangle = refl
known_byte Mesh = refl
known_byte HeightGrid = refl
known_byte DistanceGrid = refl

-- and its byte is the one that names it
pub byte_named : (byte : ℕ) → T (is_kind byte) → byte_of (kind_named byte) ≡ byte
unfolding kind_named
byte_named zero h = absurd h
byte_named (suc zero) h = refl
byte_named (suc (suc zero)) h = refl
byte_named (suc (suc (suc zero))) h = refl
byte_named (suc (suc (suc (suc zero)))) h = refl
byte_named (suc (suc (suc (suc (suc zero))))) h = refl
byte_named (suc (suc (suc (suc (suc (suc n)))))) h =
    let m = suc (suc (suc (suc (suc (suc n))))) in absurd (omega (arith, leb→le m 5 (and_r (leb 1 m) (leb m 5) h)))
