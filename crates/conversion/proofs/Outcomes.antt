-- When the converter succeeds, and with what. Assumes nothing.
use Prim.Native.Nat.{ℕ, ◌≤◌}
use mathlib.Core.Path.{◌≡◌, refl}
use mathlib.Core.Bool.{Bool, true, false, cond}
use mathlib.Core.List.{List, ◌++◌}
use native.Mathlib.Omega.{arith}
use borrow.Author.Tests.{ltb-false, le-ltb}
use lib.Dec.{T, ltb}
use lib.Ieee.Bits.{is_true}
use lib.ListN.{length, drop}
use Rattle.float_forms.specs.declared.forms.Form.{Form}
use Rattle.record_bytes.specs.Records.{said_of, well_formed}
use Rattle.conversion.specs.Convert.{said_representable, written, refused, Outcome, converted}
use Rattle.conversion.specs.Writing.{rewritten}

-- the whole record at the front of the area, and the rest of the area as it was
abbrev pub success : List ℕ → List ℕ → Outcome
success new area = record { answer = written (length new); area = new ++ drop (length new) area }

pub record Success (p q : Form) (bytes area : List ℕ) (n : ℕ) : Type 0 where
  pub well_formed : T (well_formed p bytes)
  pub room : length (rewritten p q bytes) ≤ length area
  pub representable : T (said_representable q (said_of p bytes))
  pub counted : n ≡ length (rewritten p q bytes)

abbrev choice : Bool → Bool → Bool → List ℕ → List ℕ → Outcome
choice a b c new area =
    cond a (cond b record { answer = refused 3; area = area } (cond c (success new area) record { answer = refused 11; area = area }))
    record { answer = refused 2; area = area }

record Chosen (a b c : Bool) (m n : ℕ) : Type 0 where
  first : T a
  second : b ≡ false
  third : T c
  fourth : n ≡ m

never : (k n : ℕ) → refused k ≡ written n → ⊥
never k n e = let z : ◌≡◌ {A = ℕ} 0 1 = cc in omega arith

chosen : (a b c : Bool) (new area : List ℕ) (n : ℕ) → (choice a b c new area).answer ≡ written n → Chosen a b c (length new) n
chosen true true c new area n e = absurd (never 3 n e)
chosen true false true new area n e = record { first = tt; second = refl; third = tt; fourth = cc }
chosen true false false new area n e = absurd (never 11 n e)
chosen false b c new area n e = absurd (never 2 n e)

-- what an answer `written` says
pub succeeded : (p q : Form) (bytes area : List ℕ) (n : ℕ) → (converted p q bytes area).answer ≡ written n → Success p q bytes area n
unfolding converted
succeeded p q bytes area n e =
    let new = rewritten p q bytes in
    let k = chosen (well_formed p bytes) (ltb (length area) (length new)) (said_representable q (said_of p bytes)) new area n e in
    record { well_formed = k.first; room = ltb-false (length area) (length new) k.second; representable = k.third; counted = k.fourth }

-- and when it comes
pub succeeds : (p q : Form) (bytes area : List ℕ) → T (well_formed p bytes) → length (rewritten p q bytes) ≤ length area
    → T (said_representable q (said_of p bytes))
    → converted p q bytes area ≡ success (rewritten p q bytes) area
unfolding converted
succeeds p q bytes area w r h =
    rw (
      is_true (well_formed p bytes) w,
      le-ltb (length area) (length (rewritten p q bytes)) r,
      is_true (said_representable q (said_of p bytes)) h,
    )
