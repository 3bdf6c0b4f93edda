-- The converter's calls, for each of their returns. Assumes nothing.
use Prim.Native.Nat.{ℕ, ◌<◌, ◌≤◌}
use mathlib.Core.Path.{◌≡◌, refl, ap, ◌∙◌}
use mathlib.Core.Bool.{Bool, true, false, cond}
use mathlib.Core.List.{List, []}
use native.Mathlib.Omega.{arith}
use borrow.Author.Tests.{le-leb, lt-leb}
use lib.ListN.{length}
use Rattle.casts.specs.Answer.{bad_shape, no_room}
use Rattle.float_forms.specs.declared.forms.Form.{Form}
use Rattle.record_bytes.specs.declared.shape.Plan.{Plan}
use Rattle.std.specs.Prelude.{Some, None, Result, Ok, Err}
use Rattle.casts.specs.declared.answer.Refusal.{Refusal}
use Rattle.tree_build.specs.Build.{says as built}
use Rattle.conversion.specs.Convert.{says as written_of}
use Rattle.record_bytes.specs.Records.{well_formed}
use Rattle.conversion.specs.Convert.{Answer, Outcome, converted}
use Rattle.record_bytes.specs.Plans.{plan_of, planned}
use Rattle.results.specs.Results.{Counted, returned_nodes}
use Rattle.exports.specs.Conversions.{returned_converted, without_place, ConvertReturned, convert_returned}

-- ---- the place is missing

pub place_room : (form : Form) (l : List ℕ) (plan : Plan) → planned form l ≡ Some plan → no_room ≡ without_place form l
unfolding planned without_place
place_room form l plan e = go (well_formed form l) e
  where
    go : (b : Bool) → cond b (Some (plan_of form l)) None ≡ Some plan → no_room ≡ cond b no_room bad_shape
    go true e = refl
    go false e = absurd (let z : ◌≡◌ {A = ℕ} 0 1 = cc in omega arith)

pub place_shape : (form : Form) (l : List ℕ) → planned form l ≡ None → bad_shape ≡ without_place form l
unfolding planned without_place
place_shape form l e = go (well_formed form l) e
  where
    go : (b : Bool) → cond b (Some (plan_of form l)) None ≡ None → bad_shape ≡ cond b no_room bad_shape
    go true e = absurd (let z : ◌≡◌ {A = ℕ} 0 1 = cc in omega arith)
    go false e = refl

-- ---- the two calls

-- a count that is told as the build's is told as the converter's
pub converted_count : (counted : Result ℕ Refusal) (place : List ℕ) → returned_nodes (built counted) place
    ≡ returned_converted (written_of counted) place
unfolding returned_nodes returned_converted
converted_count (Ok count) place = refl
converted_count (Err refusal) place = refl

returned_of : {a b : Counted} {c d : List ℕ} → a ≡ b → c ≡ d
    → ◌≡◌ {A = ConvertReturned} record { returned = a; area = c } record { returned = b; area = d }
returned_of p q = cc

module _ (p q : Form) (l area place : List ℕ) where
  pub no_place : (number : ℕ) → length place < 1 → number ≡ without_place p l
      → record { returned = record { number = number; count = place }; area = area } ≡ convert_returned p q l area place
  unfolding convert_returned
  no_place number h e = rw (lt-leb 1 (length place) h, e)

  pub has_place : (answer : Answer) (after : List ℕ) (returned : Counted) → 1 ≤ length place
      → record { answer = answer; area = after } ≡ converted p q l area → returned ≡ returned_converted answer place
      → record { returned = returned; area = after } ≡ convert_returned p q l area place
  unfolding convert_returned
  has_place answer after returned h e t =
      let x : answer ≡ (converted p q l area).answer = ap (λ (o : Outcome). o.answer) e in
      let y : after ≡ (converted p q l area).area = ap (λ (o : Outcome). o.area) e in
      rw (le-leb 1 (length place) h) (returned_of (t ∙ ap (λ (z : Answer). returned_converted z place) x) y)
