-- What the call of the cast at heights known only within ranges tells, from what the cast ensures, and that it says the answer back.
-- Assumes nothing.
use Prim.Native.Nat.{ℕ, ◌≤◌}
use mathlib.Core.Path.{◌≡◌, refl, sym, ap, ◌∙◌, subst}
use mathlib.Core.List.{List}
use native.Mathlib.Omega.{arith}
use borrow.Author.Tests.{le-leb, ne_eqb}
use lib.Ieee.{Float}
use lib.ListN.{length}
use lib.Seq.{get_or-set_same}
use Rattle.geometry.specs.declared.ray.Ray.{Ray}
use Rattle.height_field.specs.declared.field.Field.{Field}
use Rattle.height_ranges.specs.Answer.{Answer, clear, possible, refused}
use Rattle.height_ranges.specs.RangesCast.{ray_height_ranges}
use Rattle.height_ranges.specs.Promise.{MeetsPromise}
use Rattle.height_ranges.proofs.Promise.{refusals_to_nine}
use Rattle.exports.specs.Ranges.{clear_code, possible_code, ReturnedCell, returned_cell, answered_cell, read_cell, KeepsPromise}

with_room_lem : (answer : Answer) (place : List ℕ) → 1 ≤ length place → answered_cell answer place ≡ returned_cell answer place
unfolding answered_cell
with_room_lem answer place fits = simp (le-leb 1 (length place) fits)

module _ (f : Field) (lows highs : List Float) (place : List ℕ) (returned : ReturnedCell) where
  -- what both clauses of the call say
  abbrev pub Both : Ray → Type 0
  Both r = (returned ≡ answered_cell (ray_height_ranges r f lows highs) place) × KeepsPromise r f lows highs place returned

  -- a cell stands at its place, and no refusal has the code of an answer
  read_back : (r : Ray) (answer : Answer) → answer ≡ ray_height_ranges r f lows highs → 1 ≤ length place
      → read_cell (returned_cell answer place) ≡ answer
  unfolding read_cell returned_cell
  read_back r clear is fits = refl
  read_back r (possible cell) is fits = ap possible (get_or-set_same place 0 cell 0 fits)
  read_back r (refused number) is fits =
      let few = refusals_to_nine r f lows highs number (sym is) in
      simp (ne_eqb number clear_code (λ same. omega arith), ne_eqb number possible_code (λ same. omega arith))

  pub tells : (made r : Ray) (answer : Answer) → made ≡ r → answer ≡ ray_height_ranges made f lows highs
      → MeetsPromise made f lows highs answer → returned ≡ answered_cell answer place → Both r
  tells made r answer same is promised says =
      subst Both same (
        says ∙ ap (λ (a : Answer). answered_cell a place) is,
        λ fits.
            subst (MeetsPromise made f lows highs) (sym (ap read_cell (says ∙ with_room_lem answer place fits)
            ∙ read_back made answer is fits))
            promised,
      )
