-- What the call of the cast at heights known only within ranges tells and writes, and that it keeps the promise. Definitions only.
-- Assumes nothing.
use Rattle.std.specs.Prelude.{ℕ, ◌≤◌, cond, List, [], ◌∷◌, leb, eqb, Float, length}
use Rattle.std.proofs.lemmas.List.Edits.{sets}
use Rattle.geometry.specs.declared.ray.Ray.{Ray}
use Rattle.casts.specs.Answer.{bad_shape, no_room}
use Rattle.tree.specs.Layout.{word_at}
use Rattle.height_field.specs.declared.field.Field.{Field}
use Rattle.height_ranges.specs.Answer.{Answer, clear, possible, refused}
use Rattle.height_ranges.specs.Promise.{MeetsPromise}

-- further codes that no refusal number can be taken for
abbrev pub clear_code : ℕ
clear_code = 261

abbrev pub possible_code : ℕ
possible_code = 262

-- the number, and the slice of the cell
pub record ReturnedCell : Type 0 where
  pub number : ℕ
  pub cell : List ℕ

unfoldable pub returned_cell : Answer → List ℕ → ReturnedCell
returned_cell clear place = record { number = clear_code; cell = place }
returned_cell (possible c) place = record { number = possible_code; cell = sets place 0 (c ∷ []) }
returned_cell (refused number) place = record { number = number; cell = place }

-- "1 is tested before 2, 2 before 3": where the cell has no place it is 3, unless the cast is refused with 1 or 2
unfoldable pub short_number : Answer → ℕ
short_number clear = no_room
short_number (possible c) = no_room
short_number (refused number) = cond (leb number bad_shape) number no_room

-- nothing is written then
unfoldable pub answered_cell : Answer → List ℕ → ReturnedCell
answered_cell answer place = cond (leb 1 (length place)) (returned_cell answer place) record { number = short_number answer; cell = place }

-- what the number and the cell's slice say together
unfoldable pub read_cell : ReturnedCell → Answer
read_cell returned =
    cond (eqb returned.number clear_code) clear
    (cond (eqb returned.number possible_code) (possible (word_at returned.cell 0)) (refused returned.number))

-- with a place for the cell, what is read meets the promise
abbrev pub KeepsPromise : Ray → Field → List Float → List Float → List ℕ → ReturnedCell → Type 0
KeepsPromise r f lows highs place returned = 1 ≤ length place → MeetsPromise r f lows highs (read_cell returned)
