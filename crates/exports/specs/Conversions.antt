-- What the calls of the converter tell and write. Definitions only. Assumes nothing.
use Rattle.std.specs.Prelude.{ℕ, cond, List, [], ◌∷◌, leb, length}
use Rattle.std.proofs.lemmas.List.Edits.{sets}
use Rattle.casts.specs.Answer.{bad_shape, no_room}
use Rattle.float_forms.specs.declared.forms.Form.{Form}
use Rattle.record_bytes.specs.Records.{well_formed}
use Rattle.conversion.specs.Convert.{Answer, written, refused, converted}
use Rattle.results.specs.Results.{Counted, done_code}

unfoldable pub returned_converted : Answer → List ℕ → Counted
returned_converted (written count) place = record { number = done_code; count = sets place 0 (count ∷ []) }
returned_converted (refused number) place = record { number = number; count = place }

-- "2 before 3", where the length has no place
unfoldable pub without_place : Form → List ℕ → ℕ
without_place form bytes = cond (well_formed form bytes) no_room bad_shape

-- the number and the length written, and the output area
pub record ConvertReturned : Type 0 where
  pub returned : Counted
  pub area : List ℕ

-- the converter from the form p to the form q; the last is the place of the length
unfoldable pub convert_returned : Form → Form → List ℕ → List ℕ → List ℕ → ConvertReturned
convert_returned p q bytes area place =
    cond (leb 1 (length place))
    record { returned = returned_converted (converted p q bytes area).answer place; area = (converted p q bytes area).area }
    record { returned = record { number = without_place p bytes; count = place }; area = area }
