-- The converter, in either direction: from the form p to the form q. Definitions only. Assumes nothing.
use Rattle.std.specs.Prelude.{ℕ, Bool, cond, List, ◌++◌, ltb, length, drop, Result, Ok, Err}
use Rattle.casts.specs.declared.answer.Refusal.{Refusal}
use Rattle.casts.specs.Answer.{bad_shape, no_room, not_representable, number_of}
use Rattle.float_forms.specs.declared.forms.Form.{Form}
use Rattle.float_forms.specs.declared.forms.Form.TheVariants.{Long, Short}
use Rattle.float_forms.specs.Representable.{representable}
use Rattle.record_bytes.specs.Records.{Said, said_of, well_formed, every_said}
use Rattle.conversion.specs.Writing.{rewritten}

-- each float is representable
abbrev pub said_representable : Form → Said → Bool
said_representable form = every_said (representable form)

-- an answer in document 02's words: "the length written", or a refusal number
pub data Answer : Type 0 where
  written : ℕ → Answer
  refused : ℕ → Answer

-- what each case of the code's answer says
abbrev pub says : Result ℕ Refusal → Answer
says (Ok length) = written length
says (Err refusal) = refused (number_of refusal)

-- the answer, and the output area as the call returns
pub record Outcome : Type 0 where
  pub answer : Answer
  pub area : List ℕ

-- "it takes exactly one record of the version it converts from, length bytes included, else malformed", and "number 11 .. follows 2 .., and
-- 3 for a short output area, and the output area is then unchanged"
unfoldable pub converted : Form → Form → List ℕ → List ℕ → Outcome
converted p q bytes area =
    cond (well_formed p bytes)
    (cond (ltb (length area) (length (rewritten p q bytes))) record { answer = refused no_room; area = area }
    (cond (said_representable q (said_of p bytes))
    record { answer = written (length (rewritten p q bytes)); area = rewritten p q bytes ++ drop (length (rewritten p q bytes)) area }
    record { answer = refused not_representable; area = area }))
    record { answer = refused bad_shape; area = area }

abbrev pub to_short : List ℕ → List ℕ → Outcome
to_short = converted Long Short

abbrev pub to_long : List ℕ → List ℕ → Outcome
to_long = converted Short Long
