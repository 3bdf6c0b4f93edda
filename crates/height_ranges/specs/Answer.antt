-- An answer in document 02's words, and what each case of the code's says. Definitions only. Assumes nothing.
use Rattle.std.specs.Prelude.{ℕ, Option, Some, None, Result, Ok, Err}
use Rattle.casts.specs.Answer.{number_of}
use Rattle.casts.specs.declared.answer.Refusal.{Refusal}

-- "a cast that answers clear, or possible with the first cell in row order that makes it so", or a refusal number
pub data Answer : Type 0 where
  clear : Answer
  possible : ℕ → Answer
  refused : ℕ → Answer

-- its cell, or its number
abbrev pub says : Result (Option ℕ) Refusal → Answer
says (Ok None) = clear
says (Ok (Some cell)) = possible cell
says (Err refusal) = refused (number_of refusal)
