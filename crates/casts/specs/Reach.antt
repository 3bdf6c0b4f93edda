-- An answer without its normal: what decides which of many triangles is the nearest. Definitions only. Assumes nothing.
use Rattle.std.specs.Prelude.{ℕ, Float, Option, Some, None, Result, Ok, Err}
use Rattle.casts.specs.Answer.{Answer, hit, none, refused, number_of}
use Rattle.casts.specs.declared.answer.Refusal.{Refusal}

-- an answer without the normal
pub data Reach : Type 0 where
  At : Float → Reach
  Miss : Reach
  Refused : ℕ → Reach

-- what the code's answer says: a hit's distance, or a refusal's number
abbrev pub says_reach : Result (Option Float) Refusal → Reach
says_reach (Ok (Some distance)) = At distance
says_reach (Ok None) = Miss
says_reach (Err refusal) = Refused (number_of refusal)

unfoldable pub reach_of : Answer → Reach
reach_of (hit normal distance) = At distance
reach_of none = Miss
reach_of (refused number) = Refused number
