-- "A cast answers a hit with a unit normal and a distance, or none, or a refusal number." Definitions only. Assumes nothing.
use Rattle.std.specs.Prelude.{ℕ, Float, Option, Some, None, Result, Ok, Err}
use Rattle.vectors.specs.declared.vec3.Vec3.{Vec3}
use Rattle.casts.specs.declared.answer.Hit.{Hit}
use Rattle.casts.specs.declared.answer.Refusal.{Refusal}
use Rattle.casts.specs.declared.answer.Refusal.TheVariants.{InvalidInput, BadShape, NoRoom, WrongPose, OutOfBounds, Overflow}
use Rattle.casts.specs.declared.answer.Refusal.TheVariants.{NoNormal, NotConvergent, BadRange, LimitReached, NotRepresentable, OutOfRange}

-- the table's numbers: 1 to 8 are document 01's, 9 to 11 document 02's, 12 is the exact cast's
abbrev pub invalid_input : ℕ
invalid_input = 1

abbrev pub bad_shape : ℕ
bad_shape = 2

abbrev pub no_room : ℕ
no_room = 3

abbrev pub wrong_pose : ℕ
wrong_pose = 4

abbrev pub out_of_bounds : ℕ
out_of_bounds = 5

abbrev pub overflow : ℕ
overflow = 6

abbrev pub no_normal : ℕ
no_normal = 7

abbrev pub not_convergent : ℕ
not_convergent = 8

abbrev pub bad_range : ℕ
bad_range = 9

abbrev pub limit_reached : ℕ
limit_reached = 10

abbrev pub not_representable : ℕ
not_representable = 11

abbrev pub out_of_range : ℕ
out_of_range = 12

-- an answer in document 01's words
pub data Answer : Type 0 where
  hit : Vec3 → Float → Answer
  none : Answer
  refused : ℕ → Answer

-- the number of each refusal in the table
abbrev pub number_of : Refusal → ℕ
number_of InvalidInput = invalid_input
number_of BadShape = bad_shape
number_of NoRoom = no_room
number_of WrongPose = wrong_pose
number_of OutOfBounds = out_of_bounds
number_of Overflow = overflow
number_of NoNormal = no_normal
number_of NotConvergent = not_convergent
number_of BadRange = bad_range
number_of LimitReached = limit_reached
number_of NotRepresentable = not_representable
number_of OutOfRange = out_of_range

-- what the code's answer says: a hit's values, or a refusal's number
abbrev pub says : Result (Option Hit) Refusal → Answer
says (Ok (Some h)) = hit h.normal h.distance
says (Ok None) = none
says (Err refusal) = refused (number_of refusal)

-- a step that may overflow, and what follows with its value
abbrev pub with_value : Option Float → (Float → Answer) → Answer
with_value (Some x) next = next x
with_value None next = refused overflow

-- a normal that may not be there, and what follows with it
abbrev pub with_normal : Option Vec3 → ℕ → (Vec3 → Answer) → Answer
with_normal (Some normal) number next = next normal
with_normal None number next = refused number
