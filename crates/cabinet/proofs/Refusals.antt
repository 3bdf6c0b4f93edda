-- The numbers of refusals in the table, of which 0 is none. Assumes nothing.
use Rattle.std.proofs.Common.{◌≡◌, refl, false}
use lib.Dec.{eqb}
use Rattle.casts.specs.Answer.{number_of}
use Rattle.casts.specs.declared.answer.Refusal.{Refusal}
use Rattle.casts.specs.declared.answer.Refusal.TheVariants.{InvalidInput, BadShape, NoRoom, WrongPose, OutOfBounds, Overflow}
use Rattle.casts.specs.declared.answer.Refusal.TheVariants.{NoNormal, NotConvergent, BadRange, LimitReached, NotRepresentable, OutOfRange}

pub some_number : (refusal : Refusal) → eqb (number_of refusal) 0 ≡ false
some_number InvalidInput = refl
some_number BadShape = refl
some_number NoRoom = refl
some_number WrongPose = refl
some_number OutOfBounds = refl
some_number Overflow = refl
some_number NoNormal = refl
some_number NotConvergent = refl
some_number BadRange = refl
some_number LimitReached = refl
some_number NotRepresentable = refl
some_number OutOfRange = refl
