-- `wide_integers::number::of_i64` meets its contract. Assumes nothing.
use Rattle.std.proofs.Common.{◌∙◌, arith, w64}
use mir.ValLaws.{to_z-of_z}
use Rattle.wide_integers.proofs.OperationLaws.{flag_word, whole_told}
use Rattle.wide_integers.proofs.number.of_i64.Goals as goal

pub overflow_sub-result : goal.overflow_sub-result
overflow_sub-result c = omega (arith, c.split_sign-part.ensures.below)

pub overflow_mul-result : goal.overflow_mul-result
overflow_mul-result c = record { fits = flag_word c.split_sign-part.ensures.below (omega arith) }

pub returns : goal.returns
returns c = whole_told c.split_sign-part.result c.split_sign-part.ensures ∙ to_z-of_z w64 c.args.x c.ranges.x
