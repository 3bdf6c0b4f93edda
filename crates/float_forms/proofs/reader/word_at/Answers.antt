-- Nothing past the end or with fewer than eight bytes left, else the four pairs. Assumes nothing.
use Rattle.float_forms.proofs.WordLaws.{nothing_left, from_pairs}
use native.Mathlib.Omega.{arith}
use Rattle.float_forms.proofs.reader.word_at.Goals as goal

pub returns-then-place-bytes : goal.returns-then-place-bytes
returns-then-place-bytes c = nothing_left _ _ (omega arith)

pub returns-then-bytes-place-lt8 : goal.returns-then-bytes-place-lt8
returns-then-bytes-place-lt8 c = nothing_left _ _ (omega arith)

pub returns : goal.returns
returns c = from_pairs _ _ _ (omega arith) (omega arith)
