-- `record_text::answers::put_number` meets its contract. Assumes nothing.
use Rattle.record_text.proofs.Lengths.{length_decimal}
use Rattle.record_text.proofs.Storing.{put_keeps, put_then}
use native.Mathlib.Omega.{arith}
use Rattle.record_text.proofs.answers.put_number.Goals as goal

pub put_byte-requires : goal.put_byte-requires
put_byte-requires c =
    omega (
      arith,
      c.put_decimal-end.ensures.behind,
      put_keeps c.put_decimal-end.ensures,
      length_decimal c.args.number,
    )

pub returns : goal.returns
returns c = put_then _ _ c.put_decimal-end.ensures c.put_byte.ensures
