-- The number, `bad` and the line's end have room.
use Rattle.std.proofs.Common.{arith}
use Rattle.record_text.proofs.Storing.{put_keeps}
use Rattle.records.proofs.Answers.{line_put}
use Rattle.records.proofs.Lengths.{length_number}
use Rattle.records.proofs.lines.bad_line.Goals as goal

pub put_text-end-requires : goal.put_text-end-requires
put_text-end-requires c =
    omega (arith, c.requires, c.put_number-start.ensures.behind, put_keeps c.put_number-start.ensures, length_number c.args.number)

pub put_byte-requires : goal.put_byte-requires
put_byte-requires c =
    omega (
      arith,
      c.requires,
      c.put_number-start.ensures.behind,
      put_keeps c.put_number-start.ensures,
      length_number c.args.number,
      c.put_text-end.ensures.behind,
      put_keeps c.put_text-end.ensures,
    )

pub returns : goal.returns
returns c = line_put _ _ c.put_number-start.ensures c.put_text-end.ensures c.put_byte.ensures
