-- The number, the answer and the line's end have room.
use Rattle.std.proofs.Common.{arith}
use Rattle.record_text.proofs.Storing.{put_keeps}
use Rattle.records.specs.Shapes.{parse}
use Rattle.records.proofs.Answers.{line_put}
use Rattle.records.proofs.Lengths.{length_number, length_parsed}
use Rattle.records.proofs.lines.line.Goals as goal

pub put_record-printed-requires : goal.put_record-printed-requires
put_record-printed-requires c =
    omega (arith, c.requires, c.put_number-start.ensures.behind, put_keeps c.put_number-start.ensures, length_number c.args.number)

pub put_byte-requires : goal.put_byte-requires
put_byte-requires c =
    omega (
      arith,
      c.requires,
      c.put_number-start.ensures.behind,
      put_keeps c.put_number-start.ensures,
      length_number c.args.number,
      c.put_record-printed.ensures.put.behind,
      put_keeps c.put_record-printed.ensures.put,
      length_parsed (parse c.args.source.now),
    )

pub returns : goal.returns
returns c = record {
  put = line_put _ _ c.put_number-start.ensures c.put_record-printed.ensures.put c.put_byte.ensures;
  malformed_value = c.put_record-printed.ensures.malformed_value;
}
