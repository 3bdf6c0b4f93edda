-- A text for each case, and a hit's index behind it.
use Rattle.std.proofs.Common.{ap, arith}
use Rattle.nearest_hit.specs.Nearest.{says_indexed}
use Rattle.record_text.proofs.Lengths.{length_hit}
use Rattle.record_text.proofs.Storing.{put_then, put_keeps}
use Rattle.record_text.proofs.AnswerParts.{put_as, indexed_hit_said, indexed_none_said, indexed_refused}
use Rattle.record_text.proofs.answers.put_indexed.Goals as goal

pub put_byte-next-requires : goal.put_byte-next-requires
put_byte-next-requires c =
    let h = c.in-Ok-Some.hit in
    omega (arith, c.requires, c.put_hit-behind.ensures.behind, put_keeps c.put_hit-behind.ensures, length_hit h.normal h.distance)

pub put_decimal-requires : goal.put_decimal-requires
put_decimal-requires c =
    let h = c.in-Ok-Some.hit in
    omega (
      arith,
      c.requires,
      c.put_hit-behind.ensures.behind,
      put_keeps c.put_hit-behind.ensures,
      length_hit h.normal h.distance,
      c.put_byte-next.ensures.behind,
      put_keeps c.put_byte-next.ensures,
    )

pub returns-in-Ok-Some : goal.returns-in-Ok-Some
returns-in-Ok-Some c =
    put_as _ (indexed_hit_said _ _ c.in-Ok-Some.hit c.in-Ok-Some.is (rw c.in-Ok-Some.is at c.in-Ok-Some.field-0-is))
    (put_then _ _ (put_then _ _ c.put_hit-behind.ensures c.put_byte-next.ensures) (rw c.from.ensures at c.put_decimal.ensures))

pub returns-in-Ok-None : goal.returns-in-Ok-None
returns-in-Ok-None c =
    put_as _ (indexed_none_said _ _ c.in-Ok-None.is (rw c.in-Ok-None.is at c.in-Ok-None.field-0-is)) c.put_text.ensures

pub returns-in-Err : goal.returns-in-Err
returns-in-Err c = put_as _ (indexed_refused _ _ (ap says_indexed c.in-Err.is)) c.put_refused.ensures
