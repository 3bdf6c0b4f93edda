-- A text for each case.
use Rattle.std.proofs.Common.{ap}
use Rattle.casts.specs.Answer.{says}
use Rattle.record_text.proofs.AnswerParts.{put_as, hit_said, none_said, refused_case}
use Rattle.record_text.proofs.answers.put_answer.Goals as goal

pub returns-in-Ok-Some : goal.returns-in-Ok-Some
returns-in-Ok-Some c =
    put_as _ (hit_said _ _ c.in-Ok-Some.hit c.in-Ok-Some.is (rw c.in-Ok-Some.is at c.in-Ok-Some.field-0-is)) c.put_hit.ensures

pub returns-in-Ok-None : goal.returns-in-Ok-None
returns-in-Ok-None c = put_as _ (none_said _ _ c.in-Ok-None.is (rw c.in-Ok-None.is at c.in-Ok-None.field-0-is)) c.put_text.ensures

pub returns-in-Err : goal.returns-in-Err
returns-in-Err c = put_as _ (refused_case _ _ (ap says c.in-Err.is)) c.put_refused.ensures
