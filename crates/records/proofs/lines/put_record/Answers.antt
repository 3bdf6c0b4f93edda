-- `bad`, or what the record says.
use Rattle.std.proofs.Common.{sym}
use Rattle.record_bytes.proofs.PlanLaws.{known, not_formed}
use Rattle.record_text.proofs.AnswerParts.{put_as}
use Rattle.records.proofs.Answers.{bad_text, good_text}
use Rattle.records.proofs.lines.put_record.Goals as goal

pub returns-in_default : goal.returns-in_default
returns-in_default c =
    let bad = bad_text _ c.form_at-form.ensures (not_formed _ _ (sym c.in_default.ensures)) in
    record { put = put_as _ bad.0 c.put_text.ensures; malformed_value = bad.1 }

pub put_planned-end-requires : goal.put_planned-end-requires
put_planned-end-requires c = (known _ _ _ (sym c.in-Some.ensures), c.requires)

pub returns : goal.returns
returns c =
    let good = good_text _ c.form_at-form.ensures (known _ _ _ (sym c.in-Some.ensures)).well_formed in
    record { put = put_as _ good.0 c.put_planned-end.ensures; malformed_value = good.1 }
