-- The bytes that are wrong, or the kind.
use Rattle.std.proofs.Common.{sym}
use Rattle.record_bytes.proofs.ShapeLaws.{unframed_short, unframed_length, unframed_version, framed_by_kind}
use Rattle.record_bytes.proofs.shape.framed_kind.Goals as goal

pub returns-then-length-lt6 : goal.returns-then-length-lt6
returns-then-length-lt6 c = sym (unframed_short c.args.form c.args.source.now c.if-length-lt6.true)

pub returns-then-word_at-length : goal.returns-then-word_at-length
returns-then-word_at-length c =
    sym (unframed_length c.args.form c.args.source.now c.word_at.result c.word_at.ensures.0 c.if-word_at-length.true)

pub returns-then-source-from : goal.returns-then-source-from
returns-then-source-from c =
    sym (unframed_version c.args.form c.args.source.now c.from.result c.from.ensures c.if-source-from.true)

pub returns : goal.returns
returns c =
    framed_by_kind c.args.form c.args.source.now _ _ c.word_at.ensures.0 c.if-word_at-length.false c.from.ensures c.if-source-from.false
    c.try_from.result c.ok.result c.try_from.ensures c.ok.ensures.value
