-- A count that the kind has is read, and another is 0.
use Rattle.std.proofs.Common.{arith}
use Rattle.record_bytes.proofs.ShapeLaws.{count_read, count_none}
use Rattle.record_bytes.proofs.shape.count_at.Goals as goal

pub returns-then-i-many_counts : goal.returns-then-i-many_counts
returns-then-i-many_counts c = (
  count_read c.args.form c.args.source.now _ _ _ c.args.i _ c.requires.0 c.many_counts.ensures.0 c.ray_length.ensures.0
      c.if-i-many_counts.true c.word_at.ensures.0,
  c.word_at.ensures.1,
)

pub returns : goal.returns
returns c =
    (count_none c.args.form c.args.source.now _ _ c.args.i c.requires.0 c.many_counts.ensures.0 c.if-i-many_counts.false, omega arith)
