-- What the counts say decides.
use Rattle.std.proofs.Common.{refl}
use Rattle.record_bytes.specs.Kinds.{byte_of}
use Rattle.record_bytes.proofs.ShapeLaws.{Counted, counted, unfilled_short, unfilled_many, unfilled_length, unfilled_long, fills}
use Rattle.record_bytes.proofs.shape.filled_by.Goals as goal

-- no room for the counts
pub returns-then-length-ray_length : goal.returns-then-length-ray_length
returns-then-length-ray_length c =
    unfilled_short _ _ _ _ _ c.requires c.many_counts-counts.ensures.0 c.ray_length.ensures.0 c.if-length-ray_length.true

-- more floats than any record has
pub returns-then-numbers-gt1024 : goal.returns-then-numbers-gt1024
returns-then-numbers-gt1024 c =
    let k : Counted c.args.form c.args.source.now (byte_of c.args.kind) _ _ _ =
    counted _ _ _ _ _ _ _ _ _ c.requires c.many_counts-counts.ensures.0 c.count_at-a.ensures.0 c.count_at-b.ensures.0
    c.count_at-c.ensures.0 c.many_numbers-numbers.ensures c.many_indices-indices.ensures.0 in
    unfilled_many _ _ _ _ _ _ k c.if-numbers-gt1024.true

-- not exactly filled
pub returns-then-body_length-length : goal.returns-then-body_length-length
returns-then-body_length-length c =
    let k : Counted c.args.form c.args.source.now (byte_of c.args.kind) _ _ _ =
    counted _ _ _ _ _ _ _ _ _ c.requires c.many_counts-counts.ensures.0 c.count_at-a.ensures.0 c.count_at-b.ensures.0
    c.count_at-c.ensures.0 c.many_numbers-numbers.ensures c.many_indices-indices.ensures.0 in
    unfilled_length _ _ _ _ _ _ k _ c.if-numbers-gt1024.false c.body_length.ensures.0 c.if-body_length-length.true

-- too long with floats of 8 bytes
pub returns-then-body_length-gt-LONGEST : goal.returns-then-body_length-gt-LONGEST
returns-then-body_length-gt-LONGEST c =
    let k : Counted c.args.form c.args.source.now (byte_of c.args.kind) _ _ _ =
    counted _ _ _ _ _ _ _ _ _ c.requires c.many_counts-counts.ensures.0 c.count_at-a.ensures.0 c.count_at-b.ensures.0
    c.count_at-c.ensures.0 c.many_numbers-numbers.ensures c.many_indices-indices.ensures.0 in
    unfilled_long _ _ _ _ _ _ k _ _ c.long_form-long.ensures c.if-numbers-gt1024.false c.body_length-2.ensures.0
    c.if-body_length-gt-LONGEST.true

pub returns : goal.returns
returns c =
    let k : Counted c.args.form c.args.source.now (byte_of c.args.kind) _ _ _ =
    counted _ _ _ _ _ _ _ _ _ c.requires c.many_counts-counts.ensures.0 c.count_at-a.ensures.0 c.count_at-b.ensures.0
    c.count_at-c.ensures.0 c.many_numbers-numbers.ensures c.many_indices-indices.ensures.0 in
    fills _ _ _ _ _ _ k c.args.kind refl _ _ _ c.long_form-long.ensures c.if-numbers-gt1024.false c.body_length.ensures.0
    c.if-body_length-length.false c.body_length-2.ensures.0 c.if-body_length-gt-LONGEST.false
