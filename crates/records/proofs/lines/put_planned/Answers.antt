-- What is read by the plan is what the record says.
use Rattle.std.proofs.Common.{◌≤◌, ◌+◌, sym, ap, ◌∙◌, length, take, arith, length-take-le}
use Rattle.record_text.proofs.AnswerParts.{put_as}
use Rattle.records.proofs.Reading.{plan_sizes, numbers_few, indices_few, counts_read, numbers_read, indices_read}
use Rattle.records.proofs.Reading.{read_sized, read_text}
use Rattle.records.proofs.lines.put_planned.Goals as goal

-- ---- what each call asks

pub numbers_place-place-requires : goal.numbers_place-place-requires
numbers_place-place-requires c = (plan_sizes _ _ _ c.requires.0).few

pub run_length-requires : goal.run_length-requires
run_length-requires c = let n = numbers_few _ _ _ c.requires.0 in omega (arith, n)

pub read_words-requires : goal.read_words-requires
read_words-requires c =
    let z = plan_sizes _ _ _ c.requires.0 in
    (omega (arith, c.numbers_place-first.ensures.0, z.whole), z.few)

pub read_floats-requires : goal.read_floats-requires
read_floats-requires c =
    let z = plan_sizes _ _ _ c.requires.0 in
    let n = numbers_few _ _ _ c.requires.0 in
    (omega (arith, c.numbers_place-place.ensures.0, z.whole), omega (arith, n))

pub read_words-requires-2 : goal.read_words-requires-2
read_words-requires-2 c =
    let z = plan_sizes _ _ _ c.requires.0 in
    let n = indices_few _ _ _ c.requires.0 in
    (omega (arith, c.numbers_place-place.ensures.0, c.run_length.ensures.0, z.whole), omega (arith, n))

pub read_ray-requires : goal.read_ray-requires
read_ray-requires c = let z = plan_sizes _ _ _ c.requires.0 in omega (arith, z.whole)

-- ---- the parts of the areas

pub slice_bounds-counts-end : goal.slice_bounds-counts-end
slice_bounds-counts-end c = let z = plan_sizes _ _ _ c.requires.0 in omega (arith, z.few, c.read_words.auto.out)

pub slice_bounds-put_shape-end : goal.slice_bounds-put_shape-end
slice_bounds-put_shape-end c =
    let z = plan_sizes _ _ _ c.requires.0 in
    sym (length-take-le _ _ (omega (arith, z.few, c.read_words.auto.out)))

pub shared_ref_as_front-put_shape : goal.shared_ref_as_front-put_shape
shared_ref_as_front-put_shape c = numbers_few _ _ _ c.requires.0

pub shared_ref_as_front-put_shape-2 : goal.shared_ref_as_front-put_shape-2
shared_ref_as_front-put_shape-2 c = indices_few _ _ _ c.requires.0

pub put_shape-requires : goal.put_shape-requires
put_shape-requires c =
    let p = c.args.plan in
    let k = c.requires.0 in
    let z = plan_sizes _ _ _ k in
    let n = numbers_few _ _ _ k in
    let i = indices_few _ _ _ k in
    let counts = ap (take p.counts) c.read_words.ensures ∙ counts_read c.args.form c.args.source.now p k _ _
    c.numbers_place-first.ensures.0 z.few in
    let numbers = ap (take p.numbers) c.read_floats.ensures ∙ numbers_read c.args.form c.args.source.now p k _ _
    c.numbers_place-place.ensures.0 (omega (arith, n)) in
    let few : length (take p.indices c.read_words-2.new.out) ≤ 2031
    = omega (arith, i, length-take-le p.indices c.read_words-2.new.out (omega (arith, i, c.read_words-2.auto.out))) in
    ((read_sized c.args.form c.args.source.now p k counts numbers, few), c.requires.1)

pub returns : goal.returns
returns c =
    let p = c.args.plan in
    let k = c.requires.0 in
    let z = plan_sizes _ _ _ k in
    let n = numbers_few _ _ _ k in
    let i = indices_few _ _ _ k in
    let counts = ap (take p.counts) c.read_words.ensures ∙ counts_read c.args.form c.args.source.now p k _ _
    c.numbers_place-first.ensures.0 z.few in
    let numbers = ap (take p.numbers) c.read_floats.ensures ∙ numbers_read c.args.form c.args.source.now p k _ _
    c.numbers_place-place.ensures.0 (omega (arith, n)) in
    let indices = ap (take p.indices) c.read_words-2.ensures ∙ indices_read c.args.form c.args.source.now p k _
    (c.numbers_place-place.result + c.run_length.result)
    (omega (arith, c.numbers_place-place.ensures.0, c.run_length.ensures.0)) (omega (arith, i)) in
    put_as _ (read_text c.args.form c.args.source.now p k c.read_ray.ensures counts numbers indices) c.put_shape.ensures
