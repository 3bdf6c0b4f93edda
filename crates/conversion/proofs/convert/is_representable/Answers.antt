-- The ray's floats, then the shape's.
use Rattle.std.proofs.Common.{sym, ◌∙◌, arith}
use Rattle.record_bytes.proofs.PlanLaws.{sizes}
use Rattle.conversion.proofs.ConvertLaws.{ray_unrepresentable, numbers_decide}
use Rattle.conversion.proofs.convert.is_representable.Goals as goal

pub floats_representable-requires : goal.floats_representable-requires
floats_representable-requires c =
    let z = sizes _ _ _ c.requires in
    rw c.ray_count.ensures (omega (arith, z.whole))

pub returns-then-not-floats_representable : goal.returns-then-not-floats_representable
returns-then-not-floats_representable c =
    ray_unrepresentable _ _ _ (sym (rw c.ray_count.ensures at c.floats_representable.ensures) ∙ c.if-not-floats_representable.true)

pub numbers_place-place-requires : goal.numbers_place-place-requires
numbers_place-place-requires c = (sizes _ _ _ c.requires).few

pub floats_representable-requires-2 : goal.floats_representable-requires-2
floats_representable-requires-2 c =
    let z = sizes _ _ _ c.requires in
    omega (arith, z.whole, c.numbers_place-place.ensures.0)

pub returns : goal.returns
returns c =
    numbers_decide c.args.p c.args.q c.args.source.now c.args.plan c.numbers_place-place.result c.floats_representable-2.result
    (sizes _ _ _ c.requires) c.numbers_place-place.ensures.0
    (sym (rw c.ray_count.ensures at c.floats_representable.ensures) ∙ c.if-not-floats_representable.false)
    c.floats_representable-2.ensures
