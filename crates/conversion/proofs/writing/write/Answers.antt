-- Each part has room behind the one before.
use Rattle.std.proofs.Common.{◌+◌, ◌*◌, ◌≤◌, length, arith}
use Rattle.float_forms.specs.Forms.{size_of}
use Rattle.float_forms.specs.Representable.{fits_in}
use Rattle.record_bytes.specs.Records.{counts_place}
use Rattle.record_bytes.proofs.PlanLaws.{sizes}
use Rattle.conversion.proofs.WritingLaws.{kept_by, head_room, ray_room, shape_room, ray_passes, numbers_pass, all_written}
use Rattle.conversion.proofs.writing.write.Goals as goal

pub numbers_place-from-requires : goal.numbers_place-from-requires
numbers_place-from-requires c = (sizes _ _ _ c.requires.0).few

pub numbers_place-to-requires : goal.numbers_place-to-requires
numbers_place-to-requires c = (sizes _ _ _ c.requires.0).few

pub write_head-requires : goal.write_head-requires
write_head-requires c =
    let a = c.args in
    head_room a.p a.q a.source.now a.plan c.requires.1.1.1 (sizes _ _ _ c.requires.0) a.body (length a.out.now) c.requires.1.0.0
    c.requires.1.0.1

pub write_ray-requires : goal.write_ray-requires
write_ray-requires c =
    let a = c.args in
    let z = sizes _ _ _ c.requires.0 in
    let fits : counts_place a.q + 4 * a.plan.counts ≤ length a.out.now = ray_room a.p a.q a.source.now a.plan c.requires.1.1.1 z a.body
    (length a.out.now) c.requires.1.0.0 c.requires.1.0.1 in (
      (z.few, omega (arith, z.whole)),
      (
        kept_by a.out.now c.write_head.new.out _ c.write_head.auto.out fits,
        (ray_passes a.p (fits_in a.q) a.source.now c.requires.1.1.0, c.requires.1.1.1),
      ),
    )

pub write_shape-requires : goal.write_shape-requires
write_shape-requires c =
    let a = c.args in
    let z = sizes _ _ _ c.requires.0 in
    let end = c.numbers_place-to.result + size_of a.q * a.plan.numbers + 4 * a.plan.indices in
    let fits = shape_room a.p a.q a.source.now a.plan c.requires.1.1.1 z a.body (length a.out.now) c.requires.1.0.0 c.requires.1.0.1
    c.numbers_place-to.result c.numbers_place-to.ensures.0 in (
      (omega (arith, z.small), omega (arith, z.whole, c.numbers_place-from.ensures.0)),
      (
        kept_by c.write_head.new.out c.write_ray.new.out end c.write_ray.auto.out
            (kept_by a.out.now c.write_head.new.out end c.write_head.auto.out fits),
        numbers_pass a.p (fits_in a.q) a.source.now c.requires.1.1.0 a.plan c.numbers_place-from.result z c.numbers_place-from.ensures.0,
      ),
    )

pub returns : goal.returns
returns c =
    let a = c.args in
    all_written a.p a.q a.source.now a.out.now a.plan c.requires.1.1.1 (sizes _ _ _ c.requires.0) c.write_head.new.out c.write_ray.new.out
    c.write_shape.new.out a.body c.numbers_place-from.result c.numbers_place-to.result c.requires.1.0.0 c.numbers_place-from.ensures.0
    c.numbers_place-to.ensures.0 c.write_head.ensures c.write_ray.ensures c.write_shape.ensures
