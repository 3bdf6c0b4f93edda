-- `mesh_hits::places::put_normals` meets its contract. Assumes nothing.
use Rattle.std.proofs.Common.{refl, ◌∙◌, arith}
use Rattle.casts.specs.Answer.{says}
use Rattle.mesh_hits.proofs.Putting.{put_before, putting_begins, putting_goes, putting_ends}
use Rattle.mesh_hits.proofs.places.put_normals.Goals as goal

pub loop-i-init : goal.loop-i-init
loop-i-init g c = (λ j ahead. refl, λ answer n s told. putting_begins _ _ _ _ _ s)

pub cast-hit-requires : goal.cast-hit-requires
cast-hit-requires g c =
    let same = c.loop-i.invariant.0 c.loop-i.i (omega arith) in
    rw same (c.requires.1.1 _ c.loop-i-test.true)

pub loop-i-preserved : goal.loop-i-preserved
loop-i-preserved g c =
    let v = c.loop-i.invariant in
    let same = v.0 c.loop-i.i (omega arith) in (
      λ j ahead. rw c.put_place.ensures (put_before _ _ _ _ (omega arith) ∙ v.0 j (omega arith)),
      λ answer n s told.
          putting_goes answer _ _ _ _ s _ _ (v.1 answer n s told) c.loop-i-test.true (says c.cast-hit.result)
          (told _ c.loop-i-test.true _ (rw same at c.cast-hit.ensures)) _ c.put_place.auto.numbers c.put_place.ensures,
    )

pub returns : goal.returns
returns g c = λ answer n s told. putting_ends answer _ _ _ _ s _ _ (c.loop-i.invariant.1 answer n s told) (omega arith)
