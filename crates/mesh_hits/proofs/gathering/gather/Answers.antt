-- `mesh_hits::gathering::gather` meets its contract. Assumes nothing.
use Rattle.std.proofs.Common.{ℕ, List, ◌≡◌, subst, arith}
use Rattle.std.proofs.Math.Seq.{take-length}
use Rattle.casts.specs.Reach.{says_reach}
use Rattle.nearest_hit.specs.Summary.{nothing, summary_from, says_nearest_so_far}
use Rattle.mesh_hits.specs.Rows.{Stored}
use Rattle.mesh_hits.proofs.GatheredHits.{gathering_begins, gathering_goes, gathering_ends}
use Rattle.mesh_hits.proofs.Storing.{stored_few}
use Rattle.mesh_hits.proofs.gathering.gather.Goals as goal

pub loop-index-init : goal.loop-index-init
loop-index-init g c = (omega arith, λ answer told. gathering_begins _ _ _ _ _ _ _ c.empty-notes.ensures)

pub store-hits-requires : goal.store-hits-requires
store-hits-requires g c =
    let v = c.loop-index.invariant in (
      omega (arith, v.0, c.loop-index-test.true, c.well_formed),
      (omega (arith, c.loop-index.auto.indices, c.requires.1.0), omega (arith, c.loop-index.auto.numbers, c.requires.1.1)),
    )

pub loop-index-preserved : goal.loop-index-preserved
loop-index-preserved g c =
    let v = c.loop-index.invariant in
    let few = stored_few _ _ _ _ _ _ _ _ _ c.store-hits.ensures in (
      omega (arith, v.0, few),
      λ answer told.
          gathering_goes answer _ _ _ _ _ (omega arith) c.requires.1.0 c.requires.1.1 _ _ (says_reach c.cast-reach.result) _ _ _ _ _ _ _
          (v.1 answer told) c.loop-index-test.true (told _ c.loop-index-test.true _ c.cast-reach.ensures) c.note-notes.ensures
          c.store-hits.ensures c.store-hits.auto.indices c.store-hits.auto.numbers,
    )

pub returns : goal.returns
returns g c = λ answer told.
    let l = c.args.list.now in
    subst (λ (z : List ℕ). (says_nearest_so_far c.loop-index.notes ≡ summary_from answer nothing z)
    × Stored answer z c.args.places c.args.indices.now c.args.numbers.now c.loop-index.hits c.loop-index.indices c.loop-index.numbers)
    (take-length l)
    (gathering_ends answer _ _ _ _ _ (omega arith) c.requires.1.0 c.requires.1.1 _ _ _ _ _ (c.loop-index.invariant.1 answer told)
    c.loop-index-test.false)
