-- `mesh::candidates::note_all` meets its contract. What bounds the places is read of the loop's own slice, so that a bound which arithmetic
-- shows to be `found` is proved too. Assumes nothing.
use Rattle.std.proofs.Common.{ℕ, arith}
use lib.Seq.{length-take-le}
use Rattle.mesh.proofs.Folding.{listed_below, taken_at, folding_goes, folding_ends}
use Rattle.mesh.proofs.candidates.note_all.Goals as goal

pub triangle_reach-reach-requires : goal.triangle_reach-reach-requires
triangle_reach-reach-requires c =
    let t = taken_at _ _ _ c.loop-index-test.true (omega arith) in
    omega (arith, t.1, listed_below _ _ c.requires.0 _ c.loop-index.index-index c.requires.1 (omega (arith, t.0)))

-- one more triangle
pub loop-index-preserved : goal.loop-index-preserved
loop-index-preserved c =
    let t = taken_at _ _ _ c.loop-index-test.true (omega arith) in
    folding_goes _ _ _ c.requires.0 _ _ _ _ c.loop-index.invariant (omega (arith, t.0)) (rw t.1 at c.triangle_reach-reach.ensures)
    (rw t.1 at c.note-notes.ensures)

-- all of them
pub returns : goal.returns
returns c =
    folding_ends _ _ _ c.requires.0 _ _ c.loop-index.invariant (omega (arith, c.loop-index-test.false, length-take-le {A = ℕ}))
