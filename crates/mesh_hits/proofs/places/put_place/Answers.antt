-- `mesh_hits::places::put_place` meets its contract. Assumes nothing.
use Rattle.std.proofs.Common.{◌≡◌, Some}
use native.Mathlib.Numerals.{add-one, add-two, add-three}
use Rattle.mesh_hits.specs.HitArea.{place_of}
use Rattle.mesh_hits.proofs.places.put_place.Goals as goal

pub returns : goal.returns
unfolding place_of
returns c =
    let some : c.in-Ok-Some.field-0 ≡ Some c.in-Ok-Some.hit = rw c.in-Ok-Some.is at c.in-Ok-Some.field-0-is in
    simp (c.in-Ok-Some.is, some, add-one, add-two, add-three)
