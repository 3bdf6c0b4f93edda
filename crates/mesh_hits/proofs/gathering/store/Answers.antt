-- `mesh_hits::gathering::store` meets its contract. Assumes nothing.
use Rattle.std.proofs.Common.{◌≡◌, Some, Ok, ap, ◌∙◌}
use Rattle.casts.specs.Reach.{At, says_reach}
use Rattle.mesh_hits.proofs.Storing.{stored_past, stored_hit}
use Rattle.mesh_hits.proofs.gathering.store.Goals as goal
use Rattle.mesh_hits.proofs.gathering.store.Goals.{then-hits-places, else-hits-places}

pub returns : goal.returns
returns c =
    let some : c.in-Ok-Some.field-0 ≡ Some c.in-Ok-Some.distance = rw c.in-Ok-Some.is at c.in-Ok-Some.field-0-is in
    let h : says_reach c.args.reach ≡ At c.in-Ok-Some.distance = ap says_reach (c.in-Ok-Some.is ∙ ap Ok some) in
    elim c.if-hits-places.branch [
      | then-hits-places w ↦ rw (w.indices-is, w.numbers-is) (stored_hit _ _ _ _ _ _ _ h)
      | else-hits-places w ↦ rw (w.indices-is, w.numbers-is) (stored_past _ _ _ _ _ _ _ h w.if-hits-places.false)
    ]
