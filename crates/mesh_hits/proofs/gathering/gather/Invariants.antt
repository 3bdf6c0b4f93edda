-- What each iteration of `mesh_hits::gathering::gather` keeps. Assumes nothing.
use Rattle.std.proofs.Common.{ℕ, ◌≤◌, length}
use Rattle.casts.specs.Answer.{Answer}
use Rattle.nearest_hit.specs.Summary.{says_nearest_so_far}
use Rattle.mesh_hits.specs.Rows.{Reaches}
use Rattle.mesh_hits.proofs.GatheredHits.{Gathering}
use Rattle.mesh_hits.proofs.gathering.gather.Given as goal

abbrev pub invariant-loop-index : goal.invariant-loop-index
invariant-loop-index g l =
    (l.hits ≤ l.index-index)
    × ((answer : ℕ → Answer) → Reaches (goal.F-post g l.cast) answer l.list
    → Gathering answer l.list (length l.list) l.places l.fn.indices l.fn.numbers (says_nearest_so_far l.notes) l.hits l.indices l.numbers
    l.index-index)
