-- What each iteration of `mesh_hits::places::put_normals` keeps: the distances ahead, and the places behind. Assumes nothing.
use Rattle.std.proofs.Common.{ℕ, ◌*◌, ◌≤◌, ◌≡◌}
use Rattle.casts.specs.Answer.{Answer}
use Rattle.tree.specs.Layout.{number_at}
use Rattle.mesh_hits.specs.Rows.{HitsInPlaces, Recasts}
use Rattle.mesh_hits.proofs.Putting.{Putting}
use Rattle.mesh_hits.proofs.places.put_normals.Given as goal

abbrev pub invariant-loop-i : goal.invariant-loop-i
invariant-loop-i g l =
    ((j : ℕ) → l.i ≤ j → number_at l.numbers (4 * j) ≡ number_at l.fn.numbers (4 * j))
    × ((answer : ℕ → Answer) (n : ℕ) → HitsInPlaces answer n l.indices l.count l.fn.numbers
    → Recasts (goal.F-post g l.cast) answer l.indices l.count l.fn.numbers
    → Putting answer l.indices l.count l.fn.numbers l.numbers l.i)
