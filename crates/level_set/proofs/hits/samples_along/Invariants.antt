-- Each sample that was taken is the value there. Assumes nothing.
use Rattle.std.proofs.Common.{◌≡◌, ℕ, ◌<◌, get_or, length}
use lib.Ieee.{nan}
use Rattle.distance_grid.specs.Valued.{ValuedAt}
use Rattle.level_set.proofs.SampleLaws.{sample_at}
use Rattle.level_set.proofs.hits.samples_along.Given as goal

abbrev pub invariant-loop-i : goal.invariant-loop-i
invariant-loop-i l = record {
  four : length l.samples ≡ 4;
  taken : (k : ℕ) → k < l.i → sample_at l.ray l.field.grid l.field.values.now l.current l.end k ≡ ValuedAt (get_or l.samples k nan);
}
