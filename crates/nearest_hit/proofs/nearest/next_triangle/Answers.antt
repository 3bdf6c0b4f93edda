-- `nearest_hit::nearest::next_triangle` meets its contract. Assumes nothing.
use mathlib.Core.Path.{ap, ◌∙◌}
use Rattle.nearest_hit.specs.Nearest.{next_of}
use Rattle.nearest_hit.proofs.NextLaws.{next_none}
use Rattle.nearest_hit.proofs.nearest.next_triangle.Goals as goal

-- it misses
pub returns-in-Ok-None : goal.returns-in-Ok-None
returns-in-Ok-None c = next_none _ _ ∙ ap (next_of _ _) (rw c.in-Ok-None.field-0-is at c.in-Ok-None.ensures)
