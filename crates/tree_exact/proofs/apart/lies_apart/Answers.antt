-- `tree_exact::apart::lies_apart` meets its contract. Assumes nothing.
use mathlib.Core.Path.{sym, ◌∙◌}
use mathlib.Core.Bool.{false≢true}
use Rattle.exact_triangle.specs.Reach.{corners_read}
use Rattle.tree_exact.proofs.apart.lies_apart.Goals as goal

pub returns-then-corners_touch : goal.returns-then-corners_touch
returns-then-corners_touch c = λ e. absurd (false≢true e)

pub returns : goal.returns
unfolding corners_read
returns c = λ y. record { read = sym c.corners_read.ensures ∙ y; apart = sym c.corners_touch.ensures ∙ c.if-corners_touch.false }
