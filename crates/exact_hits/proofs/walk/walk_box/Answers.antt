-- `exact_hits::walk::walk_box` meets its contract. Assumes nothing.
use mathlib.Core.Path.{sym, ◌∙◌}
use Rattle.exact_hits.specs.LineWalk.{walk_box}
use Rattle.exact_hits.proofs.walk.walk_box.Goals as goal

-- the tree's first box is in range
pub returns-then-is_read : goal.returns-then-is_read
unfolding walk_box
returns-then-is_read c = λ l e. e ∙ sym (simp (sym c.is_read.ensures ∙ c.if-is_read.true))

-- it is not
pub returns : goal.returns
unfolding walk_box
returns c = λ l e. sym (simp (sym c.is_read.ensures ∙ c.if-is_read.false))
