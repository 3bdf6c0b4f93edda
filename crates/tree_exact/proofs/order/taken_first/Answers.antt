-- `tree_exact::order::taken_first` meets its contract. Assumes nothing.
use mathlib.Core.Path.{sym, ◌∙◌}
use Rattle.tree_exact.proofs.BoxSteps.{short_left, long_left}
use Rattle.tree_exact.proofs.order.taken_first.Goals as goal

pub is_short-requires : goal.is_short-requires
is_short-requires c = c.requires.0

-- a short segment
pub returns-then-is_short : goal.returns-then-is_short
returns-then-is_short c =
    let v = c.args in
    λ l sees. short_left l v.nodes v.node_boxes.now v.left v.right (sym (c.is_short.ensures l sees) ∙ c.if-is_short.true)

pub nearer_first-requires : goal.nearer_first-requires
nearer_first-requires c = c.requires

-- a long one
pub returns : goal.returns
returns c =
    let v = c.args in
    λ l sees. long_left l v.nodes v.node_boxes.now v.left v.right (sym (c.is_short.ensures l sees) ∙ c.if-is_short.false)
    (c.nearer_first.ensures l sees)
