-- `tree_exact::root::misses_root` meets its contract. Assumes nothing.
use mathlib.Core.Path.{sym, ◌∙◌}
use mathlib.Core.Bool.{false≢true}
use native.Mathlib.Omega.{arith}
use Rattle.tree_exact.proofs.RootLaws.{apart_misses}
use Rattle.tree_exact.proofs.root.misses_root.Goals as goal

-- no root
pub returns-then-nodes-eq0 : goal.returns-then-nodes-eq0
returns-then-nodes-eq0 c = λ e. absurd (false≢true e)

-- one whose box touches
pub returns-then-touches : goal.returns-then-touches
returns-then-touches c = λ e. absurd (false≢true e)

pub returns : goal.returns
returns c =
    λ y. apart_misses c.args.reach c.args.nodes c.args.node_boxes.now (omega (arith, c.if-nodes-eq0.false)) c.box_at-root.result
    c.box_at-root.ensures (sym c.touches.ensures ∙ c.if-touches.false) (sym c.is_read.ensures ∙ y)
