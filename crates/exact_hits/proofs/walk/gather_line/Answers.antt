-- `exact_hits::walk::gather_line` meets its contract. Assumes nothing.
use mathlib.Core.Path.{ap, ◌∙◌}
use native.Mathlib.Omega.{arith}
use Rattle.exact_hits.specs.LineWalk.{walk_box}
use Rattle.exact_hits.proofs.LineWalks.{gathers_nothing, gathers_by}
use Rattle.exact_hits.proofs.walk.gather_line.Goals as goal

-- with no node the list is empty
pub returns-then-nodes-eq0 : goal.returns-then-nodes-eq0
returns-then-nodes-eq0 c = gathers_nothing _ _ _ _ _ c.if-nodes-eq0.true

pub box_at-requires : goal.box_at-requires
box_at-requires c = omega (arith, c.requires.1.boxed, c.if-nodes-eq0.false)

pub gather_opened-requires : goal.gather_opened-requires
gather_opened-requires c = ((c.requires.0, omega (arith, c.if-nodes-eq0.false)), c.requires.1)

pub returns : goal.returns
returns c =
    gathers_by c.args.line c.args.reach _ _ _ c.walk_box-bounds.result
    (λ l e. c.walk_box-bounds.ensures l e ∙ ap (walk_box l) c.box_at.ensures) _ _ c.gather_opened.ensures
