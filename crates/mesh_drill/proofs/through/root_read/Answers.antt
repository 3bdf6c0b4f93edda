-- `mesh_drill::through::root_read` meets its contract. Assumes nothing.
use Rattle.std.proofs.Common.{List, sym, ap, ◌∙◌}
use lib.Ieee.{Float}
use Rattle.tree.specs.Layout.{box_at}
use Rattle.lists.proofs.JoinedTests.{test_passed, test_failed}
use Rattle.mesh_drill.proofs.Throughs.{no_root, low_out, low_in}
use Rattle.mesh_drill.proofs.through.root_read.Goals as goal

pub returns-then-nodes-eq0 : goal.returns-then-nodes-eq0
returns-then-nodes-eq0 c = λ t e b. no_root _ t e c.if-nodes-eq0.true

pub returns-then-not-all_within : goal.returns-then-not-all_within
returns-then-not-all_within c =
    λ t e b.
    low_out _ t e c.if-nodes-eq0.false c.box_at-root.result (c.box_at-root.ensures ∙ ap (λ (xs : List Float). box_at xs 0) (sym b))
    (test_failed c.all_within.ensures c.if-not-all_within.true)

pub returns : goal.returns
returns c =
    λ t e b.
    low_in _ t e c.if-nodes-eq0.false c.box_at-root.result (c.box_at-root.ensures ∙ ap (λ (xs : List Float). box_at xs 0) (sym b))
    (test_passed c.all_within.ensures c.if-not-all_within.false) _ c.all_within-2.ensures
