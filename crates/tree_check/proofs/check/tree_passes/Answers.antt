-- `tree_check::check::tree_passes` meets its contract. Assumes nothing.
use Rattle.tree_check.proofs.Passes.{readable, passes_empty, passes_not_many, passes_not_words, passes_boxes}
use native.Mathlib.Omega.{arith}
use mathlib.Core.Path.{sym, ◌∙◌}
use Rattle.tree_check.proofs.check.tree_passes.Goals as goal

pub returns-then-n-eq0 : goal.returns-then-n-eq0
returns-then-n-eq0 c = passes_empty _ _ c.if-n-eq0.true

pub returns-then-nodes-n : goal.returns-then-nodes-n
returns-then-nodes-n c = passes_not_many _ _ c.if-n-eq0.false c.if-nodes-n.true

pub words_pass-requires : goal.words_pass-requires
words_pass-requires c = (c.requires.few, (c.if-nodes-n.false, (omega (arith, c.requires), (c.requires.order_long, c.requires.marks_long))))

pub returns-then-not-words_pass : goal.returns-then-not-words_pass
returns-then-not-words_pass c =
    passes_not_words _ _ c.if-n-eq0.false c.if-nodes-n.false
    (sym c.words_pass.ensures ∙ c.if-not-words_pass.true)

pub boxes_pass-requires : goal.boxes_pass-requires
boxes_pass-requires c = (
  (omega arith, c.requires.triangle_boxes_long),
  readable _ _ _ _
      (sym c.words_pass.ensures ∙ c.if-not-words_pass.false) _ _ _ c.requires
      c.if-nodes-n.false,
)

pub returns : goal.returns
returns c =
    c.boxes_pass.ensures ∙ passes_boxes _ _ c.if-n-eq0.false c.if-nodes-n.false
    (sym c.words_pass.ensures ∙ c.if-not-words_pass.false)
