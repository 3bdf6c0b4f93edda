-- `tree_copy::copying::copy_words` meets its contract. Assumes nothing.
use Rattle.std.proofs.Common.{◌≡◌, refl, ap, ◌∙◌, arith, ℕ, List, ◌+◌, take}
use lib.ListN.{set}
use lib.Seq.{sets}
use Rattle.tree_copy.specs.Moved.{moved_up}
use Rattle.tree_copy.proofs.CopyLaws.{moved_next}
use Rattle.tree_copy.proofs.copying.copy_words.Goals as goal

pub loop-i-init : goal.loop-i-init
unfolding moved_up
loop-i-init c = refl

pub overflow_add-word : goal.overflow_add-word
overflow_add-word c = omega (arith, c.word_at.ensures, c.requires.1.small c.loop-i.i (omega arith))

pub overflow_cast-area : goal.overflow_cast-area
overflow_cast-area c = omega (arith, c.word_at.ensures, c.requires.1.small c.loop-i.i (omega arith))

pub loop-i-preserved : goal.loop-i-preserved
loop-i-preserved c =
    let l = c.loop-i in
    let a = c.args in
    ap (λ (z : List ℕ). set z (a.place + l.i) (c.word_at.result + a.up)) l.invariant
    ∙ ap (λ (w : ℕ). set (sets a.area.now a.place (moved_up a.up (take l.i a.from.now))) (a.place + l.i) (w + a.up)) c.word_at.ensures
    ∙ moved_next a.area.now a.from.now a.place l.i a.up (omega arith)

pub returns : goal.returns
returns c =
    let l = c.loop-i in
    let a = c.args in
    let e : l.i ≡ a.count = omega arith in
    l.invariant ∙ ap (λ (k : ℕ). sets a.area.now a.place (moved_up a.up (take k a.from.now))) e
