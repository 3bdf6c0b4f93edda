-- `tree_copy::copying::copy_numbers` meets its contract. Assumes nothing.
use Rattle.std.proofs.Common.{◌≡◌, refl, ap, ◌∙◌, arith, ℕ, List, ◌+◌, take}
use lib.Ieee.{Float, nan}
use lib.ListN.{set, get_or}
use lib.Seq.{sets}
use Rattle.tree_copy.proofs.CopyLaws.{copied_next}
use Rattle.tree_copy.proofs.copying.copy_numbers.Goals as goal

pub loop-i-init : goal.loop-i-init
loop-i-init c = refl

pub loop-i-preserved : goal.loop-i-preserved
loop-i-preserved c =
    let l = c.loop-i in
    let a = c.args in
    ap (λ (z : List Float). set z (a.place + l.i) (get_or a.from.now l.i nan)) l.invariant
    ∙ copied_next a.area.now a.from.now a.place l.i nan (omega arith)

pub returns : goal.returns
returns c =
    let l = c.loop-i in
    let a = c.args in
    let e : l.i ≡ a.count = omega arith in
    l.invariant ∙ ap (λ (k : ℕ). sets a.area.now a.place (take k a.from.now)) e
