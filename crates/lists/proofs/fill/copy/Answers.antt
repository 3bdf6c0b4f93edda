-- A store at the first place that is not copied yet. Assumes nothing.
use Rattle.std.proofs.Common.{◌≡◌, ℕ, ◌+◌, List, ◌++◌, take, drop, refl, sym, ap, ◌∙◌, arith, add-one, length, set}
use lib.ListN.{get_or}
use lib.Seq.{length-take-le, take-suc, take-length}
use Rattle.lists.proofs.Runs.{stored_after}
use Rattle.lists.proofs.fill.copy.Goals as goal

pub loop-i-init : goal.loop-i-init
loop-i-init c = refl

pub loop-i-preserved : goal.loop-i-preserved
loop-i-preserved c =
    let i = c.loop-i.i in
    let from = c.args.from.now in
    let v = get_or from i 0 in
    ap (λ (z : List ℕ). set z i v) c.loop-i.invariant
    ∙ stored_after (take i from) c.args.to.now i v 0 (length-take-le i from (omega arith)) (omega arith)
    ∙ ap (λ (z : List ℕ). z ++ drop (i + 1) c.args.to.now)
    (sym (take-suc from i 0 (omega arith)) ∙ ap (λ (k : ℕ). take k from) (sym (add-one i)))

pub returns : goal.returns
returns c =
    let from = c.args.from.now in
    let e : c.loop-i.i ≡ length from = omega arith in
    c.loop-i.invariant ∙ ap (λ (k : ℕ). take k from ++ drop k c.args.to.now) e
    ∙ ap (λ (z : List ℕ). z ++ drop (length from) c.args.to.now) (take-length from)
